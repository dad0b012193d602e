-- At every moment used memory is at most the bound that amounts certify: what is present is a cut of them.
use Rattle.std.proofs.Common.{◌≡◌, ℕ, zero, suc, ◌+◌, ◌-◌, ◌≤◌, max, Bool, true, false, cond, not, ◌&&◌, ◌||◌, eqb, eq-eqb, List, [], ◌∷◌, length, map, refl, arith, Option, Some, None}
use Rattle.std.specs.Prelude.{All}
use Rattle.std.specs.List.{list_all, zip}
use Rattle.std.specs.Option.{ForSome}
use Rattle.std.proofs.lemmas.List.Elements.{All-head, All-tail}
use Rattle.std.proofs.lemmas.List.Sums.{sum_by-cons}
use Rattle.std.proofs.lemmas.Bool.{and_parts}
use Rattle.mp_system.specs.declared.system.Item.{Item}
use Rattle.mp_system.specs.System.{TaskSystem, IsItemWithin, IsTask, is_named, is_input, size_if, size_where, inputs_of, need_of}
use Rattle.mp_system.specs.Memory.{is_done_or, is_produced, is_present}
use Rattle.fences.specs.Moments.{Moment, IsMoment, numbers_of, used_memory}
use Rattle.fences.specs.Amounts.{AreHandedOn, with_size, carrying, received_by, handed_on_by, drawn_by, certified_bound}
use Rattle.fences.proofs.Swaps.{count_of, once_in_range, sums_le, part, swap}

-- ---- one item

-- what is present, with an amount in the place of what a running task consumes
one_cut : (produced done running : Bool) (s f : ℕ) → s ≤ f → (done ≡ true → produced ≡ true) → (running ≡ true → produced ≡ true) → (running ≡ true → done ≡ false)
    → cond (produced && not done) s 0 + cond running f 0 + cond done f 0 ≤ cond produced f 0 + cond running s 0
one_cut true true true s f le d r once = absurd (let h = once refl in cc)
one_cut true true false s f le d r once = omega arith
one_cut true false true s f le d r once = omega arith
one_cut true false false s f le d r once = omega arith
one_cut false true running s f le d r once = absurd (let h = d refl in cc)
one_cut false false true s f le d r once = absurd (let h = r refl in cc)
one_cut false false false s f le d r once = omega arith

supplied : (input produced : Bool) → (not input || produced) ≡ true → input ≡ true → produced ≡ true
supplied true produced h e = h
supplied false produced h e = absurd cc

module _ (done running : ℕ → Bool) where
  -- an item comes from nothing, or from a task that is done
  split : (from to : Option ℕ) (f : ℕ) → cond (is_done_or true done from) f 0 ≡ cond (is_done_or true (λ _. false) from && not (is_done_or false (λ _. false) to)) f 0 + cond (is_done_or false done from) f 0
  split None None f = omega arith
  split None (Some w) f = omega arith
  split (Some u) to f = omega arith

  consumed : (test : ℕ → Bool) (to : Option ℕ) (produced : Bool) → ((v : ℕ) → test v ≡ true → (not (is_named to v) || produced) ≡ true) → is_done_or false test to ≡ true → produced ≡ true
  consumed test None produced each e = absurd cc
  consumed test (Some w) produced each e = supplied (eqb w w) produced (each w e) (eq-eqb w w refl)

  apart : (to : Option ℕ) → ((v : ℕ) → running v ≡ true → done v ≡ false) → is_done_or false running to ≡ true → is_done_or false done to ≡ false
  apart None once e = refl
  apart (Some w) once e = once w e

  -- what the items have to do with the moment
  pub record Stands (items : List Item) : Type 0 where
    pub done_ready : (v : ℕ) → done v ≡ true → list_all (λ item. not (is_input v item) || is_produced done item) items ≡ true
    pub running_ready : (v : ℕ) → running v ≡ true → list_all (λ item. not (is_input v item) || is_produced done item) items ≡ true

  module _ (once : (v : ℕ) → running v ≡ true → done v ≡ false) where
    cut_here : (item : Item) (items : List Item) (f : ℕ) → item.size ≤ f → Stands (item ∷ items)
        → size_if (is_present done) item + size_if (λ i. is_done_or false running i.to) (with_size (item, f)) + size_if (λ i. is_done_or false done i.to) (with_size (item, f))
        ≤ size_if (is_present (λ _. false)) (with_size (item, f)) + size_if (λ i. is_done_or false done i.from) (with_size (item, f)) + size_if (λ i. is_done_or false running i.to) item
    cut_here item items f le stands =
        let head : (v : ℕ) → list_all (λ i. not (is_input v i) || is_produced done i) (item ∷ items) ≡ true → (not (is_input v item) || is_produced done item) ≡ true =
        λ v h. (and_parts (not (is_input v item) || is_produced done item) (list_all (λ i. not (is_input v i) || is_produced done i) items) h).0 in
        let one = one_cut (is_produced done item) (is_done_or false done item.to) (is_done_or false running item.to) item.size f le
        (consumed done item.to (is_produced done item) (λ v e. head v (stands.done_ready v e)))
        (consumed running item.to (is_produced done item) (λ v e. head v (stands.running_ready v e)))
        (apart item.to once) in
        omega (arith, one, split item.from item.to f)

    rest_stands : (item : Item) (items : List Item) → Stands (item ∷ items) → Stands items
    rest_stands item items stands =
        let tail : (v : ℕ) → list_all (λ i. not (is_input v i) || is_produced done i) (item ∷ items) ≡ true → list_all (λ i. not (is_input v i) || is_produced done i) items ≡ true =
        λ v h. (and_parts (not (is_input v item) || is_produced done item) (list_all (λ i. not (is_input v i) || is_produced done i) items) h).1 in
        record { done_ready = λ v e. tail v (stands.done_ready v e); running_ready = λ v e. tail v (stands.running_ready v e) }

    pub cut : (items : List Item) (amounts : List ℕ) → length amounts ≡ length items → All (λ p. p.0.size ≤ p.1) (zip items amounts) → Stands items
        → size_where (is_present done) items + size_where (λ i. is_done_or false running i.to) (map with_size (zip items amounts)) + size_where (λ i. is_done_or false done i.to) (map with_size (zip items amounts))
        ≤ size_where (is_present (λ _. false)) (map with_size (zip items amounts)) + size_where (λ i. is_done_or false done i.from) (map with_size (zip items amounts)) + size_where (λ i. is_done_or false running i.to) items
    cut [] amounts long covers stands = omega arith
    cut (item ∷ items) [] long covers stands = absurd cc
    cut (item ∷ items) (f ∷ amounts) long covers stands =
        let more = map with_size (zip items amounts) in
        let here = cut_here item items f (All-head (λ p. p.0.size ≤ p.1) (item, f) (zip items amounts) covers) stands in
        let there = cut items amounts (omega (arith, long)) (All-tail (λ p. p.0.size ≤ p.1) (item, f) (zip items amounts) covers) (rest_stands item items stands) in
        omega (
          arith,
          here,
          there,
          sum_by-cons (size_if (is_present done)) item items,
          sum_by-cons (size_if (λ i. is_done_or false running i.to)) (with_size (item, f)) more,
          sum_by-cons (size_if (λ i. is_done_or false done i.to)) (with_size (item, f)) more,
          sum_by-cons (size_if (is_present (λ _. false))) (with_size (item, f)) more,
          sum_by-cons (size_if (λ i. is_done_or false done i.from)) (with_size (item, f)) more,
          sum_by-cons (size_if (λ i. is_done_or false running i.to)) item items,
        )

-- ---- the ends of the items are tasks

module _ (system : TaskSystem) where
  counted : (o : Option ℕ) → ForSome o (IsTask system) → ForSome o (λ u. count_of (numbers_of system) u ≡ 1)
  counted o within u is = let task = within u is in once_in_range 1 (length system.tasks) u task.0 (omega (arith, task.1))

  pub carried : (P : Item → Type 0) → ((item : Item) (f : ℕ) → P item → P (with_size (item, f))) → (items : List Item) (amounts : List ℕ) → All P items → All P (map with_size (zip items amounts))
  carried P kept [] amounts each i d lt = absurd (omega arith)
  carried P kept (item ∷ items) [] each i d lt = absurd (omega arith)
  carried P kept (item ∷ items) (f ∷ amounts) each zero d lt = kept item f (All-head P item items each)
  carried P kept (item ∷ items) (f ∷ amounts) each (suc i) d lt = carried P kept items amounts (All-tail P item items each) i d (omega arith)

-- ---- one task

one_task : (running done : Bool) (need input received handed_on : ℕ) → (running ≡ true → done ≡ false)
    → cond running need 0 + cond running input 0 + cond done handed_on 0 ≤ cond running received 0 + cond done received 0 + (max (input + need) handed_on - received)
one_task true true need input received handed_on once = absurd (let h = once refl in cc)
one_task true false need input received handed_on once = omega arith
one_task false true need input received handed_on once = omega arith
one_task false false need input received handed_on once = omega arith

pub used-le : (system : TaskSystem) (amounts : List ℕ) (moment : Moment) → All (IsItemWithin system) system.items
    → AreHandedOn system amounts → IsMoment system moment → used_memory system moment ≤ certified_bound system amounts
used-le system amounts moment within is stands =
    let done = moment.done in
    let running = moment.running in
    let ns = numbers_of system in
    let more = (carrying system amounts).items in
    let to_once : All (λ item. ForSome item.to (λ u. count_of ns u ≡ 1)) system.items = λ i d lt. counted system _ ((within i d lt).consumer) in
    let from_once : All (λ item. ForSome item.from (λ u. count_of ns u ≡ 1)) system.items = λ i d lt. counted system _ ((within i d lt).producer) in
    let to_more = carried system (λ item. ForSome item.to (λ u. count_of ns u ≡ 1)) (λ item f h. h) system.items amounts to_once in
    let from_more = carried system (λ item. ForSome item.from (λ u. count_of ns u ≡ 1)) (λ item f h. h) system.items amounts from_once in
    let items = cut done running stands.once system.items amounts is.long is.covers (record { done_ready = stands.done_ready; running_ready = stands.running_ready }) in
    let tasks = sums_le (λ v. cond (running v) (need_of system v) 0) (part running (λ i. i.to) system.items) (part done (λ i. i.from) more)
    (part running (λ i. i.to) more) (part done (λ i. i.to) more) (drawn_by system amounts)
    (λ v. one_task (running v) (done v) (need_of system v) (inputs_of system v) (received_by system amounts v) (handed_on_by system amounts v) (stands.once v)) ns in
    omega (arith, items, tasks, swap running (λ i. i.to) ns system.items to_once, swap done (λ i. i.from) ns more from_more, swap running (λ i. i.to) ns more to_more, swap done (λ i. i.to) ns more to_more)
