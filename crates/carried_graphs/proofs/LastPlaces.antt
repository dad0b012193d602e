-- Last readers by the places of tasks in two orders that tell which tasks come after which.
use Rattle.std.proofs.Common.{◌≡◌, ℕ, ◌-◌, ◌<◌, ◌≤◌, true, ◌&&◌, eqb, ltb, List, [], ◌∷◌, ◌++◌, length, length-append}
use Rattle.std.proofs.Common.{take, get_or, refl, sym, ap, subst, ◌∙◌, arith, inl, inr}
use Rattle.std.specs.Prelude.{All, ◌≢◌}
use Rattle.std.specs.List.{after_first}
use Rattle.std.proofs.lemmas.List.{take_all}
use Rattle.std.proofs.lemmas.List.Sums.{split_at_first, passes_at_first}
use Rattle.std.proofs.lemmas.List.Elements.{All-head, All-tail, All-push}
use Rattle.std.proofs.lemmas.Bool.{cases_eq, and_parts, or_cases, eqb-true, ltb-true, lt-ltb, true_from_ne_false}
use Rattle.lists.specs.Numbers.{IsFirstWithout}
use Rattle.mp_system.specs.Memory.{stands_in}
use Rattle.mp_system.proofs.Counts.{uncounted}
use Rattle.graphs.specs.Graph.{IsAmong}
use Rattle.graphs.proofs.Standing.{stands-left, stands-new}
use Rattle.shared_systems.specs.Shared.{SharedTaskSystem, SharedItem, HasTask, is_read_by, shared_item_at}
use Rattle.shared_systems.specs.SharedTraversal.{IsSharedTraversal}
use Rattle.shared_systems.specs.Bounds.{IsSharedSystem}
use Rattle.shared_systems.specs.Places.{place_in, last_place}
use Rattle.shared_systems.proofs.OrderPlaces.{place-le, all_take}
use Rattle.shared_systems.specs.Paths.{ComesAfter, StandsBefore, IsRealizer}
use Rattle.carried_graphs.specs.Carried.{IsLastReader, IsLastIfAny, AreLastReaders}
use Rattle.carried_graphs.specs.Places.{IsGreatest, AreGreatest, IsFirstOther, readers_at}
use Rattle.carried_graphs.specs.Refusal.{HasLastIfAny}
use Rattle.carried_graphs.proofs.Following.{follows, traversal_keeps, reader_task}

-- ---- one reader more

pub greatest_new : (place : ℕ → ℕ) (xs : List ℕ) (last x : ℕ) → IsGreatest place xs last
    → (0 < length xs → place last ≤ place x) → IsGreatest place (xs ++ x ∷ []) x
greatest_new place xs last x old above = record {
  some = λ lt. stands-new xs x;
  none = λ none. absurd (omega (arith, none, length-append xs (x ∷ [])));
  greatest = All-push (λ c. place c ≤ place x) xs x
      (λ i d lt. let le = old.greatest i d lt in omega (arith, le, above (omega arith))) (omega arith);
}

pub greatest_old : (place : ℕ → ℕ) (xs : List ℕ) (last x : ℕ) → IsGreatest place xs last
    → 0 < length xs → place x ≤ place last → IsGreatest place (xs ++ x ∷ []) last
greatest_old place xs last x old some below = record {
  some = λ lt. stands-left xs (x ∷ []) last (old.some some);
  none = λ none. absurd (omega (arith, none, length-append xs (x ∷ [])));
  greatest = All-push (λ c. place c ≤ place last) xs x old.greatest below;
}

-- ---- places in a traversal

stands_at : (order : List ℕ) (i v : ℕ) → i ≤ length order → stands_in (take i order) v ≡ true → place_in order v < i
stands_at order i v le e =
    let all : (stands_in (take i order) v && true) ≡ true = rw e refl in
    let test : ltb (last_place (place_in order) (v ∷ [])) i ≡ true = sym (all_take order i le v []) ∙ all in
    omega (arith, ltb-true (last_place (place_in order) (v ∷ [])) i test)

at_stands : (order : List ℕ) (i v : ℕ) → i ≤ length order → place_in order v < i → stands_in (take i order) v ≡ true
at_stands order i v le lt =
    let test : ltb (last_place (place_in order) (v ∷ [])) i ≡ true = lt-ltb (last_place (place_in order) (v ∷ [])) i (omega arith) in
    let all : (stands_in (take i order) v && true) ≡ true = all_take order i le v [] ∙ test in
    (and_parts (stands_in (take i order) v) true all).0

module _ (system : SharedTaskSystem) (order : List ℕ) (traversal : IsSharedTraversal system order) where
  stands : (v : ℕ) → HasTask system v → stands_in order v ≡ true
  stands v task = true_from_ne_false (stands_in order v) (λ missing. omega (arith, uncounted order v missing, traversal.once v task))

  place_lt : (v : ℕ) → HasTask system v → place_in order v < length order
  place_lt v task =
      let whole : stands_in (take (length order) order) v ≡ true =
      ap (λ (l : List ℕ). stands_in l v) (take_all (length order) order (omega arith)) ∙ stands v task in
      stands_at order (length order) v (omega arith) whole

  at_place : (v : ℕ) → HasTask system v → get_or order (place_in order v) 0 ≡ v
  at_place v task =
      eqb-true (get_or order (place_in order v) 0) v (passes_at_first (λ u. eqb u v) order 0 (place_lt v task))

  split_at : (v : ℕ) → HasTask system v → order ≡ take (place_in order v) order ++ v ∷ after_first (λ u. eqb u v) order
  split_at v task =
      split_at_first (λ u. eqb u v) order 0 (place_lt v task)
      ∙ ap (λ (w : ℕ). take (place_in order v) order ++ w ∷ after_first (λ u. eqb u v) order) (at_place v task)

  apart : (u v : ℕ) → HasTask system u → HasTask system v → place_in order u ≡ place_in order v → u ≡ v
  apart u v task other same = sym (at_place u task) ∙ ap (λ (i : ℕ). get_or order i 0) same ∙ at_place v other

  before_place : (u v : ℕ) → HasTask system v → place_in order u < place_in order v → StandsBefore order u v
  before_place u v task lt = record {
    before = take (place_in order v) order;
    rest = after_first (λ w. eqb w v) order;
    split = split_at v task;
    stands = at_stands order (place_in order v) u (place-le order v) lt;
  }

  after_place : (u v : ℕ) → HasTask system v → ComesAfter system u v → place_in order u < place_in order v
  after_place u v task path =
      stands_at order (place_in order v) u (place-le order v)
      (follows system order (traversal_keeps system order traversal) u v path
      (take (place_in order v) order) (after_first (λ w. eqb w v) order) (split_at v task))

  -- ---- the places of a table

  module _ (places : List ℕ) (places_are : (v : ℕ) → v ≤ length system.tasks → get_or places v 0 ≡ place_in order v)
      (x : SharedItem) (z : ℕ) (within : All (IsAmong (length system.tasks)) x.readers)
      (is : IsGreatest (λ v. get_or places v 0) x.readers z) where
    among : (r : ℕ) → is_read_by r x ≡ true → HasTask system r
    among r e = reader_task (length system.tasks) r x.readers within e

    least_place : (r : ℕ) (cs : List ℕ) → All (λ c. get_or places c 0 ≤ get_or places z 0) cs → stands_in cs r ≡ true
        → get_or places r 0 ≤ get_or places z 0
    least_place r [] each e = absurd cc
    least_place r (c ∷ cs) each e = elim (or_cases (eqb c r) (stands_in cs r) e) [
      | inl here ↦
          subst (λ (d : ℕ). get_or places d 0 ≤ get_or places z 0) (eqb-true c r here)
          (All-head (λ d. get_or places d 0 ≤ get_or places z 0) c cs each)
      | inr later ↦ least_place r cs (All-tail (λ d. get_or places d 0 ≤ get_or places z 0) c cs each) later
    ]

    -- another reader stands before the greatest
    pub earlier : (r : ℕ) → is_read_by r x ≡ true → r ≢ z → 0 < length x.readers → StandsBefore order r z
    earlier r e other some =
        let task = among z (is.some some) in
        let le = least_place r x.readers is.greatest e in
        let here = places_are r (among r e).1 in
        let there = places_are z task.1 in
        let ne : place_in order r ≡ place_in order z → ⊥ = λ same. other (apart r z (among r e) task same) in
        before_place r z task (omega (arith, le, here, there, ne))

    -- a last reader is the greatest
    pub greatest_is : (w : ℕ) → IsLastReader system x w → 0 < length x.readers → w ≡ z
    greatest_is w last some = elim (cases_eq z w) [
      | inl same ↦ sym same
      | inr other ↦ (
          let lt = after_place z w (among w last.reads) (last.others z (is.some some) other) in
          let le = least_place w x.readers is.greatest last.reads in
          absurd (omega (arith, lt, le, places_are w (among w last.reads).1, places_are z (among z (is.some some)).1)))
    ]

-- ---- all items

module _ (system : SharedTaskSystem) (is : IsSharedSystem system) (first second : List ℕ) (realizer : IsRealizer system first second)
    (in_first in_second lasts : List ℕ) (len : length lasts ≡ length system.items)
    (first_are : (v : ℕ) → v ≤ length system.tasks → get_or in_first v 0 ≡ place_in first v)
    (second_are : (v : ℕ) → v ≤ length system.tasks → get_or in_second v 0 ≡ place_in second v)
    (by_first : AreGreatest (λ v. get_or in_first v 0) system.items lasts (length system.items)) where
  readers_among : (i : ℕ) → i < length system.items → All (IsAmong (length system.tasks)) (readers_at system.items i)
  readers_among i lt = (is.items i _ lt).readers

  last_at : (i : ℕ) → i < length system.items → IsGreatest (λ v. get_or in_second v 0) (readers_at system.items i) (get_or lasts i 0)
      → IsLastIfAny system (shared_item_at system.items i) (get_or lasts i 0)
  last_at i lt by_second =
      let x = shared_item_at system.items i in
      let z = get_or lasts i 0 in
      record {
        some = λ some. record {
          reads = (by_first i lt).some some;
          others = λ r e other. realizer.both r z
              (earlier system first realizer.first_traversal in_first first_are x z (readers_among i lt) (by_first i lt) r e other some)
              (earlier system second realizer.second_traversal in_second second_are x z (readers_among i lt) by_second r e other some);
        };
        none = (by_first i lt).none;
      }

  pub lasts_are : AreGreatest (λ v. get_or in_second v 0) system.items lasts (length system.items) → AreLastReaders system lasts
  lasts_are by_second = record { len = len; each = λ i lt. last_at i lt (by_second i lt) }

  pub none_is : (k : ℕ) → IsFirstOther (λ v. get_or in_second v 0) system.items lasts k
      → IsFirstWithout (length system.items) (λ place. HasLastIfAny system (shared_item_at system.items (place - 1))) k
  none_is k other = record {
    is_place = (other.some, other.within);
    fails = λ has. (
        let i = k - 1 in
        let lt : i < length system.items = omega (arith, other.some, other.within) in
        let x = shared_item_at system.items i in
        elim (cases_eq (length x.readers) 0) [
          | inl none ↦ other.apart (other.greatest.none none ∙ sym ((by_first i lt).none none))
          | inr any ↦ (
              let some : 0 < length x.readers = omega (arith, any) in
              let w = has some in
              let one = greatest_is system first realizer.first_traversal in_first first_are x (get_or lasts i 0)
              (readers_among i lt) (by_first i lt) w.0 w.1 some in
              let two = greatest_is system second realizer.second_traversal in_second second_are x other.other
              (readers_among i lt) other.greatest w.0 w.1 some in
              other.apart (sym two ∙ one))
        ]);
    before = λ earlier_place some lt any. (
        let i = earlier_place - 1 in
        let short : i < k - 1 = omega arith in
        let inside : i < length system.items = omega (arith, other.within) in
        (get_or lasts i 0, (last_at i inside (other.before i short)).some any));
  }

-- ---- as the code holds them

pub moved : (places table lasts : List ℕ) (xs ys : List SharedItem) → places ≡ table → xs ≡ ys
    → AreGreatest (λ v. get_or places v 0) xs lasts (length xs) → AreGreatest (λ v. get_or table v 0) ys lasts (length ys)
moved places table lasts xs ys places_are items_are h =
    subst (λ (l : List ℕ). AreGreatest (λ v. get_or l v 0) ys lasts (length ys)) places_are
    (subst (λ (l : List SharedItem). AreGreatest (λ v. get_or places v 0) l lasts (length l)) items_are h)

pub moved_other : (places table lasts others : List ℕ) (xs ys : List SharedItem) (k : ℕ) → places ≡ table → xs ≡ ys → lasts ≡ others
    → IsFirstOther (λ v. get_or places v 0) xs lasts k → IsFirstOther (λ v. get_or table v 0) ys others k
moved_other places table lasts others xs ys k places_are items_are lasts_are h =
    subst (λ (l : List ℕ). IsFirstOther (λ v. get_or l v 0) ys others k) places_are
    (subst (λ (l : List SharedItem). IsFirstOther (λ v. get_or places v 0) l others k) items_are
    (subst (λ (l : List ℕ). IsFirstOther (λ v. get_or places v 0) xs l k) lasts_are h))
