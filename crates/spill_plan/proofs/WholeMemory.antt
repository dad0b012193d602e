-- With nothing on disk, what a step needs for itself and what is held across it are the memory while its task runs: an item that is held
-- and not read at the step waits for just one of its readers.
use Rattle.std.proofs.Common.{◌≡◌, ◌≢◌, ℕ, suc, ◌+◌, ◌-◌, ◌<◌, ◌≤◌, Bool, true, false, cond, not, refl, sym, subst, ap, arith, ◌∙◌}
use Rattle.std.proofs.Common.{List, [], ◌∷◌, ◌++◌, length, length-append, take, drop, map, get_or, Option, None, inl, inr}
use Rattle.std.specs.Prelude.{◌==◌, ◌⊎◌, nat_lt, nat_le, ◌&&◌, ◌||◌, min}
use Rattle.std.specs.List.{All, list_any, list_all, sum_by}
use Rattle.std.proofs.lemmas.Bool.{eq-eqb, ne_eqb, true≢false, le-ltb, lt-ltb}
use Rattle.std.proofs.lemmas.List.Elements.{All-get_or, All-from_get_or, All-head, All-tail, All-cons, All-nil, All-weaker}
use Rattle.std.specs.List.Sorted.{IsStrictlyIncreasing}
use Rattle.std.proofs.Math.Seq.{get_or-append_seam, take-append_seam}
use Rattle.std.proofs.lemmas.List.Folds.{list_all_at, list_any_at}
use Rattle.std.proofs.lemmas.List.Sums.{sum_by-cons}
use Rattle.lists.proofs.Bools.{true_or_false}
use Rattle.lists.proofs.Lists.{sum_by-map}
use Rattle.mp_system.specs.Memory.{stands_in, is_done_or}
use Rattle.shared_systems.specs.Shared.{SharedTaskSystem, SharedItem, HasTask, is_read_by, shared_size_if, shared_item_at}
use Rattle.shared_systems.specs.SharedMemory.{is_made, is_held, shared_memory, shared_running, has_inputs}
use Rattle.shared_systems.specs.SharedTraversal.{IsSharedTraversal}
use Rattle.shared_systems.specs.Bounds.{IsSharedSystem, IsSharedItemWithin}
use Rattle.spill_plan.specs.Steps.{step_of}
use Rattle.spill_plan.specs.SpillPlans.{sum_from}
use Rattle.spill_plan.specs.Gaps.{Gap, gap_to, gaps_to, gaps_of_item, gaps_of, stands_before, is_across_gap}
use Rattle.spill_plan.specs.Gaps.{own_gap_need, gap_kept}
use Rattle.spill_plan.proofs.OrderSteps.{stands-take, split_at}
use Rattle.spill_plan.proofs.SpanSums.{split}
use Rattle.spill_plan.proofs.GapSpans.{reads_at, sum-each, sum-gaps, placed}

-- ---- the first of some steps from a place on, or the end

abbrev next_from : ℕ → ℕ → List ℕ → ℕ
next_from k far [] = far
next_from k far (s ∷ steps) = cond (nat_le k s) (min s (next_from k far steps)) (next_from k far steps)

le-yes : (k s x y : ℕ) → k ≤ s → cond (nat_le k s) x y ≡ x
le-yes k s x y h = grind arith

le-no : (k s x y : ℕ) → s < k → cond (nat_le k s) x y ≡ y
le-no k s x y h = grind arith

test-late : (e s k r : ℕ) → k ≤ s → nat_le e (min s r) ≡ ((nat_lt s k || nat_le e s) && nat_le e r)
test-late e s k r h = grind arith

test-early : (e s k r : ℕ) → s < k → nat_le e r ≡ ((nat_lt s k || nat_le e s) && nat_le e r)
test-early e s k r h = grind arith

le-true : (e far : ℕ) → e ≤ far → nat_le e far ≡ true
le-true e far h = grind arith

next-test : (step : ℕ → ℕ) (k far e : ℕ) (cs : List ℕ) → e ≤ far
    → nat_le e (next_from k far (map step cs)) ≡ list_all (λ c. nat_lt (step c) k || nat_le e (step c)) cs
next-test step k far e [] low = le-true e far low
next-test step k far e (c ∷ cs) low =
    let s = step c in
    let r = next_from k far (map step cs) in
    let rest = ap (λ (b : Bool). (nat_lt s k || nat_le e s) && b) (next-test step k far e cs low) in
    split k s
    (λ late. ap (nat_le e) (le-yes k s (min s r) r late) ∙ test-late e s k r late ∙ rest)
    (λ early. ap (nat_le e) (le-no k s (min s r) r early) ∙ test-early e s k r early ∙ rest)

-- it is at most each of them from the place on
next-least : (step : ℕ → ℕ) (k far : ℕ) (cs : List ℕ) → All (λ c. k ≤ step c → next_from k far (map step cs) ≤ step c) cs
next-least step k far [] = All-nil (λ c. k ≤ step c → far ≤ step c)
next-least step k far (c ∷ cs) =
    let s = step c in
    let r = next_from k far (map step cs) in
    let n = next_from k far (map step (c ∷ cs)) in
    let low : n ≤ r =
    split k s (λ late. omega (arith, le-yes k s (min s r) r late)) (λ early. omega (arith, le-no k s (min s r) r early)) in
    All-cons (λ d. k ≤ step d → n ≤ step d) c cs (λ late. omega (arith, le-yes k s (min s r) r late))
    (All-weaker (λ d. k ≤ step d → r ≤ step d) (λ d. k ≤ step d → n ≤ step d) (λ d at late. omega (arith, at late, low)) cs
    (next-least step k far cs))

-- it is the end, or one of them from the place on
next-is : (step : ℕ → ℕ) (k far : ℕ) (cs : List ℕ) → (next_from k far (map step cs) ≡ far)
    ⊎ ((j : ℕ) × (j < length cs) × (step (get_or cs j 0) ≡ next_from k far (map step cs)) × (k ≤ step (get_or cs j 0)))
next-is step k far [] = inl refl
next-is step k far (c ∷ cs) =
    let s = step c in
    let r = next_from k far (map step cs) in
    elim (next-is step k far cs) [
      | inl end ↦ split k s
          (λ late. split r s
          (λ high. inl (omega (arith, le-yes k s (min s r) r late, end, high)))
          (λ low. inr (0, omega arith, omega (arith, le-yes k s (min s r) r late, low), late)))
          (λ early. inl (omega (arith, le-no k s (min s r) r early, end)))
      | inr found ↦ split k s
          (λ late. split r s
          (λ high. inr (suc found.0, omega (arith, found.1), omega (arith, le-yes k s (min s r) r late, high, found.2), found.3))
          (λ low. inr (0, omega arith, omega (arith, le-yes k s (min s r) r late, low), late)))
          (λ early. inr (suc found.0, omega (arith, found.1), omega (arith, le-no k s (min s r) r early, found.2), found.3))
    ]

-- ---- one item

-- a reader is waited for where it stands at that step, after the place
pick : (k s n : ℕ) → (k ≤ s → n ≤ s) → (nat_lt k s && nat_le s n) ≡ (nat_lt k n && (s == n))
pick k s n low = split s k
    (λ early. both-no k s n early)
    (λ late. let h = low (omega arith) in split s n
    (λ there. both-yes k s n late (omega arith))
    (λ before. both-less k s n before))
  where
    both-no : (k s n : ℕ) → s ≤ k → (nat_lt k s && nat_le s n) ≡ (nat_lt k n && (s == n))
    both-no k s n h = grind arith

    both-yes : (k s n : ℕ) → k < s → s ≡ n → (nat_lt k s && nat_le s n) ≡ (nat_lt k n && (s == n))
    both-yes k s n h e = grind arith

    both-less : (k s n : ℕ) → n < s → (nat_lt k s && nat_le s n) ≡ (nat_lt k n && (s == n))
    both-less k s n h = grind arith

gated : (b : Bool) (step : ℕ → ℕ) (n size : ℕ) (cs : List ℕ)
    → sum_by (λ c. cond (b && (step c == n)) size 0) cs ≡ cond b (sum_by (λ c. cond (step c == n) size 0) cs) 0
gated true step n size cs = refl
gated false step n size [] = refl
gated false step n size (c ∷ cs) = omega (
  arith,
  sum_by-cons (λ d. cond (false && (step d == n)) size 0) c cs,
  gated false step n size cs,
)

nowhere : (step : ℕ → ℕ) (far size : ℕ) (cs : List ℕ) → All (λ c. step c < far) cs → sum_by (λ c. cond (step c == far) size 0) cs ≡ 0
nowhere step far size [] inside = refl
nowhere step far size (c ∷ cs) inside =
    let here = All-head (λ d. step d < far) c cs inside in
    let none : ◌≡◌ {A = ℕ} (cond (step c == far) size 0) 0 = rw (ne_eqb (step c) far (λ e. omega arith)) refl in
    omega (
      arith,
      sum_by-cons (λ d. cond (step d == far) size 0) c cs,
      none,
      nowhere step far size cs (All-tail (λ d. step d < far) c cs inside),
    )

-- the sum for a list whose steps differ, where one of them stands at this one
module _ (system : SharedTaskSystem) (order : List ℕ) (within : IsSharedSystem system) (traversal : IsSharedTraversal system order) (k : ℕ)
    (inside : k < length order) where
  abbrev step : ℕ → ℕ
  step = step_of order

  abbrev far : ℕ
  far = length order

  abbrev waits : (cs : List ℕ) (c : ℕ) → Bool
  waits cs c = nat_lt k (step c) && list_all (λ d. nat_lt (step d) k || nat_le (step c) (step d)) cs

  -- the readers of an item, and what is known of them
  record AreReaders (cs : List ℕ) : Type 0 where
    tasks : All (HasTask system) cs
    steps : All (λ c. step c < far) cs
    rising : IsStrictlyIncreasing cs

  -- the sizes of the gaps before readers, where the item is made
  gaps-sum : (size : ℕ) (cs : List ℕ) → AreReaders cs
      → sum_by (λ c. cond (waits cs c) size 0) cs
      ≡ cond (nat_lt k (next_from k far (map step cs))) (sum_by (λ c. cond (step c == next_from k far (map step cs)) size 0) cs) 0
  gaps-sum size cs are =
      let n = next_from k far (map step cs) in
      sum-each (λ c. cond (waits cs c) size 0) (λ c. cond (nat_lt k n && (step c == n)) size 0) cs
      (All-from_get_or (λ c. cond (waits cs c) size 0 ≡ cond (nat_lt k n && (step c == n)) size 0) cs 0 (λ j l.
      let c = get_or cs j 0 in
      let low : step c ≤ far = let s = All-get_or (λ d. step d < far) cs j 0 l are.steps in omega (arith, s) in
      let least = All-get_or (λ d. k ≤ step d → n ≤ step d) cs j 0 l (next-least step k far cs) in
      ap (λ b. cond b size 0) (ap (λ b. nat_lt k (step c) && b) (sym (next-test step k far (step c) cs low)) ∙ pick k (step c) n least)))
      ∙ gated (nat_lt k n) step n size cs

  -- what is read and what waits is what is held, of an item that is made
  made-item : (size : ℕ) (cs : List ℕ) → AreReaders cs
      → cond (list_any (λ c. c == get_or order k 0) cs) size 0 + sum_by (λ c. cond (waits cs c) size 0) cs
      ≡ cond (not (list_all (λ c. nat_lt (step c) k) cs)) size 0
  made-item size cs are =
      let n = next_from k far (map step cs) in
      let v = get_or order k 0 in
      let read : cond (list_any (λ c. c == v) cs) size 0 ≡ sum_by (λ c. cond (step c == k) size 0) cs =
      sym (reads_at system order within traversal k size inside cs are.tasks are.rising) in
      let sum = gaps-sum size cs are in
      elim (next-is step k far cs) [
        | inl end ↦ (
            let early = All-from_get_or (λ c. step c < k) cs 0 (λ j l.
            let s = All-get_or (λ d. step d < far) cs j 0 l are.steps in
            let least = All-get_or (λ d. k ≤ step d → n ≤ step d) cs j 0 l (next-least step k far cs) in
            split k (step (get_or cs j 0)) (λ late. absurd (omega (arith, s, least late, end))) (λ h. h)) in
            let none_now : sum_by (λ c. cond (step c == k) size 0) cs ≡ 0 = nowhere step k size cs early in
            let none_later : sum_by (λ c. cond (step c == n) size 0) cs ≡ 0 =
            ap (λ e. sum_by (λ c. cond (step c == e) size 0) cs) end ∙ nowhere step far size cs are.steps in
            let gaps : cond (nat_lt k n) (sum_by (λ c. cond (step c == n) size 0) cs) 0 ≡ 0 =
            cond-zero (nat_lt k n) (sum_by (λ c. cond (step c == n) size 0) cs) none_later in
            let all : ◌≡◌ {A = ℕ} (cond (not (list_all (λ c. nat_lt (step c) k) cs)) size 0) 0 =
            ap (λ b. cond (not b) size 0) (all-early cs early) in
            omega (arith, read, none_now, sum, gaps, all))
        | inr found ↦ (
            let j = found.0 in
            let c = get_or cs j 0 in
            let n_in : n < far = let s = All-get_or (λ d. step d < far) cs j 0 found.1 are.steps in omega (arith, s, found.2) in
            let whole : sum_by (λ d. cond (step d == n) size 0) cs ≡ size =
            reads_at system order within traversal n size n_in cs are.tasks are.rising
            ∙ ap (λ b. cond b size 0) (list_any_at (λ d. d == get_or order n 0) cs j 0 found.1
            (eq-eqb c (get_or order n 0) (stands c n (All-get_or (HasTask system) cs j 0 found.1 are.tasks) found.2))) in
            let not_all : ◌≡◌ {A = ℕ} (cond (not (list_all (λ d. nat_lt (step d) k) cs)) size 0) size =
            ap (λ b. cond (not b) size 0) (list_all_at (λ d. nat_lt (step d) k) cs j 0 found.1 (le-ltb (step c) k found.3)) in
            split n k
            (λ now. let e : n ≡ k = omega (arith, found.2, found.3) in
            let here : sum_by (λ d. cond (step d == k) size 0) cs ≡ size =
            sym (ap (λ m. sum_by (λ d. cond (step d == m) size 0) cs) e) ∙ whole in
            let gaps : cond (nat_lt k n) (sum_by (λ d. cond (step d == n) size 0) cs) 0 ≡ 0 =
            ap (λ b. cond b (sum_by (λ d. cond (step d == n) size 0) cs) 0) (le-ltb k n now) in
            omega (arith, read, here, sum, gaps, not_all))
            (λ later. let none_now : sum_by (λ d. cond (step d == k) size 0) cs ≡ 0 =
            absent k size cs (All-from_get_or (λ d. step d ≢ k) cs 0 (λ i l e.
            let least = All-get_or (λ d. k ≤ step d → n ≤ step d) cs i 0 l (next-least step k far cs) in
            absurd (omega (arith, e, later, least (omega (arith, e)))))) in
            let gaps : cond (nat_lt k n) (sum_by (λ d. cond (step d == n) size 0) cs) 0 ≡ size =
            ap (λ b. cond b (sum_by (λ d. cond (step d == n) size 0) cs) 0) (lt-ltb k n later) ∙ whole in
            omega (arith, read, none_now, sum, gaps, not_all)))
      ]
    where
      cond-zero : (b : Bool) (n : ℕ) → n ≡ 0 → cond b n 0 ≡ 0
      cond-zero true n e = e
      cond-zero false n e = refl

      all-early : (cs : List ℕ) → All (λ c. step c < k) cs → list_all (λ c. nat_lt (step c) k) cs ≡ true
      all-early [] early = refl
      all-early (c ∷ cs) early = λ i. lt-ltb (step c) k (All-head (λ d. step d < k) c cs early) i
          && all-early cs (All-tail (λ d. step d < k) c cs early) i

      stands : (c n : ℕ) → HasTask system c → step c ≡ n → c ≡ get_or order n 0
      stands c n task e = sym (placed system order within traversal c task).1 ∙ ap (λ j. get_or order j 0) e

      absent : (n size : ℕ) (cs : List ℕ) → All (λ c. step c ≢ n) cs → sum_by (λ c. cond (step c == n) size 0) cs ≡ 0
      absent n size [] other = refl
      absent n size (c ∷ cs) other =
          let none : ◌≡◌ {A = ℕ} (cond (step c == n) size 0) 0 =
          ap (λ b. cond b size 0) (ne_eqb (step c) n (All-head (λ d. step d ≢ n) c cs other)) in
          omega (
            arith,
            sum_by-cons (λ d. cond (step d == n) size 0) c cs,
            none,
            absent n size cs (All-tail (λ d. step d ≢ n) c cs other),
          )

  -- of an item that may not be made yet
  gated-item : (made : Bool) (size : ℕ) (cs : List ℕ) → AreReaders cs → (list_any (λ c. c == get_or order k 0) cs ≡ true → made ≡ true)
      → cond (list_any (λ c. c == get_or order k 0) cs) size 0 + sum_by (λ c. cond (made && waits cs c) size 0) cs
      ≡ cond (made && not (list_all (λ c. nat_lt (step c) k) cs)) size 0
  gated-item true size cs are ready = made-item size cs are
  gated-item false size cs are ready = elim (true_or_false (list_any (λ c. c == get_or order k 0) cs)) [
    | inl reads ↦ absurd (true≢false (sym (ready reads)))
    | inr none ↦ (
        let unread : ◌≡◌ {A = ℕ} (cond (list_any (λ c. c == get_or order k 0) cs) size 0) 0 = ap (λ b. cond b size 0) none in
        omega (arith, unread, nothing cs))
  ]
    where
      nothing : (ds : List ℕ) → sum_by (λ c. cond (false && waits cs c) size 0) ds ≡ 0
      nothing [] = refl
      nothing (d ∷ ds) = omega (arith, sum_by-cons (λ c. cond (false && waits cs c) size 0) d ds, nothing ds)

  item-memory : (size : ℕ) (from : Option ℕ) (cs : List ℕ) → AreReaders cs
      → (list_any (λ c. c == get_or order k 0) cs ≡ true → is_done_or true (stands_before order k) from ≡ true)
      → cond (list_any (λ c. c == get_or order k 0) cs) size 0
      + sum_by (λ g. cond (is_across_gap order k g) g.item.size 0) (gaps_to (record { size = size; from = from; readers = cs }) cs)
      ≡ shared_size_if (is_held (stands_before order k)) (record { size = size; from = from; readers = cs })
  item-memory size from [] are ready = omega (
    arith,
    sum_by-cons (λ g. cond (is_across_gap order k g) g.item.size 0)
        (record { item = record { size = size; from = from; readers = [] }; reader = None }) [],
  )
  item-memory size from (c ∷ cs) are ready =
      let x : SharedItem = record { size = size; from = from; readers = c ∷ cs } in
      let gaps = sum_by-map (λ g. cond (is_across_gap order k g) g.item.size 0) (gap_to x) (c ∷ cs) in
      omega (arith, gaps, gated-item (is_done_or true (stands_before order k) from) size (c ∷ cs) are ready)

  same-done : stands_in (take k order) ≡ stands_before order k
  same-done = λ i u. stands-take order u k (omega arith) i

  readers-of : (i : ℕ) → i < length system.items → AreReaders (shared_item_at system.items i).readers
  readers-of i h =
      let at = All-get_or (IsSharedItemWithin (length system.tasks)) system.items i (shared_item_at [] 0) h within.items in
      record {
        tasks = at.readers;
        steps = All-weaker (HasTask system) (λ c. step c < far) (λ c task. (placed system order within traversal c task).0)
            (shared_item_at system.items i).readers at.readers;
        rising = at.rising;
      }

  -- what the task of the step reads is made
  read-made : (i : ℕ) → i < length system.items → is_read_by (get_or order k 0) (shared_item_at system.items i) ≡ true
      → is_made (stands_before order k) (shared_item_at system.items i) ≡ true
  read-made i h reads =
      let x = shared_item_at system.items i in
      let v = get_or order k 0 in
      let ready : has_inputs system (stands_before order k) v ≡ true =
      subst (λ done. has_inputs system done v ≡ true) same-done
      (traversal.after_suppliers (take k order) (drop (suc k) order) v (split_at order k inside)) in
      elim (true_or_false (is_made (stands_before order k) x)) [
        | inl made ↦ made
        | inr lacks ↦ absurd (
            let fails : (not (is_read_by v x) || is_made (stands_before order k) x) ≡ false = rw (reads, lacks) refl in
            true≢false (sym ready ∙ list_all_at (λ y. not (is_read_by v y) || is_made (stands_before order k) y) system.items i
            (shared_item_at [] 0) h fails))
      ]

  whole-step : own_gap_need system order k + gap_kept system order k (λ i. 0)
      ≡ shared_running system (stands_in (take k order)) (get_or order k 0)
  whole-step =
      let v = get_or order k 0 in
      let kept : gap_kept system order k (λ i. 0)
      ≡ sum_by (λ x. sum_by (λ g. cond (is_across_gap order k g) g.item.size 0) (gaps_of_item x)) system.items =
      unplaced (is_across_gap order k) 0 (gaps_of system)
      ∙ sum-gaps (λ g. cond (is_across_gap order k g) g.item.size 0) gaps_of_item system.items in
      let all = added (shared_size_if (is_read_by v)) (λ x. sum_by (λ g. cond (is_across_gap order k g) g.item.size 0) (gaps_of_item x))
      (shared_size_if (is_held (stands_before order k))) system.items
      (All-from_get_or (λ x. shared_size_if (is_read_by v) x + sum_by (λ g. cond (is_across_gap order k g) g.item.size 0) (gaps_of_item x)
      ≡ shared_size_if (is_held (stands_before order k)) x) system.items (shared_item_at [] 0)
      (λ i h. item-memory (shared_item_at system.items i).size (shared_item_at system.items i).from (shared_item_at system.items i).readers
      (readers-of i h) (read-made i h))) in
      let memory : shared_memory system (stands_in (take k order)) ≡ shared_memory system (stands_before order k) =
      ap (shared_memory system) same-done in
      omega (arith, kept, all, memory)
    where
      less-none : (b : Bool) (n : ℕ) → cond b (n - 0) 0 ≡ cond b n 0
      less-none true n = omega arith
      less-none false n = refl

      unplaced : (b : Gap → Bool) (base : ℕ) (gs : List Gap)
          → sum_from base (λ i g. cond (b g) (g.item.size - 0) 0) gs ≡ sum_by (λ g. cond (b g) g.item.size 0) gs
      unplaced b base [] = refl
      unplaced b base (g ∷ gs) = omega (
        arith,
        less-none (b g) g.item.size,
        sum_by-cons (λ h. cond (b h) h.item.size 0) g gs,
        unplaced b (suc base) gs,
      )

      added : (f g h : SharedItem → ℕ) (xs : List SharedItem) → All (λ x. f x + g x ≡ h x) xs → sum_by f xs + sum_by g xs ≡ sum_by h xs
      added f g h [] each = refl
      added f g h (x ∷ xs) each = omega (
        arith,
        sum_by-cons f x xs,
        sum_by-cons g x xs,
        sum_by-cons h x xs,
        All-head (λ y. f y + g y ≡ h y) x xs each,
        added f g h xs (All-tail (λ y. f y + g y ≡ h y) x xs each),
      )

pub whole-memory : (system : SharedTaskSystem) (order before rest : List ℕ) (v : ℕ) → IsSharedSystem system → IsSharedTraversal system order
    → order ≡ before ++ v ∷ rest
    → own_gap_need system order (length before) + gap_kept system order (length before) (λ gap. 0)
    ≡ shared_running system (stands_in before) v
whole-memory system order before rest v within traversal is =
    let k = length before in
    let inside : k < length order = rw is (simp length-append (omega arith)) in
    let start : take k order ≡ before = ap (take k) is ∙ take-append_seam before (v ∷ rest) in
    let here : get_or order k 0 ≡ v = ap (λ (xs : List ℕ). get_or xs k 0) is ∙ get_or-append_seam before v rest 0 in
    whole-step system order within traversal k inside ∙ (λ i. shared_running system (stands_in (start i)) (here i))
