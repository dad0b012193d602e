-- What a state tells of its tasks, one item further, and of one task.
use Rattle.std.proofs.Common.{◌≡◌, ℕ, ◌+◌, ◌<◌, ◌≤◌, Bool, true, false, cond, ◌&&◌, not, eqb, eq-eqb, List, length, get_or, set, take}
use Rattle.std.proofs.Common.{length-take, get_or-take, sym, ap, ◌∙◌, arith, inl, inr}
use Rattle.std.specs.List.{list_any}
use Rattle.std.specs.List.Sorted.{IsStrictlyIncreasing}
use Rattle.std.proofs.lemmas.Bool.{cases_eq, and_parts, eqb-true, ne_eqb, false_from_ne_true}
use Rattle.std.proofs.lemmas.List.{get_or-set_same, get_or-set_other}
use Rattle.std.proofs.lemmas.List.Folds.{list_any_more}
use Rattle.row_table.proofs.NumberLists.{rises}
use Rattle.lists.proofs.Bools.{or_true, or_false, false_of_not}
use Rattle.limits.specs.Limits.{most_total}
use Rattle.mp_system.specs.Replay.{is_marked}
use Rattle.shared_systems.specs.Shared.{SharedTaskSystem, shared_outputs_of}
use Rattle.shared_systems.specs.SharedMemory.{is_held}
use Rattle.shared_systems.specs.Bounds.{IsSharedSystem}
use Rattle.shared_systems.proofs.KeySums.{where-le}
use Rattle.state_search.specs.States.{without, memory_in, memory_before, has_successor}
use Rattle.state_search.specs.Views.{is_regained, regained_of}
use Rattle.state_search.proofs.ListTests.{any_place}
use Rattle.state_search.proofs.ItemMarks.{memory_back}
use Rattle.state_search.proofs.Reaches.{loses}

-- ---- sizes added at tasks that rise

module _ (tasks : List ℕ) (rising : IsStrictlyIncreasing tasks) (i : ℕ) (lt : i < length tasks) where
  -- the next task is none of those before it
  pub not_before : list_any (λ c. eqb c (get_or tasks i 0)) (take i tasks) ≡ false
  not_before = false_from_ne_true (list_any (λ c. eqb c (get_or tasks i 0)) (take i tasks)) (λ some.
      let found = any_place (λ c. eqb c (get_or tasks i 0)) 0 (take i tasks) some in
      let below : found.0 < i = omega (arith, found.1, length-take i tasks) in
      let same = eqb-true (get_or (take i tasks) found.0 0) (get_or tasks i 0) found.2 in
      omega (arith, same, get_or-take i tasks found.0 0 below, rises tasks rising found.0 i below lt))

  module _ (first now : List ℕ) (size : ℕ)
      (are : (v : ℕ) → get_or now v 0 ≡ get_or first v 0 + cond (list_any (λ c. eqb c v) (take i tasks)) size 0) where
    pub as_first : get_or now (get_or tasks i 0) 0 ≡ get_or first (get_or tasks i 0) 0
    as_first = are (get_or tasks i 0) ∙ rw not_before (omega arith)

    pub size_added : get_or tasks i 0 < length now → (v : ℕ)
        → get_or (set now (get_or tasks i 0) (get_or now (get_or tasks i 0) 0 + size)) v 0
        ≡ get_or first v 0 + cond (list_any (λ c. eqb c v) (take (i + 1) tasks)) size 0
    size_added inside v =
        let task = get_or tasks i 0 in
        let more = list_any_more (λ c. eqb c v) tasks i 0 lt in
        elim (cases_eq v task) [
          | inl same ↦ (
              let here = get_or-set_same now task (get_or now task 0 + size) 0 inside in
              let place = ap (λ (k : ℕ). get_or (set now task (get_or now task 0 + size)) k 0) same in
              let one : list_any (λ c. eqb c v) (take (i + 1) tasks) ≡ true = more ∙ rw (eq-eqb task v (sym same)) (or_true (list_any (λ c. eqb c v) (take i tasks))) in
              rw one (omega (arith, place, here, as_first, ap (λ (k : ℕ). get_or first k 0) same)))
          | inr other ↦ (
              let none : list_any (λ c. eqb c v) (take (i + 1) tasks) ≡ list_any (λ c. eqb c v) (take i tasks) =
              more ∙ rw (ne_eqb task v (λ e. other (sym e))) (or_false (list_any (λ c. eqb c v) (take i tasks))) in
              rw none (get_or-set_other now task v (get_or now task 0 + size) 0 other ∙ are v))
        ]

-- ---- a task that can be the last

module _ (system : SharedTaskSystem) (is : IsSharedSystem system) (marks : List Bool) (v : ℕ) where
  free_parts : (is_marked marks v && not (has_successor system marks v)) ≡ true
      → (is_marked marks v ≡ true) × (has_successor system marks v ≡ false)
  free_parts e =
      let parts = and_parts (is_marked marks v) (not (has_successor system marks v)) e in
      (parts.0, false_of_not (has_successor system marks v) parts.1)

  pub memory_small : memory_in system marks ≤ most_total
  memory_small = omega (arith, where-le (is_held (is_marked marks)) system.items, is.total)

  pub regained_small : regained_of system marks v ≤ most_total
  regained_small = omega (arith, where-le (is_regained marks v) system.items, is.total)

  pub before_small : memory_before system marks v ≤ most_total
  before_small = omega (arith, where-le (is_held (is_marked (without marks v))) system.items, is.total)

  pub before_sum : (is_marked marks v && not (has_successor system marks v)) ≡ true
      → memory_before system marks v + shared_outputs_of system v ≡ memory_in system marks + regained_of system marks v
  before_sum e =
      let parts = free_parts e in
      memory_back (is_marked marks) (is_marked (without marks v)) v (loses marks v parts.0) parts.0 system parts.1
