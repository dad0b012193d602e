-- What is found of all blockers, part by part.
use Rattle.std.proofs.Common.{◌≡◌, ℕ, zero, suc, ◌+◌, ◌-◌, ◌*◌, ◌/◌, ◌%◌, ◌<◌, ◌≤◌, min, List, length, Option, Some, None, Result, Ok, inl, inr, sym, ap, subst, arith}
use Rattle.std.specs.Prelude.{slice_index_or, MatchOption, IfOk}
use Rattle.std.proofs.lemmas.Bool.{cases_lt}
use Rattle.shared_systems.specs.Shared.{SharedTaskSystem}
use Rattle.peak_bounds.specs.declared.evidence.Evidence.TheVariants.{Set}
use Rattle.peak_bounds.specs.declared.evidence.BlockerTest.{BlockerTest}
use Rattle.peak_bounds.specs.declared.evidence.Objection.{Objection}
use Rattle.peak_bounds.specs.declared.evidence.Objection.TheVariants as objections
use Rattle.peak_bounds.specs.EventSets.{EventSetValue}
use Rattle.peak_bounds.specs.Evidence.{blocker_at, IsEventSet, IsFirstFailing, IsObjection}
use Rattle.peak_bounds.specs.declared.judging.FormTest.TheVariants as forms
use Rattle.peak_bounds.specs.Judged.{IsFormed, PassesAtMoment, FailsAtMoment, IsFoundIn, AreFoundIn, IsFirstFound}
use Rattle.peak_bounds.proofs.Verdicts.{first_failing, all_pass}

module _ (system : SharedTaskSystem) (set : EventSetValue) (bound : ℕ) (formed : IsFormed system set bound) where
  failing : (test : BlockerTest) (place : ℕ) → 0 < place → place ≤ length set.blockers → FailsAtMoment system set bound test place
      → ((k : ℕ) → 0 < k → k < place → PassesAtMoment system set bound k) → IsFirstFailing system set bound test place
  failing test place low high fails before =
      let same : place - 1 + 1 ≡ place = omega (arith, low) in
      subst (IsFirstFailing system set bound test) same
      (first_failing system set bound formed (place - 1) (omega (arith, low, high)) (λ k some less. before k some (omega (arith, less, same))) test
      (subst (FailsAtMoment system set bound test) (sym same) fails))

  pub judged_set : (found : Option Objection) → IsFoundIn system set bound 0 (length set.blockers) found
      → MatchOption found (IsEventSet system set bound) (IsObjection system (Set set) bound)
  judged_set None passes =
      all_pass system set bound formed (length set.blockers) (omega arith) (λ k low less. passes k (omega (arith, low)) (omega (arith, less)))
  judged_set (Some objections.NoTask) found = absurd found
  judged_set (Some objections.Low) found = absurd found
  judged_set (Some objections.Empty) found = absurd found
  judged_set (Some objections.Base) found = absurd found
  judged_set (Some (objections.Blocker test place)) found = failing test place found.0 found.1 found.2 found.3

-- ---- chunks

module _ (system : SharedTaskSystem) (set : EventSetValue) (bound : ℕ) where
  -- the tasks rise from 1 on, so there are at most as many blockers as tasks
  task-ge : IsFormed system set bound → (k : ℕ) → k ≤ length set.blockers → k ≤ (blocker_at set k).task
  task-ge formed zero within = omega arith
  task-ge formed (suc k) within = elim (cases_lt k 1) [
    | inl first ↦ (let task = formed.each forms.Task (suc k) (omega arith, within) in omega (arith, task.0, first))
    | inr later ↦ (
        let rises = formed.each forms.Rising (suc k) (omega arith, within) (omega (arith, later)) in
        let same = ap (λ (j : ℕ). (blocker_at set j).task) (let e : suc k - 1 ≡ k = omega arith in e) in
        omega (arith, rises, same, task-ge formed k (omega (arith, within))))
  ]

  pub few : IsFormed system set bound → length set.blockers ≤ length system.tasks
  few formed =
      let last = formed.each forms.Task (length set.blockers) (formed.some, omega arith) in
      omega (arith, last.1, task-ge formed (length set.blockers) (omega arith))

  module _ {E : Type 0} (size : ℕ) (found : List (Result (Option Objection) E)) (each : AreFoundIn system set bound size found) (d : Result (Option Objection) E) where
    -- what is found in a chunk
    found_at : (n : ℕ) (o : Option Objection) → n < length found → slice_index_or found n d ≡ Ok o
        → IsFoundIn system set bound (n * size) (n * size + min size (length set.blockers - n * size)) o
    found_at n o lt is =
        subst (λ (r : Result (Option Objection) E). IfOk r (IsFoundIn system set bound (n * size) (n * size + min size (length set.blockers - n * size)))) is (each n d lt)

    -- the blockers of the chunks before n pass, where nothing is found in these
    pass_before : (n : ℕ) → n ≤ length found → ((m : ℕ) → m < n → slice_index_or found m d ≡ Ok None)
        → (k : ℕ) → 0 < k → k ≤ n * size → k ≤ length set.blockers → PassesAtMoment system set bound k
    pass_before zero within none k low high inside = absurd (omega (arith, low, high))
    pass_before (suc n) within none k low high inside = elim (cases_lt (n * size) k) [
      | inl here ↦ found_at n None (omega (arith, within)) (none n (omega arith)) k here (omega (arith, high, inside, here))
      | inr before ↦ pass_before n (omega (arith, within)) (λ m less. none m (omega (arith, less))) k low before inside
    ]

    pub joined : length set.blockers ≤ length found * size → (o : Option Objection) → IsFirstFound found o → IsFoundIn system set bound 0 (length set.blockers) o
    joined covered None none = λ k low high.
        pass_before (length found) (omega arith) (λ m less. none m d less) k low (omega (arith, high, covered)) high
    joined covered (Some o) first = in_chunk o (found_at first.0 (Some o) first.1 (first.2 d)) where
      in_chunk : (o : Objection) → IsFoundIn system set bound (first.0 * size) (first.0 * size + min size (length set.blockers - first.0 * size)) (Some o)
          → IsFoundIn system set bound 0 (length set.blockers) (Some o)
      in_chunk objections.NoTask is = absurd is
      in_chunk objections.Low is = absurd is
      in_chunk objections.Empty is = absurd is
      in_chunk objections.Base is = absurd is
      in_chunk (objections.Blocker test place) is = (
        omega (arith, is.0),
        omega (arith, is.0, is.1),
        is.2,
        λ k low less. elim (cases_lt (first.0 * size) k) [
          | inl here ↦ is.3 k here less
          | inr before ↦ pass_before first.0 (omega (arith, first.1)) (λ m less. first.3 m d less) k low before (omega (arith, less, is.0, is.1))
        ],
      )

-- the chunks cover the whole
pub covers : (count size chunks : ℕ) → 0 < size → chunks ≡ count / size + min 1 (count % size) → count ≤ chunks * size
covers count size chunks some is = elim (cases_lt (count % size) 1) [
  | inl none ↦ (let e : chunks ≡ count / size = omega (arith, none, is) in rw e (omega (arith, none, some)))
  | inr rest ↦ (let e : chunks ≡ count / size + 1 = omega (arith, rest, is) in rw e (omega (arith, some)))
]
