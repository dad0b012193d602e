-- What a run of a shared system that keeps to fences uses: no more than the collected system with the fences at the moment that stands for it.
use Rattle.std.proofs.Common.{◌≡◌, ℕ, zero, suc, ◌+◌, ◌<◌, ◌≤◌, Bool, true, cond, leb, List, length, refl, sym, subst, ◌∙◌, arith, inl, inr}
use Rattle.std.specs.Prelude.{All, count_by}
use Rattle.std.specs.List.{range_with_len}
use Rattle.std.proofs.lemmas.List.Sums.{sum_by-le-sum_by}
use Rattle.std.proofs.lemmas.Bool.{and_from, cases_Bool, leb-false}
use Rattle.lists.specs.Numbers.{Each}
use Rattle.mp_system.specs.System.{need_of}
use Rattle.mp_system.specs.Memory.{is_ready, state_memory}
use Rattle.shared_systems.specs.Shared.{SharedTaskSystem, shared_need_of}
use Rattle.shared_systems.specs.SharedMemory.{has_inputs, shared_memory}
use Rattle.shared_systems.specs.Collected.{collected, is_shared}
use Rattle.shared_systems.specs.Bounds.{IsSharedItemWithin}
use Rattle.shared_systems.proofs.States.{memory_below, memory_same, need_same as need_collected}
use Rattle.shared_systems.proofs.WovenOrders.{task_count}
use Rattle.fences.specs.declared.fenced.Fence.{Fence}
use Rattle.fences.specs.Moments.{Moment, IsMoment, used_memory}
use Rattle.fences.specs.Workers.{running_count}
use Rattle.fences.specs.JudgedFences.{with_fences}
use Rattle.fences.specs.Certificates.{IsForTask}
use Rattle.fences.specs.SharedRuns.{is_over, are_passed, shared_numbers, shared_used}
use Rattle.fences.proofs.Fencing.{need_same, ready_own, state_same}
use Rattle.fences.proofs.FencedLists.{fence_is, is_fenced}
use Rattle.fences.proofs.Sizes.{sum_range_le, sum_range_more}
use Rattle.fences.proofs.SharedMoments.{IsFencedMoment, Started}
use Rattle.fences.proofs.SharedJoins.{join_is, over_task, ready_is}

-- numbers above which none passes a test
none_above : (test : ℕ → Bool) (n more : ℕ) → ((v : ℕ) → test v ≡ true → v ≤ n)
    → count_by test (range_with_len 1 (n + more)) ≤ count_by test (range_with_len 1 n)
none_above test n zero low = let same : n + 0 ≡ n = omega arith in rw same (omega arith)
none_above test n (suc more) low =
    let next : n + suc more ≡ n + more + 1 = omega arith in
    let last : ◌≡◌ {A = ℕ} (cond (test (n + more + 1)) 1 0) 0 =
    elim (cases_Bool (test (n + more + 1))) [ inl is ↦ absurd (omega (arith, low (n + more + 1) is)) | inr is ↦ rw is refl ] in
    rw next (omega (arith, last, none_above test n more low, sum_range_more (λ v. cond (test v) 1 0) (n + more)))

pub all_for_tasks : (system : SharedTaskSystem) (fences : List Fence) → Each (length fences) (IsForTask system fences)
    → All (λ f. f.to ≤ length system.tasks) fences
all_for_tasks system fences each i d lt =
    subst (λ (f : Fence). f.to ≤ length system.tasks) (fence_is fences i d lt) (each (i + 1) (omega arith, omega (arith, lt)))

module _ (system : SharedTaskSystem) (within : All (IsSharedItemWithin (length system.tasks)) system.items) (fences : List Fence) (moment : Moment)
    (is : IsFencedMoment system fences moment) where
  -- ---- the moment of the collected system

  abbrev pub lifted : Moment
  lifted = record { done = is_over system moment.done; running = moment.running }

  started_ready : (v : ℕ) → Started system fences moment.done v
      → is_ready (with_fences (collected system) fences) (is_over system moment.done) v ≡ true
  started_ready v started =
      ready_is system within moment.done fences v started.task.1
      ∙ and_from (has_inputs system moment.done v) (are_passed system fences moment.done v) started.ready started.passed

  joins_ready : All (λ f. f.to ≤ length system.tasks) fences → (v : ℕ) → length system.tasks < v → is_over system moment.done v ≡ true
      → is_ready (with_fences (collected system) fences) (is_over system moment.done) v ≡ true
  joins_ready for_tasks v above over =
      join_is system within moment.done fences v above for_tasks (λ u e. (is.done u e).ready) over

  over_ready : All (λ f. f.to ≤ length system.tasks) fences → (v : ℕ) → is_over system moment.done v ≡ true
      → is_ready (with_fences (collected system) fences) (is_over system moment.done) v ≡ true
  over_ready for_tasks v over = elim (cases_Bool (leb v (length system.tasks))) [
    | inl task ↦ started_ready v (is.done v (rw task at over))
    | inr join ↦ joins_ready for_tasks v (leb-false v (length system.tasks) join) over
  ]

  pub lifted_is : All (λ f. f.to ≤ length system.tasks) fences → IsMoment (with_fences (collected system) fences) lifted
  lifted_is for_tasks = record {
    once = λ v runs. over_task system within moment.done v (is.running v runs).task ∙ is.once v runs;
    running_ready = λ v runs. started_ready v (is.running v runs);
    done_ready = over_ready for_tasks;
  }

  -- ---- what it uses

  memory_least : All (λ f. f.to ≤ length system.tasks) fences
      → shared_memory system moment.done ≤ state_memory (with_fences (collected system) fences) (is_over system moment.done)
  memory_least for_tasks =
      let fenced = is_fenced (collected system) fences in
      let over = is_over system moment.done in
      omega (
        arith,
        memory_same system moment.done over (λ u task. sym (over_task system within moment.done u task)) system.items within,
        memory_below over (length system.tasks + 1) system.items
            (λ v e. ready_own (collected system) (with_fences (collected system) fences) fenced over v (over_ready for_tasks v e)),
        state_same (collected system) (with_fences (collected system) fences) fenced over,
      )

  need_least : (v : ℕ) → cond (moment.running v) (shared_need_of system v) 0
      ≤ cond (moment.running v) (need_of (with_fences (collected system) fences) v) 0
  need_least v = elim (cases_Bool (moment.running v)) [
    | inl runs ↦ rw runs (omega (
      arith,
      need_collected system v (is.running v runs).task,
      need_same (collected system) (with_fences (collected system) fences) (is_fenced (collected system) fences) v,
    ))
    | inr rests ↦ rw rests (omega arith)
  ]

  pub used_least : All (λ f. f.to ≤ length system.tasks) fences
      → shared_used system moment ≤ used_memory (with_fences (collected system) fences) lifted
  used_least for_tasks =
      let need : ℕ → ℕ = λ v. cond (moment.running v) (need_of (with_fences (collected system) fences) v) 0 in
      let own : ℕ → ℕ = λ v. cond (moment.running v) (shared_need_of system v) 0 in
      omega (
        arith,
        memory_least for_tasks,
        sum_by-le-sum_by own need (shared_numbers system) need_least,
        sum_range_le need 1 (length system.tasks) (length (collected system).tasks) (omega (arith, task_count system within)),
      )

  pub count_least : running_count (with_fences (collected system) fences) lifted ≤ count_by moment.running (shared_numbers system)
  count_least =
      rw (task_count system within)
      (none_above moment.running (length system.tasks) (count_by is_shared system.items) (λ v runs. (is.running v runs).task.1))
