-- What a step of a traversal needs for itself, where items may have several readers, and that it is little.
use Rattle.std.proofs.Common.{◌≡◌, ℕ, ◌+◌, ◌-◌, ◌^◌, ◌<◌, ◌≤◌, List, length, get_or, sym, ap, arith, ◌∙◌}
use Rattle.std.proofs.lemmas.List.{get_or_default}
use Rattle.std.proofs.lemmas.List.Elements.{All-get_or}
use Rattle.limits.specs.Limits.{most_size, most_total}
use Rattle.mp_system.specs.declared.system.Task.{Task}
use Rattle.mp_system.specs.System.{IsTaskWithin}
use Rattle.shared_systems.specs.Shared.{SharedTaskSystem, HasTask, HasOwnShare, shared_task_at, is_read_by, is_made_by, shared_outputs_of}
use Rattle.shared_systems.specs.SharedTraversal.{IsSharedTraversal}
use Rattle.shared_systems.specs.Bounds.{IsSharedSystem}
use Rattle.shared_systems.proofs.KeySums.{where-le}
use Rattle.spill_plan.specs.Gaps.{shared_inputs_of, own_gap_need}
use Rattle.spill_plan.proofs.OrderSteps.{task_at_step}
use Rattle.spill_plan.proofs.GapSpans.{shared_once}

-- the task of a step, as code reads it
pub record IsSharedStepTask (system : SharedTaskSystem) (order : List ℕ) (k : ℕ) (task : Task) : Type 0 where
  pub number : HasTask system (get_or order k 0)
  pub extra : task.extra ≤ most_size
  pub whole : task.share ≤ task.extra + shared_outputs_of system (get_or order k 0)
  pub few_inputs : shared_inputs_of system (get_or order k 0) ≤ most_total
  pub few_outputs : shared_outputs_of system (get_or order k 0) ≤ most_total
  pub need_is : own_gap_need system order k ≡ shared_inputs_of system (get_or order k 0) +
      (task.extra + shared_outputs_of system (get_or order k 0) - task.share)

module _ (system : SharedTaskSystem) (order : List ℕ) (within : IsSharedSystem system) (traversal : IsSharedTraversal system order) where
  pub shared_step_task : (tasks : List Task) → tasks ≡ system.tasks → (k : ℕ) (d : Task) → k < length order
      → IsSharedStepTask system order k (get_or tasks (get_or order k 0 - 1) d)
  shared_step_task tasks same k d h =
      let v = get_or order k 0 in
      let number : HasTask system v = task_at_step (length system.tasks) order (shared_once system order traversal) k h in
      let w : v - 1 < length system.tasks = omega (arith, number.0, number.1) in
      let is : shared_task_at system v ≡ get_or tasks (v - 1) d = get_or_default system.tasks (v - 1)
      (record { extra = 0; share = 0; time = 0 }) d w ∙ ap (λ ts. get_or ts (v - 1) d) (sym same) in
      let less : (shared_task_at system v).share ≡ (get_or tasks (v - 1) d).share = ap (λ t. t.share) is in
      let more : (shared_task_at system v).extra ≡ (get_or tasks (v - 1) d).extra = ap (λ t. t.extra) is in
      let kept : IsTaskWithin (shared_task_at system v) = All-get_or IsTaskWithin system.tasks (v - 1)
      (record { extra = 0; share = 0; time = 0 }) w within.tasks in
      let share : HasOwnShare system v = within.shares v number in
      record {
        number = number;
        extra = omega (arith, kept.extra, more);
        whole = omega (arith, share.1, less, more);
        few_inputs = omega (arith, within.total, where-le (is_read_by v) system.items);
        few_outputs = omega (arith, within.total, where-le (is_made_by v) system.items);
        need_is = omega (arith, less, more);
      }

  pub own_gap_need-small : (k : ℕ) → k < length order → own_gap_need system order k ≤ 2 ^ 62
  own_gap_need-small k h =
      let f = shared_step_task system.tasks (λ i. system.tasks) k (record { extra = 0; share = 0; time = 0 }) h in
      omega (arith, f.need_is, f.few_inputs, f.few_outputs, f.extra)
