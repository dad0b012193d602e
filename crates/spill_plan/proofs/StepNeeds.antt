-- What a step of a traversal needs for itself, and that it is little.
use Rattle.std.proofs.Common.{◌≡◌, ℕ, ◌+◌, ◌-◌, ◌^◌, ◌<◌, ◌≤◌, List, [], ◌∷◌, ◌++◌, length, get_or, sym, ap, subst, arith, ◌∙◌}
use Rattle.std.proofs.lemmas.List.{get_or_default, get_or_append_left}
use Rattle.std.proofs.Math.Seq.{get_or-append_seam}
use Rattle.std.proofs.lemmas.List.Elements.{All-get_or}
use Rattle.limits.specs.Limits.{most_size, most_total}
use Rattle.mp_system.specs.declared.system.Task.{Task}
use Rattle.mp_system.specs.System.{TaskSystem, IsSystem, IsTask, IsTaskWithin, HasShare}
use Rattle.mp_system.specs.System.{task_at, is_input, is_output, inputs_of, outputs_of}
use Rattle.mp_system.specs.Traversal.{IsTraversal}
use Rattle.spill_plan.specs.SpillPlans.{own_need}
use Rattle.spill_plan.proofs.SpanSums.{split}
use Rattle.spill_plan.proofs.OrderSteps.{each_once, task_at_step}
use Rattle.mp_system.proofs.Sums.{size_where-le}

-- the task of a step, as code reads it
pub record IsStepTask (system : TaskSystem) (order : List ℕ) (k : ℕ) (task : Task) : Type 0 where
  pub number : IsTask system (get_or order k 0)
  pub extra : task.extra ≤ most_size
  pub whole : task.share ≤ task.extra + outputs_of system (get_or order k 0)
  pub few_inputs : inputs_of system (get_or order k 0) ≤ most_total
  pub few_outputs : outputs_of system (get_or order k 0) ≤ most_total
  pub need_is : own_need system order k ≡ inputs_of system (get_or order k 0) +
      (task.extra + outputs_of system (get_or order k 0) - task.share)

module _ (system : TaskSystem) (order : List ℕ) (within : IsSystem system) (traversal : IsTraversal system order) where
  pub step_task : (tasks : List Task) → tasks ≡ system.tasks → (k : ℕ) (d : Task) → k < length order
      → IsStepTask system order k (get_or tasks (get_or order k 0 - 1) d)
  step_task tasks same k d h =
      let v = get_or order k 0 in
      let number : IsTask system v = task_at_step (length system.tasks) order (each_once system order traversal) k h in
      let w : v - 1 < length system.tasks = omega (arith, number.0, number.1) in
      let is : task_at system v ≡ get_or tasks (v - 1) d = get_or_default system.tasks (v - 1)
      (record { extra = 0; share = 0; time = 0 }) d w ∙ ap (λ ts. get_or ts (v - 1) d) (sym same) in
      let less : (task_at system v).share ≡ (get_or tasks (v - 1) d).share = ap (λ t. t.share) is in
      let more : (task_at system v).extra ≡ (get_or tasks (v - 1) d).extra = ap (λ t. t.extra) is in
      let kept : IsTaskWithin (task_at system v) = All-get_or IsTaskWithin system.tasks (v - 1)
      (record { extra = 0; share = 0; time = 0 }) w within.tasks in
      let share : HasShare system v = within.shares v number in
      record {
        number = number;
        extra = omega (arith, kept.extra, more);
        whole = omega (arith, share.1, less, more);
        few_inputs = omega (arith, within.total, size_where-le (is_input v) system.items);
        few_outputs = omega (arith, within.total, size_where-le (is_output v) system.items);
        need_is = omega (arith, less, more);
      }

  pub own_need-small : (k : ℕ) → k < length order → own_need system order k ≤ 2 ^ 62
  own_need-small k h =
      let f = step_task system.tasks (λ i. system.tasks) k (record { extra = 0; share = 0; time = 0 }) h in
      omega (arith, f.need_is, f.few_inputs, f.few_outputs, f.extra)

-- one more in a list, of which each keeps to its place
pub pushed : (P : ℕ → ℕ → Type 0) (xs ys : List ℕ) (x n : ℕ) → length xs ≡ n → ys ≡ xs ++ x ∷ [] → ((k : ℕ) → k < n → P k (get_or xs k 0))
    → P n x
    → (k : ℕ) → k < n + 1 → P k (get_or ys k 0)
pushed P xs ys x n len is each last k h =
    split n k
    (λ late. let e : k ≡ length xs = omega arith in
    let f : n ≡ k = omega arith in
    let at : get_or ys k 0 ≡ x = rw (is, e) (get_or-append_seam xs x [] 0) in
    subst (λ v. P k v) (sym at) (subst (λ j. P j x) f last))
    (λ soon. let at : get_or ys k 0 ≡ get_or xs k 0 = rw is (get_or_append_left xs (x ∷ []) 0 k (omega arith)) in
    subst (λ v. P k v) (sym at) (each k soon))
