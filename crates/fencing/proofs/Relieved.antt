-- A system in which tasks need less, by the room of a worker.
use Rattle.std.proofs.Common.{◌≡◌, ℕ, ◌+◌, ◌-◌, ◌≤◌, Bool, List, [], ◌∷◌, ◌++◌, length, get_or, refl, ◌∙◌, arith}
use Rattle.std.specs.Prelude.{All}
use Rattle.std.specs.List.{sum_by}
use Rattle.std.proofs.lemmas.List.{get_or-map, length-map}
use Rattle.lists.proofs.Lists.{sum_by-map}
use Rattle.limits.specs.Limits.{most_tasks, most_total}
use Rattle.mp_system.specs.declared.system.Task.{Task}
use Rattle.mp_system.specs.System.{TaskSystem, IsItemWithin, IsSystem, IsTask, IsTaskWithin, extra_size, item_size, need_of}
use Rattle.mp_system.specs.Memory.{stands_in}
use Rattle.mp_system.specs.Refusal.{IsOrderRefusal}
use Rattle.mp_system.specs.Traversal.{IsTraversal, fault_of, first_fault_after}
use Rattle.mp_system.specs.declared.order.ReplayRefusal.{ReplayRefusal}
use Rattle.mp_system.specs.declared.order.ReplayRefusal.TheVariants as replays
use Rattle.fences.specs.Moments.{numbers_of}
use Rattle.fences.specs.Workers.{relieved, relieved_task}
use Rattle.fencing.specs.Needs.{taken_need}
use Rattle.fencing.specs.Refusal.{IsFencingRefusal, of_replay}
use Rattle.fencing.proofs.Sums.{sums_le}

-- a system within the limits, whatever the shares of its tasks are
pub record KeepsLimits (system : TaskSystem) : Type 0 where
  pub few_tasks : length system.tasks ≤ most_tasks
  pub tasks : All IsTaskWithin system.tasks
  pub items : All (IsItemWithin system) system.items
  pub total : sum_by extra_size system.tasks + sum_by item_size system.items ≤ most_total

pub limits_of : (system : TaskSystem) → IsSystem system → KeepsLimits system
limits_of system sys = record { few_tasks = sys.few_tasks; tasks = sys.tasks; items = sys.items; total = sys.total }

module _ (room : ℕ) (system : TaskSystem) where
  abbrev lighter : TaskSystem
  lighter = relieved room system

  pub as_many_tasks : length lighter.tasks ≡ length system.tasks
  as_many_tasks = length-map system.tasks (relieved_task room)

  pub task_of : (v : ℕ) → IsTask lighter v → IsTask system v
  task_of v task = (task.0, omega (arith, task.1, as_many_tasks))

  pub task_in : (v : ℕ) → IsTask system v → IsTask lighter v
  task_in v task = (task.0, omega (arith, task.1, as_many_tasks))

  pub need_less : (v : ℕ) → IsTask system v → need_of lighter v ≡ need_of system v - room
  need_less v task =
      let d : Task = record { extra = 0; share = 0; time = 0 } in
      let here : get_or lighter.tasks (v - 1) d ≡ relieved_task room (get_or system.tasks (v - 1) d) =
      get_or-map (relieved_task room) system.tasks (v - 1) d d (omega (arith, task.0, task.1)) in
      rw here (omega arith)

  -- the same are traversals
  pub traversal_in : (order : List ℕ) → IsTraversal system order → IsTraversal lighter order
  traversal_in order is = record {
    once = λ v task. is.once v (task_of v task);
    tasks = λ i d lt. task_in (get_or order i d) (is.tasks i d lt);
    after_suppliers = λ before rest v split. is.after_suppliers before rest v split;
  }

  pub traversal_of : (order : List ℕ) → IsTraversal lighter order → IsTraversal system order
  traversal_of order is = record {
    once = λ v task. is.once v (task_in v task);
    tasks = λ i d lt. task_of (get_or order i d) (is.tasks i d lt);
    after_suppliers = λ before rest v split. is.after_suppliers before rest v split;
  }

  -- the same are their faults
  same_fault_of : (done : ℕ → Bool) (v : ℕ) → fault_of lighter done v ≡ fault_of system done v
  same_fault_of done v = rw as_many_tasks refl

  same_fault_after : (before rest : List ℕ) → first_fault_after lighter before rest ≡ first_fault_after system before rest
  same_fault_after before [] = rw as_many_tasks refl
  same_fault_after before (v ∷ rest) = rw (same_fault_of (stands_in before) v, same_fault_after (before ++ v ∷ []) rest) refl

  pub by_order : (order : List ℕ) (bound : ℕ) (refusal : ReplayRefusal) → IsOrderRefusal system order refusal
      → IsFencingRefusal lighter order bound (of_replay refusal)
  by_order order bound (replays.Order fault) refused = (same_fault_after [] order ∙ refused.0, λ is. refused.1 (traversal_of order is))
  by_order order bound replays.NoMemory refused = tt

  same_extras : sum_by extra_size lighter.tasks ≡ sum_by extra_size system.tasks
  same_extras = sum_by-map extra_size (relieved_task room) system.tasks

  module _ (sys : IsSystem system) where
    pub keeps_limits : KeepsLimits lighter
    keeps_limits = record {
      few_tasks = omega (arith, sys.few_tasks, as_many_tasks);
      tasks = λ k d lt. rw (get_or-map (relieved_task room) system.tasks k d d (omega (arith, lt, as_many_tasks)))
          (record { extra = (sys.tasks k d (omega (arith, lt, as_many_tasks))).extra; time = (sys.tasks k d (omega (arith, lt, as_many_tasks))).time });
      items = λ k d lt. record {
        size = (sys.items k d lt).size;
        producer = λ u from. task_in u ((sys.items k d lt).producer u from);
        consumer = λ u to. task_in u ((sys.items k d lt).consumer u to);
      };
      total = omega (arith, sys.total, same_extras);
    }

    -- what a task takes is at most what it needs
    pub taken_least : (v : ℕ) → IsTask system v → taken_need lighter v ≤ need_of system v
    taken_least v task = let shares = sys.shares v task in omega (arith, need_less v task, shares.0, shares.1)

    pub taken_least_all : sum_by (taken_need lighter) (numbers_of lighter) ≤ sum_by (need_of system) (numbers_of system)
    taken_least_all =
        rw as_many_tasks
        (sums_le (taken_need lighter) (need_of system) 1 (length system.tasks) (λ v low high. taken_least v (low, omega (arith, high))))
