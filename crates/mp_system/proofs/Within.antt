-- Tasks and items that pass all tests are a system.
use Rattle.std.proofs.Common.{◌≡◌, ◌↔◌, ℕ, zero, suc, ◌+◌, ◌-◌, ◌<◌, ◌≤◌, List, length, get_or, sym, ap, subst, ◌∙◌, arith}
use Rattle.std.specs.Prelude.{Option, Some, None}
use Rattle.std.specs.Option.{ForSome}
use Rattle.std.proofs.lemmas.List.{length-map, get_or-map, get_or_default}
use Rattle.std.proofs.lemmas.List.Elements.{All-from_get_or, All-map}
use Rattle.limits.specs.Limits.{most_size, most_time, most_total}
use Rattle.mp_system.specs.System.{IsSystem, IsTaskWithin, IsItemWithin, HasShare, task_at, inputs_of, outputs_of, extra_size, item_size}
use Rattle.mp_system.specs.declared.given.GivenTask.{GivenTask}
use Rattle.mp_system.specs.declared.given.GivenItem.{GivenItem}
use Rattle.mp_system.specs.declared.judged.TaskTest.TheVariants as task_tests
use Rattle.mp_system.specs.declared.judged.ItemTest.TheVariants as item_tests
use Rattle.mp_system.specs.Given.{end_given, item_given, system_given, task_given}
use Rattle.mp_system.specs.Judged.{ArePlain, ItemPasses, TaskPasses, given_task, total_given}
use Rattle.lists.specs.Numbers.{Each, IsPlace}
use Rattle.mp_system.proofs.GivenSums.{end-some}
use Rattle.lists.proofs.Lists.{sum_by-map as sum-mapped}

abbrev pub no_task : GivenTask
no_task = record { extra = 0; share = 0; time = 0 }

abbrev pub no_item : GivenItem
no_item = record { size = 0; from = 0; to = 0 }

-- what holds of each by its number holds at each place
pub at_place : {X : Type 0} (xs : List X) (none : X) (P : X → Type 0) (i : ℕ) (d : X) → i < length xs
    → ((v : ℕ) → IsPlace (length xs) v → P (get_or xs (v - 1) none)) → P (get_or xs i d)
at_place xs none P i d inside each =
    let e : i + 1 - 1 ≡ i = omega arith in
    subst P (get_or_default xs i none d inside)
    (subst (λ (k : ℕ). P (get_or xs k none)) e (each (i + 1) (omega arith, omega (arith, inside))))

pub extra_fits : (tasks : List GivenTask) → Each (length tasks) (TaskPasses tasks task_tests.Size) → (i : ℕ) (d : GivenTask)
    → i < length tasks → (get_or tasks i d).extra ≤ most_size
extra_fits tasks each i d inside = at_place tasks no_task (λ t. t.extra ≤ most_size) i d inside each

pub size_fits : (count : ℕ) (items : List GivenItem)
    → Each (length items) (ItemPasses count items item_tests.Size) → (i : ℕ) (d : GivenItem)
    → i < length items → (get_or items i d).size ≤ most_size
size_fits count items each i d inside = at_place items no_item (λ t. t.size ≤ most_size) i d inside each

pub ends_fit : (count : ℕ) (items : List GivenItem) → Each (length items) (ItemPasses count items item_tests.Ends) → (i : ℕ) (d : GivenItem)
    → i < length items → ((get_or items i d).from ≤ count) × ((get_or items i d).to ≤ count)
ends_fit count items each i d inside = at_place items no_item (λ t. (t.from ≤ count) × (t.to ≤ count)) i d inside each

-- the task of a number, and its share
pub task-is : (tasks : List GivenTask) (items : List GivenItem) (v : ℕ) → IsPlace (length tasks) v
    → task_at (system_given tasks items) v ≡ task_given (given_task tasks v)
task-is tasks items v place = get_or-map task_given tasks (v - 1) no_task (task_given no_task) (omega (arith, place.0, place.1))

pub share-is : (tasks : List GivenTask) (items : List GivenItem) (v inputs outputs : ℕ) (task : GivenTask) → IsPlace (length tasks) v
    → inputs ≡ inputs_of (system_given tasks items) v → outputs ≡ outputs_of (system_given tasks items) v → given_task tasks v ≡ task
    → HasShare (system_given tasks items) v ↔ ((task.share ≤ inputs) × (task.share ≤ task.extra + outputs))
share-is tasks items v inputs outputs task place ins outs same =
    let e = task-is tasks items v place ∙ ap task_given same in
    let share = ap (λ t. t.share) e in
    let extra = ap (λ t. t.extra) e in (
      (λ h. (omega (arith, share, ins, h.0), omega (arith, share, extra, outs, h.1))),
      (λ h. (omega (arith, share, ins, h.0), omega (arith, share, extra, outs, h.1))),
    )

end_within : (count end : ℕ) → end ≤ count → ForSome (end_given end) (λ v. (1 ≤ v) × (v ≤ count))
end_within count zero within = λ v e. absurd (apart v e)
  where
    apart : (v : ℕ) → None ≡ Some v → ⊥
    apart v e = cc
end_within count (suc end) within =
    subst (λ (o : Option ℕ). ForSome o (λ v. (1 ≤ v) × (v ≤ count))) (sym (end-some (suc end) (omega arith)))
    (λ v e. let is : suc end ≡ v = same v e in (omega (arith, is), omega (arith, is, within)))
  where
    same : (v : ℕ) → Some (suc end) ≡ Some v → suc end ≡ v
    same v e = cc

pub are_system : (tasks : List GivenTask) (items : List GivenItem) → ArePlain tasks items → total_given tasks items ≤ most_total
    → Each (length tasks) (HasShare (system_given tasks items)) → IsSystem (system_given tasks items)
are_system tasks items plain total shares =
    let n = length-map tasks task_given in record {
      few_tasks = omega (arith, n, plain.few.0);
      few_items = omega (arith, length-map items item_given, plain.few.1);
      tasks = All-map IsTaskWithin task_given tasks (All-from_get_or (λ t. IsTaskWithin (task_given t)) tasks no_task (λ i inside. record {
        extra = extra_fits tasks (plain.tasks_pass task_tests.Size) i no_task inside;
        time = (
          at_place tasks no_task (λ t. 1 ≤ t.time) i no_task inside (plain.tasks_pass task_tests.Time),
          at_place tasks no_task (λ t. t.time ≤ most_time) i no_task inside (plain.tasks_pass task_tests.LongTime),
        );
      }));
      items = All-map (IsItemWithin (system_given tasks items)) item_given items
          (All-from_get_or (λ t. IsItemWithin (system_given tasks items) (item_given t)) items no_item (λ i inside.
          let ends = ends_fit (length tasks) items (plain.items_pass item_tests.Ends) i no_item inside in record {
            size = size_fits (length tasks) items (plain.items_pass item_tests.Size) i no_item inside;
            producer = subst (λ (count : ℕ). ForSome (end_given (get_or items i no_item).from) (λ v. (1 ≤ v) × (v ≤ count)))
                (sym n) (end_within (length tasks) (get_or items i no_item).from ends.0);
            consumer = subst (λ (count : ℕ). ForSome (end_given (get_or items i no_item).to) (λ v. (1 ≤ v) × (v ≤ count)))
                (sym n) (end_within (length tasks) (get_or items i no_item).to ends.1);
          }));
      total = omega (arith, sum-mapped extra_size task_given tasks, sum-mapped item_size item_given items, total);
      shares = λ v is. shares v (is.0, omega (arith, n, is.1));
    }
