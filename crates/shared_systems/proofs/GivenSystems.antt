-- Tasks, items and readers that pass all tests are a shared system, but for orders and shares.
use Rattle.std.proofs.Common.{◌≡◌, ℕ, zero, suc, ◌+◌, ◌<◌, ◌≤◌, List, [], ◌∷◌, length, map}
use Rattle.std.proofs.Common.{take, drop, get_or, refl, sym, ap, subst, ◌∙◌, arith}
use Rattle.std.specs.List.{All, sum_by}
use Rattle.std.proofs.lemmas.List.{length-map}
use Rattle.std.proofs.lemmas.List.Sums.{sum_by-cons}
use Rattle.std.proofs.lemmas.List.Elements.{All-from_get_or, All-map}
use Rattle.limits.specs.Limits.{most_time, most_total}
use Rattle.lists.specs.Numbers.{Each}
use Rattle.lists.proofs.Lists.{sum_by-map}
use Rattle.mp_system.specs.declared.system.Task.{Task}
use Rattle.mp_system.specs.declared.given.GivenTask.{GivenTask}
use Rattle.mp_system.specs.declared.judged.TaskTest.TheVariants as task_tests
use Rattle.mp_system.specs.System.{IsTaskWithin, extra_size}
use Rattle.mp_system.specs.Given.{task_given, end_given}
use Rattle.mp_system.specs.Judged.{TasksPass}
use Rattle.mp_system.proofs.Within.{at_place, extra_fits, no_task}
use Rattle.graphs.specs.Graph.{CanBeOrdered}
use Rattle.shared_systems.specs.declared.given.GivenSharedItem.{GivenSharedItem}
use Rattle.shared_systems.specs.declared.judged.SharedFault.{SharedFault}
use Rattle.shared_systems.specs.declared.judged.SharedFault.TheVariants as faults
use Rattle.shared_systems.specs.declared.judged.SharedItemTest.{SharedItemTest}
use Rattle.shared_systems.specs.declared.judged.SharedItemTest.TheVariants as tests
use Rattle.shared_systems.specs.Shared.{SharedTaskSystem, SharedItem, HasOwnShare}
use Rattle.shared_systems.specs.Bounds.{IsSharedItemWithin, IsSharedSystem, reader_count, shared_size, use_arcs}
use Rattle.shared_systems.specs.Given.{items_given, count_given, shared_system_given}
use Rattle.shared_systems.specs.Judged.{IsPlainShared, ArePlainShared, IsSharedFault, IsSharedRefusal, SharedItemPasses}
use Rattle.shared_systems.specs.Judged.{SharedItemsPass, refusal_of, shared_total_given}
use Rattle.shared_systems.proofs.KeySums.{no_item}

abbrev pub system_of : List Task → List SharedItem → SharedTaskSystem
system_of tasks items = record { tasks = tasks; items = items }

pub length-given : (xs : List GivenSharedItem) (readers : List ℕ) → length (items_given xs readers) ≡ length xs
length-given [] readers = refl
length-given (x ∷ xs) readers = omega (arith, length-given xs (drop x.readers readers))

taken : (n : ℕ) (xs : List ℕ) → length (take n xs) ≤ n
taken zero xs = omega arith
taken (suc n) [] = omega arith
taken (suc n) (x ∷ xs) = omega (arith, taken n xs)

-- an item that takes the first of some readers
abbrev given : GivenSharedItem → List ℕ → SharedItem
given x readers = record { size = x.size; from = end_given x.from; readers = take x.readers readers }

uses-given : (xs : List GivenSharedItem) (readers : List ℕ) → sum_by reader_count (items_given xs readers) ≤ sum_by count_given xs
uses-given [] readers = omega arith
uses-given (x ∷ xs) readers =
    omega (
      arith,
      sum_by-cons reader_count (given x readers) (items_given xs (drop x.readers readers)),
      sum_by-cons count_given x xs,
      taken x.readers readers,
      uses-given xs (drop x.readers readers),
    )

sizes-given : (xs : List GivenSharedItem) (readers : List ℕ)
    → sum_by shared_size (items_given xs readers) ≡ sum_by (λ (x : GivenSharedItem). x.size) xs
sizes-given [] readers = refl
sizes-given (x ∷ xs) readers =
    omega (
      arith,
      sum_by-cons shared_size (given x readers) (items_given xs (drop x.readers readers)),
      sum_by-cons (λ (y : GivenSharedItem). y.size) x xs,
      sizes-given xs (drop x.readers readers),
    )

-- ---- each task and each item

pub tasks_within : (tasks : List GivenTask) → TasksPass tasks → All IsTaskWithin (map task_given tasks)
tasks_within tasks pass =
    All-map IsTaskWithin task_given tasks (All-from_get_or (λ t. IsTaskWithin (task_given t)) tasks no_task (λ i inside. record {
      extra = extra_fits tasks (pass task_tests.Size) i no_task inside;
      time = (
        at_place tasks no_task (λ t. 1 ≤ t.time) i no_task inside (pass task_tests.Time),
        at_place tasks no_task (λ t. t.time ≤ most_time) i no_task inside (pass task_tests.LongTime),
      );
    }))

module _ (n : ℕ) (items : List SharedItem) (pass : SharedItemsPass n items) where
  pub passes_at : (test : SharedItemTest) (i : ℕ) → i < length items → SharedItemPasses n test (get_or items i no_item)
  passes_at test i inside = at_place items no_item (SharedItemPasses n test) i no_item inside (pass test)

  pub items_within : All (IsSharedItemWithin n) items
  items_within = All-from_get_or (IsSharedItemWithin n) items no_item (λ i inside. record {
    producer = passes_at tests.Producer i inside;
    readers = passes_at tests.Readers i inside;
    apart = passes_at tests.Apart i inside;
    rising = passes_at tests.Rising i inside;
    size = passes_at tests.Size i inside;
  })

-- ---- the whole

module _ (tasks : List GivenTask) (items : List GivenSharedItem) (readers : List ℕ) (plain : ArePlainShared tasks items readers) where
  pub plain_given : shared_total_given tasks items ≤ most_total → IsPlainShared (shared_system_given tasks items readers)
  plain_given total = record {
    few_tasks = omega (arith, plain.few.0, length-map tasks task_given);
    few_items = omega (arith, plain.few.1, length-given items readers);
    few_uses = omega (arith, plain.few.2, plain.counted, uses-given items readers);
    tasks = tasks_within tasks plain.tasks_pass;
    items = subst (λ (n : ℕ). All (IsSharedItemWithin n) (items_given items readers))
        (sym (length-map tasks task_given)) (items_within (length tasks) (items_given items readers) plain.items_pass);
    total = omega (arith, total, sum_by-map extra_size task_given tasks, sizes-given items readers);
  }

  pub plain_from : (all : List Task) (made : List SharedItem) → all ≡ map task_given tasks → made ≡ items_given items readers
      → shared_total_given tasks items ≤ most_total → IsPlainShared (record { tasks = all; items = made })
  plain_from all made all_are made_is total = rw (all_are, made_is) (plain_given total)

  -- the sums that are held against the limit
  pub total_at : (all : List Task) (made : List SharedItem) (extras sizes : ℕ)
      → all ≡ map task_given tasks → made ≡ items_given items readers
      → extras ≡ sum_by extra_size all → sizes ≡ sum_by shared_size made → extras + sizes ≡ shared_total_given tasks items
  total_at all made extras sizes all_are made_is extras_are sizes_are =
      let extra = ap (λ (l : List Task). sum_by extra_size l) all_are in
      let size = ap (λ (l : List SharedItem). sum_by shared_size l) made_is in
      omega (arith, extras_are, sizes_are, extra, size, sum_by-map extra_size task_given tasks, sizes-given items readers)

  -- a fault of the system is what the arrays are refused with
  pub refused_from : (all : List Task) (made : List SharedItem) (fault : SharedFault)
      → all ≡ map task_given tasks → made ≡ items_given items readers
      → shared_total_given tasks items ≤ most_total → IsSharedFault (system_of all made) fault
      → IsSharedRefusal tasks items readers (refusal_of fault)
  refused_from all made fault all_are made_is total is =
      let same = ap (λ (l : List Task). system_of l made) all_are ∙ ap (system_of (map task_given tasks)) made_is in
      refused fault (subst (λ (system : SharedTaskSystem). IsSharedFault system fault) same is)
    where
      refused : (fault : SharedFault) → IsSharedFault (shared_system_given tasks items readers) fault
          → IsSharedRefusal tasks items readers (refusal_of fault)
      refused (faults.Cycle v) is = (plain, total, is)
      refused (faults.Share v) is = (plain, total, is)
      refused faults.NoMemory is = tt

pub system_from : (system : SharedTaskSystem) → IsPlainShared system → Each (length system.tasks) (CanBeOrdered (use_arcs system.items))
    → Each (length system.tasks) (HasOwnShare system) → IsSharedSystem system
system_from system plain ordered shares = record {
  few_tasks = plain.few_tasks;
  few_items = plain.few_items;
  few_uses = plain.few_uses;
  tasks = plain.tasks;
  items = plain.items;
  total = plain.total;
  ordered = ordered;
  shares = shares;
}
