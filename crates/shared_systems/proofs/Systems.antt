-- The system of a shared system is within the limits; its items, one item after the other.
use Rattle.std.proofs.Common.{◌≡◌, ℕ, ◌+◌, ◌<◌, ◌≤◌, Bool, true, false, cond, List, [], ◌∷◌, ◌++◌, length, length-append}
use Rattle.std.proofs.Common.{get_or, take, append_assoc, Option, Some, None, refl, sym, ap, subst, ◌∙◌, arith, inl, inr}
use Rattle.std.specs.Prelude.{All, count_by, replicate}
use Rattle.std.specs.List.{sum_by}
use Rattle.std.specs.Option.{ForSome}
use Rattle.std.proofs.lemmas.List.{append-nil, length-map, take_more}
use Rattle.std.proofs.lemmas.List.Folds.{sum_by-replicate}
use Rattle.std.proofs.lemmas.List.Sums.{sum_by-cons, sum_by-append, sum_by_more}
use Rattle.std.proofs.lemmas.List.Elements.{All-head, All-tail, All-nil, All-cons, All-append, All-replicate, All-map, All-weaker}
use Rattle.std.proofs.lemmas.Bool.{cases_lt}
use Rattle.std.proofs.lemmas.Option.{same_Some}
use Rattle.limits.specs.Limits.{most_tasks, most_positions}
use Rattle.mp_system.specs.declared.system.Task.{Task}
use Rattle.mp_system.specs.declared.system.Item.{Item}
use Rattle.mp_system.specs.System.{IsTask, IsSystem, IsTaskWithin, IsItemWithin, extra_size, item_size}
use Rattle.mp_system.specs.Renaming.{has_producer}
use Rattle.shared_systems.specs.Shared.{SharedTaskSystem, SharedItem, HasTask, shared_item_at}
use Rattle.shared_systems.specs.Collected.{are_several, is_shared, taker, wait, waits_for, waits_of, kept_item, wait_items}
use Rattle.shared_systems.specs.Collected.{next_from, items_from, wait_count, collector, collected, HasRoom}
use Rattle.shared_systems.specs.Bounds.{IsSharedItemWithin, IsSharedSystem, shared_size}
use Rattle.shared_systems.proofs.ItemParts.{item_counts}
use Rattle.shared_systems.proofs.States.{next_ge, task_same, inputs_same, outputs_same}
use Rattle.shared_systems.proofs.Collectors.{next_is, more_shared}
use Rattle.shared_systems.proofs.KeySums.{no_item}
use Rattle.shared_systems.proofs.WovenOrders.{collector_at, task_count}

-- ---- one item after the other

pub items_from-append : (k : ℕ) (xs ys : List SharedItem)
    → items_from k (xs ++ ys) ≡ items_from k xs ++ items_from (k + count_by is_shared xs) ys
items_from-append k [] ys = ap (λ (j : ℕ). items_from j ys) (let e : k ≡ k + count_by is_shared [] = omega arith in e)
items_from-append k (x ∷ xs) ys =
    let own = kept_item k x ∷ wait_items k x in
    ap (λ (l : List Item). own ++ l)
    (items_from-append (next_from k x) xs ys ∙ ap (λ (j : ℕ). items_from (next_from k x) xs ++ items_from j ys) (more_shared k x xs))
    ∙ sym (append_assoc own (items_from (next_from k x) xs) (items_from (k + count_by is_shared (x ∷ xs)) ys))

pub items_more : (k : ℕ) (xs : List SharedItem) (i : ℕ) (d : SharedItem) → i < length xs
    → items_from k (take (i + 1) xs) ≡ items_from k (take i xs) ++ (kept_item (k + count_by is_shared (take i xs)) (get_or xs i d)
    ∷ wait_items (k + count_by is_shared (take i xs)) (get_or xs i d))
items_more k xs i d lt =
    let j = k + count_by is_shared (take i xs) in
    let x = get_or xs i d in
    ap (items_from k) (take_more xs i d lt)
    ∙ items_from-append k (take i xs) (x ∷ [])
    ∙ ap (λ (l : List Item). items_from k (take i xs) ++ l) (append-nil (kept_item j x ∷ wait_items j x))

pub item_next : (first i next : ℕ) (xs : List SharedItem) (items later : List Item) → i < length xs
    → items ≡ items_from first (take i xs) → next ≡ first + count_by is_shared (take i xs)
    → later ≡ items ++ (kept_item next (shared_item_at xs i) ∷ wait_items next (shared_item_at xs i))
    → later ≡ items_from first (take (i + 1) xs)
item_next first i next xs items later lt items_are next_is later_is =
    let x = shared_item_at xs i in
    later_is
    ∙ ap (λ (l : List Item). l ++ (kept_item next x ∷ wait_items next x)) items_are
    ∙ ap (λ (j : ℕ). items_from first (take i xs) ++ (kept_item j x ∷ wait_items j x)) next_is
    ∙ sym (items_more first xs i no_item lt)

pub count_next : (first i next : ℕ) (xs : List SharedItem) (b : Bool) → i < length xs → b ≡ is_shared (shared_item_at xs i)
    → next ≡ first + count_by is_shared (take i xs) → next + cond b 1 0 ≡ first + count_by is_shared (take (i + 1) xs)
count_next first i next xs b lt b_is next_is =
    let here : ◌≡◌ {A = ℕ} (cond b 1 0) (cond (is_shared (shared_item_at xs i)) 1 0) = ap {B = ℕ} (λ (e : Bool). cond e 1 0) b_is in
    omega (arith, here, sum_by_more (λ y. cond (is_shared y) 1 0) xs i no_item lt)

-- ---- limits

module _ (system : SharedTaskSystem) (within : All (IsSharedItemWithin (length system.tasks)) system.items) where
  more_tasks : (v : ℕ) → HasTask system v → IsTask (collected system) v
  more_tasks v task = (task.0, omega (arith, task.1, task_count system within))

  some_task : (v : ℕ) → IsTask (collected system) v → ForSome (Some v) (IsTask (collected system))
  some_task v task x e = subst (IsTask (collected system)) (same_Some v x e) task

  wait_within : (u v : ℕ) → IsTask (collected system) u → IsTask (collected system) v → IsItemWithin (collected system) (wait u v)
  wait_within u v from to = record { size = omega arith; producer = some_task u from; consumer = some_task v to }

  waits_for_within : (from : Option ℕ) (to : List ℕ) → ForSome from (HasTask system)
      → All (HasTask system) to → All (IsItemWithin (collected system)) (waits_for from to)
  waits_for_within None to producer readers = All-nil (IsItemWithin (collected system))
  waits_for_within (Some u) to producer readers =
      All-map (IsItemWithin (collected system)) (wait u) to
      (All-weaker (HasTask system) (λ c. IsItemWithin (collected system) (wait u c))
      (λ c task. wait_within u c (more_tasks u (producer u refl)) (more_tasks c task)) to readers)

  waits_of_within : (k : ℕ) (to : List ℕ) → IsTask (collected system) k
      → All (HasTask system) to → All (IsItemWithin (collected system)) (waits_of k to)
  waits_of_within k to task readers =
      All-map (IsItemWithin (collected system)) (λ c. wait c k) to
      (All-weaker (HasTask system) (λ c. IsItemWithin (collected system) (wait c k))
      (λ c is. wait_within c k (more_tasks c is) task) to readers)

  taker_within : (k : ℕ) (to : List ℕ) → (are_several to ≡ true → IsTask (collected system) k)
      → All (HasTask system) to → ForSome (taker k to) (IsTask (collected system))
  taker_within k [] task readers = λ x e. absurd cc
  taker_within k (c ∷ []) task readers = some_task c (more_tasks c (All-head (HasTask system) c [] readers))
  taker_within k (c ∷ d ∷ cs) task readers = some_task k (task refl)

  waits_within : (k : ℕ) (from : Option ℕ) (to : List ℕ) (several : Bool)
      → (several ≡ true → IsTask (collected system) k) → ForSome from (HasTask system) → All (HasTask system) to
      → All (IsItemWithin (collected system)) (cond several (waits_for from to ++ waits_of k to) [])
  waits_within k from to true task producer readers =
      All-append (IsItemWithin (collected system)) (waits_for from to) (waits_of k to)
      (waits_for_within from to producer readers) (waits_of_within k to (task refl) readers)
  waits_within k from to false task producer readers = All-nil (IsItemWithin (collected system))

  items_within : (k : ℕ) (xs : List SharedItem) → length system.tasks + 1 ≤ k
      → k + count_by is_shared xs ≤ length system.tasks + 1 + count_by is_shared system.items
      → All (IsSharedItemWithin (length system.tasks)) xs → All (IsItemWithin (collected system)) (items_from k xs)
  items_within k [] low high each = All-nil (IsItemWithin (collected system))
  items_within k (x ∷ xs) low high each =
      let here = All-head (IsSharedItemWithin (length system.tasks)) x xs each in
      let task : is_shared x ≡ true → IsTask (collected system) k = λ shared. (
      let one : ◌≡◌ {A = ℕ} (cond (is_shared x) 1 0) 1 = rw shared refl in
      (omega arith, omega (arith, one, sum_by-cons (λ y. cond (is_shared y) 1 0) x xs, task_count system within))) in
      All-append (IsItemWithin (collected system)) (kept_item k x ∷ wait_items k x) (items_from (next_from k x) xs)
      (All-cons (IsItemWithin (collected system)) (kept_item k x) (wait_items k x)
      (record {
        size = here.size;
        producer = λ v e. more_tasks v (here.producer v e);
        consumer = taker_within k x.readers task here.readers;
      })
      (waits_within k x.from x.readers (is_shared x) task here.producer here.readers))
      (items_within (next_from k x) xs (omega (arith, next_ge k x)) (omega (arith, more_shared k x xs))
      (All-tail (IsSharedItemWithin (length system.tasks)) x xs each))

sizes_same : (k : ℕ) (xs : List SharedItem) → sum_by item_size (items_from k xs) ≡ sum_by shared_size xs
sizes_same k [] = refl
sizes_same k (x ∷ xs) = omega (
  arith,
  item_counts (λ item. true) k x (items_from (next_from k x) xs),
  sum_by-cons shared_size x xs,
  sizes_same (next_from k x) xs,
)

collector_within : IsTaskWithin collector
collector_within = record { extra = omega arith; time = (omega arith, omega arith) }

pub collected_within : (system : SharedTaskSystem) → IsSharedSystem system → HasRoom system → IsSystem (collected system)
collected_within system is room = record {
  few_tasks = room.tasks;
  few_items = room.items;
  tasks = All-append IsTaskWithin system.tasks (replicate (count_by is_shared system.items) collector) is.tasks
      (All-replicate IsTaskWithin (count_by is_shared system.items) collector collector_within);
  items = items_within system is.items (length system.tasks + 1) system.items (omega arith) (omega arith) is.items;
  total = omega (
    arith,
    is.total,
    sum_by-append extra_size system.tasks (replicate (count_by is_shared system.items) collector),
    sum_by-replicate extra_size (count_by is_shared system.items) collector,
    sizes_same (length system.tasks + 1) system.items,
  );
  shares = λ v task. elim (cases_lt (length system.tasks) v) [
    | inl above ↦ (
        let share = ap (λ (t : Task). t.share)
        (collector_at system is.items v (omega arith) (omega (arith, task.1, task_count system is.items))) in
        (omega (arith, share), omega (arith, share))
        )
    | inr below ↦ (
        let share = ap (λ (t : Task). t.share) (task_same system v (task.0, below)) in
        let extra = ap (λ (t : Task). t.extra) (task_same system v (task.0, below)) in
        let fits = is.shares v (task.0, below) in
        let out = outputs_same v (length system.tasks + 1) system.items in (
          omega (arith, share, fits.0, inputs_same v (length system.tasks + 1) system.items (omega arith)),
          omega (arith, share, extra, fits.1, out),
        )
        )
  ];
}

pub made_within : (system : SharedTaskSystem) (tasks : List Task) (items : List Item) → IsSharedSystem system
    → HasRoom system → tasks ≡ (collected system).tasks → items ≡ (collected system).items
    → IsSystem (record { tasks = tasks; items = items })
made_within system tasks items is room tasks_are items_are = rw (tasks_are, items_are) (collected_within system is room)

-- ---- how large it is

wait_lengths : (k : ℕ) (from : Option ℕ) (to : List ℕ) (several : Bool)
    → length (cond several (waits_for from to ++ waits_of k to) []) ≡ cond several (cond (has_producer from) (length to) 0 + length to) 0
wait_lengths k None to true = omega (arith, length-map to (λ c. wait c k))
wait_lengths k (Some u) to true =
    omega (arith, length-append (waits_for (Some u) to) (waits_of k to), length-map to (wait u), length-map to (λ c. wait c k))
wait_lengths k from to false = refl

pub items_long : (k : ℕ) (xs : List SharedItem) → length (items_from k xs) ≡ length xs + sum_by wait_count xs
items_long k [] = refl
items_long k (x ∷ xs) =
    omega (
      arith,
      length-append (wait_items k x) (items_from (next_from k x) xs),
      wait_lengths k x.from x.readers (is_shared x),
      sum_by-cons wait_count x xs,
      items_long (next_from k x) xs,
    )

-- ---- whether there is room for it

module _ (system : SharedTaskSystem) (tasks : List Task) (items : List Item)
    (tasks_are : tasks ≡ (collected system).tasks) (items_are : items ≡ (collected system).items) where
  pub room : length tasks ≤ most_tasks → length items ≤ most_positions → HasRoom system
  room few_tasks few_items = record {
    tasks = omega (arith, few_tasks, ap (λ (l : List Task). length l) tasks_are);
    items = omega (arith, few_items, ap (λ (l : List Item). length l) items_are);
  }

  pub no_room_tasks : most_tasks < length tasks → HasRoom system → ⊥
  no_room_tasks many has = omega (arith, many, has.tasks, ap (λ (l : List Task). length l) tasks_are)

  pub no_room_items : most_positions < length items → HasRoom system → ⊥
  no_room_items many has = omega (arith, many, has.items, ap (λ (l : List Item). length l) items_are)
