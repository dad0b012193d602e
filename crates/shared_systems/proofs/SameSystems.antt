-- A system and its shared system: memory, needs, who is ready, peaks, orders and their faults; and back from a shared system.
use Rattle.std.proofs.Common.{◌≡◌, ℕ, ◌+◌, ◌-◌, ◌≤◌, Bool, true, false, cond, not, ◌&&◌, ◌||◌, eqb, max}
use Rattle.std.proofs.Common.{List, [], ◌∷◌, ◌++◌, length, map, Option, Some, None, get_or, refl, sym, ap, subst, ◌∙◌, arith}
use Rattle.std.specs.Prelude.{All, replicate, count_by}
use Rattle.std.specs.List.{list_all, list_any}
use Rattle.std.specs.Option.{ForSome, option_map_or}
use Rattle.std.proofs.lemmas.List.{append-nil, length-map}
use Rattle.std.proofs.lemmas.List.Sums.{sum_by-cons}
use Rattle.std.proofs.lemmas.Option.{same_Some}
use Rattle.std.proofs.lemmas.List.Elements.{All-head, All-tail, All-map}
use Rattle.lists.proofs.Bools.{or_false}
use Rattle.lists.proofs.Lists.{sum_by-map}
use Rattle.mp_system.specs.declared.system.Task.{Task}
use Rattle.mp_system.specs.declared.system.Item.{Item}
use Rattle.mp_system.specs.declared.system.OrderKind.{OrderKind}
use Rattle.mp_system.specs.declared.system.OrderKind.TheVariants.{Unknown, Repeated, TooEarly}
use Rattle.mp_system.specs.System.{TaskSystem, IsSystem, IsItemWithin, is_input, is_output, is_named, item_size, size_if, need_of, task_at}
use Rattle.mp_system.specs.Memory.{is_done_or, is_produced, is_present, state_memory, running_memory, stands_in, is_ready}
use Rattle.mp_system.specs.Memory.{peak_from, peak_of}
use Rattle.mp_system.specs.Traversal.{IsTraversal, IsLeast, is_task, fault_of, first_fault_after}
use Rattle.graphs.specs.Graph.{IsAmong}
use Rattle.shared_systems.specs.Shared.{SharedTaskSystem, SharedItem, only, is_read_by, shared_need_of}
use Rattle.shared_systems.specs.SharedMemory.{is_made, are_done, is_held, shared_memory, shared_running, has_inputs}
use Rattle.shared_systems.specs.SharedMemory.{shared_peak_from, shared_peak_of}
use Rattle.shared_systems.specs.SharedTraversal.{IsSharedTraversal, IsLeastShared, shared_fault_of, shared_fault_after}
use Rattle.shared_systems.specs.Collected.{are_several, is_shared, items_from, collector, collected}
use Rattle.shared_systems.specs.Bounds.{IsSharedSystem}
use Rattle.shared_systems.specs.OneReader.{readers_of, shared_item_of, shared_of, unshared_item, unshared, HasOneReader}
use Rattle.shared_systems.proofs.ItemParts.{and_true}
use Rattle.shared_systems.proofs.OneReader.{only_reader, where_same, outputs_own}

-- ---- one item

done_same : (done : ℕ → Bool) (to : Option ℕ) → are_done done (readers_of to) ≡ is_done_or false done to
done_same done None = refl
done_same done (Some c) = and_true (done c)

read_same : (v : ℕ) (to : Option ℕ) → list_any (λ c. eqb c v) (readers_of to) ≡ is_named to v
read_same v None = refl
read_same v (Some c) = or_false (eqb c v)

-- ---- all items

memory_same : (done : ℕ → Bool) (system : TaskSystem) → shared_memory (shared_of system) done ≡ state_memory system done
memory_same done system =
    where_same (is_held done) (is_present done)
    (λ x. ap (λ (b : Bool). is_done_or true done x.from && not b) (done_same done x.to)) system.items

all_ready : (done : ℕ → Bool) (v : ℕ) (xs : List Item)
    → list_all (λ x. not (is_read_by v x) || is_made done x) (map shared_item_of xs)
    ≡ list_all (λ x. not (is_input v x) || is_produced done x) xs
all_ready done v [] = refl
all_ready done v (x ∷ xs) =
    ap (λ (b : Bool). (not b || is_produced done x) && list_all (λ y. not (is_read_by v y) || is_made done y) (map shared_item_of xs))
    (read_same v x.to)
    ∙ ap (λ (b : Bool). (not (is_input v x) || is_produced done x) && b) (all_ready done v xs)

module _ (system : TaskSystem) where
  pub state_same : (done : ℕ → Bool) → shared_memory (shared_of system) done ≡ state_memory system done
  state_same done = memory_same done system

  pub own_need_same : (v : ℕ) → shared_need_of (shared_of system) v ≡ need_of system v
  own_need_same v = ap (λ (out : ℕ). (task_at system v).extra + out - (task_at system v).share) (outputs_own v system.items)

  pub inputs_ready : (done : ℕ → Bool) (v : ℕ) → has_inputs (shared_of system) done v ≡ is_ready system done v
  inputs_ready done v = all_ready done v system.items

  running_same : (done : ℕ → Bool) (v : ℕ) → shared_running (shared_of system) done v ≡ running_memory system done v
  running_same done v =
      ap (λ (m : ℕ). m + shared_need_of (shared_of system) v) (state_same done)
      ∙ ap (λ (m : ℕ). state_memory system done + m) (own_need_same v)

  peaks_same : (before rest : List ℕ) → shared_peak_from (shared_of system) before rest ≡ peak_from system before rest
  peaks_same before [] = state_same (stands_in before)
  peaks_same before (v ∷ rest) =
      ap (λ (m : ℕ). max m (max (shared_running (shared_of system) (stands_in before) v)
      (shared_peak_from (shared_of system) (before ++ v ∷ []) rest))) (state_same (stands_in before))
      ∙ ap (λ (m : ℕ). max (state_memory system (stands_in before))
      (max m (shared_peak_from (shared_of system) (before ++ v ∷ []) rest))) (running_same (stands_in before) v)
      ∙ ap (λ (m : ℕ). max (state_memory system (stands_in before)) (max (running_memory system (stands_in before) v) m))
      (peaks_same (before ++ v ∷ []) rest)

  pub peak_same : (order : List ℕ) → shared_peak_of (shared_of system) order ≡ peak_of system order
  peak_same order = peaks_same [] order

  -- ---- orders

  pub to_own : (order : List ℕ) → IsSharedTraversal (shared_of system) order → IsTraversal system order
  to_own order traversal = record {
    once = traversal.once;
    tasks = traversal.tasks;
    after_suppliers = λ before rest v split. sym (inputs_ready (stands_in before) v) ∙ traversal.after_suppliers before rest v split;
  }

  pub from_own : (order : List ℕ) → IsTraversal system order → IsSharedTraversal (shared_of system) order
  from_own order traversal = record {
    once = traversal.once;
    tasks = traversal.tasks;
    after_suppliers = λ before rest v split. inputs_ready (stands_in before) v ∙ traversal.after_suppliers before rest v split;
  }

  fault_same : (done : ℕ → Bool) (v : ℕ) → shared_fault_of (shared_of system) done v ≡ fault_of system done v
  fault_same done v =
      ap (λ (b : Bool). cond {A = Option OrderKind} (not (is_task system v)) (Some Unknown)
      (cond (done v) (Some Repeated) (cond (not b) (Some TooEarly) None))) (inputs_ready done v)

  pub own_faults_same : (before rest : List ℕ) → shared_fault_after (shared_of system) before rest ≡ first_fault_after system before rest
  own_faults_same before [] = refl
  own_faults_same before (v ∷ rest) =
      ap (λ (o : Option (ℕ × OrderKind)). option_map_or (λ kind. Some (length before + 1, kind))
      (shared_fault_of (shared_of system) (stands_in before) v) o) (own_faults_same (before ++ v ∷ []) rest)
      ∙ ap (λ (f : Option OrderKind). option_map_or (λ kind. Some (length before + 1, kind)) f
      (first_fault_after system (before ++ v ∷ []) rest)) (fault_same (stands_in before) v)

  pub to_own_least : (peak : ℕ) → IsLeastShared (shared_of system) peak → IsLeast system peak
  to_own_least peak least = record {
    order = least.order;
    traversal = to_own least.order least.traversal;
    attained = sym (peak_same least.order) ∙ least.attained;
    least = λ other traversal. subst (λ (m : ℕ). peak ≤ m) (peak_same other) (least.least other (from_own other traversal));
  }

  pub from_own_least : (peak : ℕ) → IsLeast system peak → IsLeastShared (shared_of system) peak
  from_own_least peak least = record {
    order = least.order;
    traversal = from_own least.order least.traversal;
    attained = peak_same least.order ∙ least.attained;
    least = λ other traversal. subst (λ (m : ℕ). peak ≤ m) (sym (peak_same other)) (least.least other (to_own other traversal));
  }

-- ---- without collectors

not_several : (to : Option ℕ) → are_several (readers_of to) ≡ false
not_several None = refl
not_several (Some c) = refl

none_shared : (xs : List Item) → count_by is_shared (map shared_item_of xs) ≡ 0
none_shared [] = refl
none_shared (x ∷ xs) =
    omega (
      arith,
      sum_by-cons (λ y. cond {A = ℕ} (is_shared y) 1 0) (shared_item_of x) (map shared_item_of xs),
      ap (λ (b : Bool). cond {A = ℕ} b 1 0) (not_several x.to),
      none_shared xs,
    )

own_items : (k : ℕ) (xs : List Item) → items_from k (map shared_item_of xs) ≡ xs
own_items k [] = refl
own_items k (x ∷ xs) = one k x.size x.from x.to xs ∙ ap (λ (l : List Item). x ∷ l) (own_items k xs)
  where
    one : (k size : ℕ) (from to : Option ℕ) (xs : List Item)
        → items_from k (record { size = size; from = from; readers = readers_of to } ∷ map shared_item_of xs)
        ≡ record { size = size; from = from; to = to } ∷ items_from k (map shared_item_of xs)
    one k size from None xs = refl
    one k size from (Some c) xs = refl

pub collected_same : (system : TaskSystem) → collected (shared_of system) ≡ system
collected_same system =
    ap (λ (n : ℕ). with (system.tasks ++ replicate n collector) (items_from (length system.tasks + 1) (map shared_item_of system.items)))
    (none_shared system.items)
    ∙ ap (λ (tasks : List Task). with tasks (items_from (length system.tasks + 1) (map shared_item_of system.items)))
    (append-nil system.tasks)
    ∙ ap (with system.tasks) (own_items (length system.tasks + 1) system.items)
  where
    with : List Task → List Item → TaskSystem
    with tasks items = record { tasks = tasks; items = items }

-- ---- back

one_only : (size : ℕ) (from : Option ℕ) (readers : List ℕ) → length readers ≤ 1
    → shared_item_of (record { size = size; from = from; to = only readers }) ≡ record { size = size; from = from; readers = readers }
one_only size from [] few = refl
one_only size from (c ∷ []) few = refl
one_only size from (c ∷ d ∷ cs) few = absurd (omega arith)

shared_items : (xs : List SharedItem) → All HasOneReader xs → map shared_item_of (map unshared_item xs) ≡ xs
shared_items [] each = refl
shared_items (x ∷ xs) each =
    ap (λ (y : SharedItem). y ∷ map shared_item_of (map unshared_item xs)) (one_only x.size x.from x.readers (All-head HasOneReader x xs each))
    ∙ ap (λ (l : List SharedItem). x ∷ l) (shared_items xs (All-tail HasOneReader x xs each))

pub shared_back : (system : SharedTaskSystem) → All HasOneReader system.items → shared_of (unshared system) ≡ system
shared_back system each =
    ap (λ (items : List SharedItem). record { tasks = system.tasks; items = items }) (shared_items system.items each)

pub unshared_back : (system : TaskSystem) → unshared (shared_of system) ≡ system
unshared_back system = ap (λ (items : List Item). record { tasks = system.tasks; items = items }) (items system.items)
  where
    items : (xs : List Item) → map unshared_item (map shared_item_of xs) ≡ xs
    items [] = refl
    items (x ∷ xs) =
        ap (λ (to : Option ℕ). record { size = x.size; from = x.from; to = to } ∷ map unshared_item (map shared_item_of xs)) (only_reader x.to)
        ∙ ap (λ (l : List Item). x ∷ l) (items xs)

only_among : (n : ℕ) (readers : List ℕ) → All (IsAmong n) readers → ForSome (only readers) (IsAmong n)
only_among n [] each v e = absurd cc
only_among n (c ∷ []) each v e = subst (IsAmong n) (same_Some c v e) (All-head (IsAmong n) c [] each)
only_among n (c ∷ d ∷ cs) each v e = absurd cc

pub unshared_within : (system : SharedTaskSystem) → IsSharedSystem system → IsSystem (unshared system)
unshared_within system is = record {
  few_tasks = is.few_tasks;
  few_items = omega (arith, is.few_items, length-map system.items unshared_item);
  tasks = is.tasks;
  items = All-map (IsItemWithin (unshared system)) unshared_item system.items (λ i d lt. (
      let x = get_or system.items i d in
      let here = is.items i d lt in
      record {
        size = here.size;
        producer = here.producer;
        consumer = only_among (length system.tasks) x.readers here.readers;
      }));
  total = omega (arith, is.total, sum_by-map item_size unshared_item system.items);
  shares = λ v task. (
    omega (arith, (is.shares v task).0, sum_by-map (size_if (is_input v)) unshared_item system.items),
    omega (arith, (is.shares v task).1, sum_by-map (size_if (is_output v)) unshared_item system.items),
  );
}
