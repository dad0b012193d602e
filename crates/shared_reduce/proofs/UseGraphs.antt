-- The graph of uses is within the limits of graphs, where it has few enough arcs, and asks no more of a traversal than the system does.
use Rattle.std.proofs.Common.{◌≡◌, ℕ, zero, suc, ◌-◌, ◌<◌, ◌≤◌, Bool, true, not, ◌&&◌, ◌||◌, eqb, List, [], ◌∷◌, ◌++◌, map}
use Rattle.std.proofs.Common.{length, Option, unwrap_or, refl, sym, ap, subst, ◌∙◌, arith}
use Rattle.std.specs.Prelude.{All, replicate}
use Rattle.std.specs.List.{sum_by, list_all, list_any}
use Rattle.std.specs.Option.{ForSome}
use Rattle.std.proofs.lemmas.Bool.{and_parts}
use Rattle.std.proofs.lemmas.List.{length-replicate, get_or-replicate}
use Rattle.std.proofs.lemmas.List.Folds.{sum_by-replicate, list_all-append, list_all-map}
use Rattle.std.proofs.lemmas.List.Sums.{sum_by-cons}
use Rattle.std.proofs.lemmas.List.Elements.{All-head, All-tail, All-replicate}
use Rattle.limits.specs.Limits.{most_arcs}
use Rattle.mp_system.specs.declared.system.Task.{Task}
use Rattle.mp_system.specs.System.{IsTaskWithin, extra_size, is_named, is_input}
use Rattle.mp_system.specs.Memory.{is_done_or, is_produced, is_ready}
use Rattle.graphs.specs.declared.arc.Arc.{Arc}
use Rattle.graphs.specs.Graph.{IsAmong, arc_between, arc_size, end_of, item_of_arc}
use Rattle.graphs.specs.Graph.{listed_task, TaskShareFits, added_arcs, completed_system}
use Rattle.graphs.specs.declared.judged.GraphFault.{GraphFault}
use Rattle.graphs.specs.declared.judged.GraphFault.TheVariants as faults
use Rattle.graphs.specs.Judged.{IsPlain, IsOrdered, HasFewArcs, IsGraphFault}
use Rattle.shared_systems.specs.Shared.{SharedTaskSystem, SharedItem, is_read_by}
use Rattle.shared_systems.specs.SharedMemory.{is_made, has_inputs}
use Rattle.shared_systems.specs.Bounds.{IsSharedItemWithin, IsSharedSystem, item_arcs, use_arcs}
use Rattle.shared_systems.proofs.UseArcs.{arcs_within}
use Rattle.shared_systems.proofs.ItemParts.{spread}
use Rattle.carried_graphs.proofs.SameOrders.{numbered, is_supplied}
use Rattle.shared_reduce.specs.Uses.{bare, uses_of}

-- ---- limits

no_size : (from : ℕ) (readers : List ℕ) (rest : List Arc) → sum_by arc_size (map (arc_between from) readers ++ rest) ≡ sum_by arc_size rest
no_size from [] rest = refl
no_size from (c ∷ cs) rest =
    omega (arith, sum_by-cons arc_size (arc_between from c) (map (arc_between from) cs ++ rest), no_size from cs rest)

no_sizes : (xs : List SharedItem) → sum_by arc_size (use_arcs xs) ≡ 0
no_sizes [] = refl
no_sizes (x ∷ xs) = no_size (unwrap_or x.from 0) x.readers (use_arcs xs) ∙ no_sizes xs

no_extras : (n : ℕ) → sum_by extra_size (replicate n bare) ≡ 0
no_extras n = let e = sum_by-replicate extra_size n bare in omega (arith, e)

pub uses_plain : (system : SharedTaskSystem) → IsSharedSystem system → length (use_arcs system.items) ≤ most_arcs → IsPlain (uses_of system)
uses_plain system is few = record {
  few_tasks = omega (arith, length-replicate (length system.tasks) bare, is.few_tasks);
  few_arcs = few;
  tasks = All-replicate IsTaskWithin (length system.tasks) bare (record { extra = omega arith; time = (omega arith, omega arith) });
  arcs = rw (length-replicate (length system.tasks) bare) (arcs_within (length system.tasks) system.items is.items);
  total = omega (arith, no_extras (length system.tasks), no_sizes system.items);
}

pub uses_ordered : (system : SharedTaskSystem) → IsSharedSystem system → IsOrdered (uses_of system)
uses_ordered system is v task = is.ordered v (subst (λ (n : ℕ). IsAmong n v) (length-replicate (length system.tasks) bare) task)

no_share : (n v : ℕ) → IsAmong n v → (listed_task (replicate n bare) v).share ≡ 0
no_share n v among =
    let within : v - 1 < n = omega (arith, among.0, among.1) in
    ap (λ (t : Task). t.share) (get_or-replicate n (v - 1) bare (record { extra = 0; share = 0; time = 0 }) within)

pub uses_share : (system : SharedTaskSystem) (v : ℕ) → IsAmong (length (replicate (length system.tasks) bare)) v
    → TaskShareFits (uses_of system).tasks (uses_of system).arcs v
uses_share system v task =
    let none = no_share (length system.tasks) v (subst (λ (n : ℕ). IsAmong n v) (length-replicate (length system.tasks) bare) task) in
    (omega (arith, none), omega (arith, none))

-- only too many arcs, or want of memory, refuse it
pub uses_fault : (system : SharedTaskSystem) → IsSharedSystem system → (fault : GraphFault) → (fault ≡ faults.NoMemory → ⊥)
    → IsGraphFault (uses_of system) fault → HasFewArcs (uses_of system) → ⊥
uses_fault system is faults.Arcs apart fault few = fault few
uses_fault system is (faults.Cycle v) apart fault few = fault.1.fails (uses_ordered system is v fault.1.is_place)
uses_fault system is (faults.Share v) apart fault few = fault.2.fails (uses_share system v fault.2.is_place)
uses_fault system is faults.NoMemory apart fault few = apart refl

-- ---- who is ready

reader_named : (c v : ℕ) → 1 ≤ c → is_named (end_of c) v ≡ eqb c v
reader_named zero v some = absurd (omega arith)
reader_named (suc c) v some = refl

readers_ready : (n : ℕ) (done : ℕ → Bool) (v : ℕ) (x : SharedItem) (readers : List ℕ) → ForSome x.from (IsAmong n) → All (IsAmong n) readers
    → list_all (is_supplied done v) (map (arc_between (unwrap_or x.from 0)) readers)
    ≡ (not (list_any (λ c. eqb c v) readers) || is_made done x)
readers_ready n done v x [] producer each = refl
readers_ready n done v x (c ∷ cs) producer each =
    let rest = list_all (is_supplied done v) (map (arc_between (unwrap_or x.from 0)) cs) in
    ap (λ (from : Option ℕ). (not (is_named (end_of c) v) || is_done_or true done from) && rest) (numbered n x.from producer)
    ∙ ap (λ (b : Bool). (not b || is_made done x) && rest) (reader_named c v (All-head (IsAmong n) c cs each).0)
    ∙ ap (λ (b : Bool). (not (eqb c v) || is_made done x) && b)
    (readers_ready n done v x cs producer (All-tail (IsAmong n) c cs each))
    ∙ spread (eqb c v) (list_any (λ d. eqb d v) cs) (is_made done x)

items_ready : (n : ℕ) (done : ℕ → Bool) (v : ℕ) (xs : List SharedItem) → All (IsSharedItemWithin n) xs
    → list_all (is_supplied done v) (use_arcs xs) ≡ list_all (λ x. not (is_read_by v x) || is_made done x) xs
items_ready n done v [] within = refl
items_ready n done v (x ∷ xs) within =
    let here = All-head (IsSharedItemWithin n) x xs within in
    list_all-append (is_supplied done v) (item_arcs x) (use_arcs xs)
    ∙ ap (λ (b : Bool). b && list_all (is_supplied done v) (use_arcs xs))
    (readers_ready n done v x x.readers here.producer here.readers)
    ∙ ap (λ (b : Bool). (not (is_read_by v x) || is_made done x) && b)
    (items_ready n done v xs (All-tail (IsSharedItemWithin n) x xs within))

-- a task that is ready in the completed graph of uses has its inputs in the system
pub has_its_inputs : (system : SharedTaskSystem) → IsSharedSystem system → (done : ℕ → Bool) (v : ℕ)
    → is_ready (completed_system (uses_of system)) done v ≡ true → has_inputs system done v ≡ true
has_its_inputs system is done v ready =
    let added = added_arcs (length (uses_of system).tasks) (use_arcs system.items) in
    let whole : list_all (is_supplied done v) (use_arcs system.items ++ added) ≡ true =
    sym (list_all-map (λ item. not (is_input v item) || is_produced done item) item_of_arc (use_arcs system.items ++ added)) ∙ ready in
    let parts = and_parts (list_all (is_supplied done v) (use_arcs system.items)) (list_all (is_supplied done v) added)
    (sym (list_all-append (is_supplied done v) (use_arcs system.items) added) ∙ whole) in
    sym (items_ready (length system.tasks) done v system.items is.items) ∙ parts.0

-- as the code makes it
pub made_plain : (tasks : List Task) (arcs : List Arc) (system : SharedTaskSystem) → IsSharedSystem system → length arcs ≤ most_arcs
    → tasks ≡ replicate (length system.tasks) bare → arcs ≡ use_arcs system.items → IsPlain (record { tasks = tasks; arcs = arcs })
made_plain tasks arcs system is few tasks_are arcs_are =
    let fit : length (use_arcs system.items) ≤ most_arcs = omega (arith, few, ap (λ (l : List Arc). length l) arcs_are) in
    subst (λ (l : List Task). IsPlain (record { tasks = l; arcs = arcs })) (sym tasks_are)
    (subst (λ (l : List Arc). IsPlain (record { tasks = replicate (length system.tasks) bare; arcs = l })) (sym arcs_are)
    (uses_plain system is fit))
