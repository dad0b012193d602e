-- A shared system as a system with one item of size 0 for each reader: it has the same orders and the same faults.
use Rattle.std.proofs.Common.{◌≡◌, ℕ, ◌+◌, Bool, true, cond, not, ◌&&◌, ◌||◌, eqb, List, [], ◌∷◌}
use Rattle.std.proofs.Common.{◌++◌, map, length, Option, Some, None, refl, sym, ap, ◌∙◌}
use Rattle.std.specs.List.{flat_map, list_all, list_any}
use Rattle.std.specs.Option.{option_map_or}
use Rattle.std.proofs.lemmas.List.Folds.{list_all-append}
use Rattle.mp_system.specs.declared.system.Item.{Item}
use Rattle.mp_system.specs.declared.system.OrderKind.{OrderKind}
use Rattle.mp_system.specs.declared.system.OrderKind.TheVariants.{Unknown, Repeated, TooEarly}
use Rattle.mp_system.specs.System.{TaskSystem}
use Rattle.mp_system.specs.Memory.{is_ready, is_done_or, stands_in}
use Rattle.mp_system.specs.Traversal.{IsTraversal, is_task, fault_of, first_fault_after}
use Rattle.shared_systems.specs.Shared.{SharedTaskSystem, SharedItem, is_read_by}
use Rattle.shared_systems.specs.SharedMemory.{is_made, has_inputs}
use Rattle.shared_systems.specs.SharedTraversal.{IsSharedTraversal, shared_fault_of, shared_fault_after}
use Rattle.shared_systems.proofs.ItemParts.{is_supplied, spread}

abbrev pub use_of : Option ℕ → ℕ → Item
use_of from c = record { size = 0; from = from; to = Some c }

abbrev pub uses_of : SharedItem → List Item
uses_of x = map (use_of x.from) x.readers

abbrev pub reading : SharedTaskSystem → TaskSystem
reading system = record { tasks = system.tasks; items = flat_map uses_of system.items }

uses_ready : (done : ℕ → Bool) (v : ℕ) (from : Option ℕ) (readers : List ℕ)
    → list_all (is_supplied done v) (map (use_of from) readers) ≡ (not (list_any (λ c. eqb c v) readers) || is_done_or true done from)
uses_ready done v from [] = refl
uses_ready done v from (c ∷ cs) =
    ap (λ (b : Bool). (not (eqb c v) || is_done_or true done from) && b) (uses_ready done v from cs)
    ∙ spread (eqb c v) (list_any (λ d. eqb d v) cs) (is_done_or true done from)

all_ready : (done : ℕ → Bool) (v : ℕ) (xs : List SharedItem)
    → list_all (is_supplied done v) (flat_map uses_of xs) ≡ list_all (λ x. not (is_read_by v x) || is_made done x) xs
all_ready done v [] = refl
all_ready done v (x ∷ xs) =
    list_all-append (is_supplied done v) (uses_of x) (flat_map uses_of xs)
    ∙ ap (λ (b : Bool). b && list_all (is_supplied done v) (flat_map uses_of xs)) (uses_ready done v x.from x.readers)
    ∙ ap (λ (b : Bool). (not (is_read_by v x) || is_made done x) && b) (all_ready done v xs)

module _ (system : SharedTaskSystem) where
  pub ready_is : (done : ℕ → Bool) (v : ℕ) → is_ready (reading system) done v ≡ has_inputs system done v
  ready_is done v = all_ready done v system.items

  fault_same : (done : ℕ → Bool) (v : ℕ) → fault_of (reading system) done v ≡ shared_fault_of system done v
  fault_same done v =
      ap (λ (b : Bool). cond {A = Option OrderKind} (not (is_task (reading system) v)) (Some Unknown)
      (cond (done v) (Some Repeated) (cond (not b) (Some TooEarly) None))) (ready_is done v)

  pub faults_same : (before rest : List ℕ) → first_fault_after (reading system) before rest ≡ shared_fault_after system before rest
  faults_same before [] = refl
  faults_same before (v ∷ rest) =
      ap (λ (o : Option (ℕ × OrderKind)). option_map_or (λ kind. Some (length before + 1, kind))
      (fault_of (reading system) (stands_in before) v) o) (faults_same (before ++ v ∷ []) rest)
      ∙ ap (λ (f : Option OrderKind). option_map_or (λ kind. Some (length before + 1, kind)) f
      (shared_fault_after system (before ++ v ∷ []) rest)) (fault_same (stands_in before) v)

  pub to_shared : (order : List ℕ) → IsTraversal (reading system) order → IsSharedTraversal system order
  to_shared order traversal = record {
    once = traversal.once;
    tasks = traversal.tasks;
    after_suppliers = λ before rest v split. sym (ready_is (stands_in before) v) ∙ traversal.after_suppliers before rest v split;
  }

  pub from_shared : (order : List ℕ) → IsSharedTraversal system order → IsTraversal (reading system) order
  from_shared order traversal = record {
    once = traversal.once;
    tasks = traversal.tasks;
    after_suppliers = λ before rest v split. ready_is (stands_in before) v ∙ traversal.after_suppliers before rest v split;
  }
