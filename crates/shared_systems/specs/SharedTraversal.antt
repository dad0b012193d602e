-- Traversals of a shared system, the least peak, and the first fault of an order that is none.
use Rattle.std.specs.Prelude.{◌≡◌, ◌==◌, ℕ, ◌+◌, ◌≤◌, Bool, true, not, ◌&&◌, nat_lt, nat_le, if◌then◌else◌, Option, Some, None, List, []}
use Rattle.std.specs.Prelude.{◌∷◌, ◌++◌, All, length, count_by}
use Rattle.std.specs.Option.{option_map_or}
use Rattle.mp_system.specs.declared.system.OrderKind.{OrderKind}
use Rattle.mp_system.specs.declared.system.OrderKind.TheVariants.{Unknown, Repeated, TooEarly, Missing}
use Rattle.mp_system.specs.declared.order.ReplayRefusal.{ReplayRefusal}
use Rattle.mp_system.specs.declared.order.ReplayRefusal.TheVariants as refusals
use Rattle.mp_system.specs.Memory.{stands_in}
use Rattle.shared_systems.specs.Shared.{SharedTaskSystem, HasTask}
use Rattle.shared_systems.specs.SharedMemory.{has_inputs, shared_peak_of}

-- every task stands once, nothing else stands, and every task stands after those that produce what it reads
pub record IsSharedTraversal (system : SharedTaskSystem) (order : List ℕ) : Type 0 where
  pub once : (v : ℕ) → HasTask system v → count_by (λ u. u == v) order ≡ 1
  pub tasks : All (HasTask system) order
  pub after_suppliers : (before rest : List ℕ) (v : ℕ) → order ≡ before ++ v ∷ rest → has_inputs system (stands_in before) v ≡ true

-- a least peak: some traversal has it, and none has a lower one
pub record IsLeastShared (system : SharedTaskSystem) (peak : ℕ) : Type 0 where
  pub order : List ℕ
  pub traversal : IsSharedTraversal system order
  pub attained : shared_peak_of system order ≡ peak
  pub least : (other : List ℕ) → IsSharedTraversal system other → peak ≤ shared_peak_of system other

-- whether v is the number of a task
abbrev pub has_task : SharedTaskSystem → ℕ → Bool
has_task system v = nat_le 1 v && nat_le v (length system.tasks)

-- why task v cannot run next when the tasks that pass `done` are done, if it cannot
abbrev pub shared_fault_of : SharedTaskSystem → (ℕ → Bool) → ℕ → Option OrderKind
shared_fault_of system done v =
    if not (has_task system v) then Some Unknown
    else (if done v then Some Repeated
    else (if not (has_inputs system done v) then Some TooEarly
    else None))

-- the first place, counted from 1, at which the list fails to be a traversal, with the reason; after `before`
abbrev pub shared_fault_after : SharedTaskSystem → List ℕ → List ℕ → Option (ℕ × OrderKind)
shared_fault_after system before [] = if nat_lt (length before) (length system.tasks) then Some (length before + 1, Missing) else None
shared_fault_after system before (v ∷ rest) =
    option_map_or (λ kind. Some (length before + 1, kind)) (shared_fault_of system (stands_in before) v)
    (shared_fault_after system (before ++ v ∷ []) rest)

abbrev pub first_shared_fault : SharedTaskSystem → List ℕ → Option (ℕ × OrderKind)
first_shared_fault system order = shared_fault_after system [] order

-- the refused order is no traversal, and the refusal has the first place at which it fails, with the reason; want of memory tells
-- nothing of the order
abbrev pub IsSharedOrderRefusal : SharedTaskSystem → List ℕ → ReplayRefusal → Type 0
IsSharedOrderRefusal system order (refusals.Order fault) =
    (first_shared_fault system order ≡ Some (fault.place, fault.kind)) × (¬ IsSharedTraversal system order)
IsSharedOrderRefusal system order refusals.NoMemory = Unit {0}
