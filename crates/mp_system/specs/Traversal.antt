-- Traversals of a system, the least peak, and the first fault of an order that is none.
use Rattle.std.specs.Prelude.{◌≡◌, ◌==◌, ℕ, ◌+◌, ◌≤◌, Bool, true, not, ◌&&◌, nat_lt, nat_le, if◌then◌else◌, Option, Some, None, List, []}
use Rattle.std.specs.Prelude.{◌∷◌, ◌++◌, All, length, count_by}
use Rattle.std.specs.Option.{option_map_or}
use Rattle.mp_system.specs.declared.system.OrderKind.{OrderKind}
use Rattle.mp_system.specs.declared.system.OrderKind.TheVariants.{Unknown, Repeated, TooEarly, Missing}
use Rattle.mp_system.specs.System.{TaskSystem, IsTask}
use Rattle.mp_system.specs.Memory.{stands_in, is_ready, peak_of}

-- every task stands once, nothing else stands, and every task stands after those that produce what it consumes
pub record IsTraversal (system : TaskSystem) (order : List ℕ) : Type 0 where
  pub once : (v : ℕ) → IsTask system v → count_by (λ u. u == v) order ≡ 1
  pub tasks : All (IsTask system) order
  pub after_suppliers : (before rest : List ℕ) (v : ℕ) → order ≡ before ++ v ∷ rest → is_ready system (stands_in before) v ≡ true

-- a least peak: some traversal has it, and none has a lower one
pub record IsLeast (system : TaskSystem) (peak : ℕ) : Type 0 where
  pub order : List ℕ
  pub traversal : IsTraversal system order
  pub attained : peak_of system order ≡ peak
  pub least : (other : List ℕ) → IsTraversal system other → peak ≤ peak_of system other

-- whether v is the number of a task
abbrev pub is_task : TaskSystem → ℕ → Bool
is_task system v = nat_le 1 v && nat_le v (length system.tasks)

-- why task v cannot run next when the tasks that pass `done` are done, if it cannot
abbrev pub fault_of : TaskSystem → (ℕ → Bool) → ℕ → Option OrderKind
fault_of system done v =
    if not (is_task system v) then Some Unknown
    else (if done v then Some Repeated
    else (if not (is_ready system done v) then Some TooEarly
    else None))

-- the first place, counted from 1, at which the list fails to be a traversal, with the reason; after `before`
abbrev pub first_fault_after : TaskSystem → List ℕ → List ℕ → Option (ℕ × OrderKind)
first_fault_after system before [] = if nat_lt (length before) (length system.tasks) then Some (length before + 1, Missing) else None
first_fault_after system before (v ∷ rest) =
    option_map_or (λ kind. Some (length before + 1, kind)) (fault_of system (stands_in before) v)
    (first_fault_after system (before ++ v ∷ []) rest)

abbrev pub first_fault : TaskSystem → List ℕ → Option (ℕ × OrderKind)
first_fault system order = first_fault_after system [] order
