-- What the peak of an order is the greatest of: the memories along the order.
use Rattle.std.specs.Prelude.{◌≡◌, ℕ, List, ◌∷◌, ◌++◌, ◌⊎◌}
use Rattle.mp_system.specs.System.{TaskSystem}
use Rattle.mp_system.specs.Memory.{state_memory, running_memory, stands_in}

-- the memory of a state: after some first tasks of the order, after none and after all of them too
abbrev pub IsStateMemory : TaskSystem → List ℕ → ℕ → Type 0
IsStateMemory system order memory =
    (before rest : List ℕ) × (order ≡ before ++ rest) × (memory ≡ state_memory system (stands_in before))

-- the memory while a task of the order runs, after those that stand before it
abbrev pub IsRunningMemory : TaskSystem → List ℕ → ℕ → Type 0
IsRunningMemory system order memory =
    (before rest : List ℕ) × (v : ℕ) × (order ≡ before ++ v ∷ rest)
    × (memory ≡ running_memory system (stands_in before) v)

abbrev pub IsMemoryAlong : TaskSystem → List ℕ → ℕ → Type 0
IsMemoryAlong system order memory = IsStateMemory system order memory ⊎ IsRunningMemory system order memory
