-- Traversals of least peak. Liu 1987.
use Rattle.std.specs.Prelude.{◌≡◌, ℕ, List}
use Rattle.mp_system.specs.Memory.{peak_of}
use Rattle.mp_system.specs.System.{TaskSystem}
use Rattle.mp_system.specs.Traversal.{IsTraversal, IsLeast}

-- the order is a traversal of the system with this peak, and no traversal has a lower one
pub record IsBestTraversal (system : TaskSystem) (order : List ℕ) (peak : ℕ) : Type 0 where
  pub traversal : IsTraversal system order
  pub is_peak : peak_of system order ≡ peak
  pub least : IsLeast system peak
