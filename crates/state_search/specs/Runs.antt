-- No public clause names this.
-- Orders below a bound as steps from a state to the next.
use Rattle.std.specs.Prelude.{◌≡◌, ℕ, ◌-◌, ◌<◌, Bool, true, false, List, [], ◌∷◌, slice_set}
use Rattle.mp_system.specs.Replay.{is_marked}
use Rattle.shared_systems.specs.Shared.{SharedTaskSystem, HasTask}
use Rattle.shared_systems.specs.SharedMemory.{has_inputs, shared_running}
use Rattle.state_search.specs.States.{memory_in}

-- task v is done too
abbrev pub with_done : List Bool → ℕ → List Bool
with_done marks v = slice_set marks (v - 1) true

-- task v can run next, and the memory is below the bound while it runs
pub record IsStepBelow (system : SharedTaskSystem) (bound : ℕ) (marks : List Bool) (v : ℕ) : Type 0 where
  pub task : HasTask system v
  pub waits : is_marked marks v ≡ false
  pub ready : has_inputs system (is_marked marks) v ≡ true
  pub below : shared_running system (is_marked marks) v < bound

abbrev pub AreAllDone : SharedTaskSystem → List Bool → Type 0
AreAllDone system marks = (v : ℕ) → HasTask system v → is_marked marks v ≡ true

-- from this state these tasks can run one after the other below the bound, and then all are done
unfoldable pub Runs : SharedTaskSystem → ℕ → List Bool → List ℕ → Type 0
Runs system bound marks [] = (memory_in system marks < bound) × AreAllDone system marks
Runs system bound marks (v ∷ rest) =
    (memory_in system marks < bound) × IsStepBelow system bound marks v × Runs system bound (with_done marks v) rest
