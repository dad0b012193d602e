-- A replay between two tasks.
use Rattle.std.specs.Prelude.{ℕ, ◌-◌, Bool, false, ◌&&◌, nat_le, List, slice_index_or}
use Rattle.mp_system.specs.System.{TaskSystem}

-- the system, and for each of its tasks whether it has run
pub record ReplayState : Type 0 where
  pub system : TaskSystem
  pub ran : List Bool

-- whether task v is marked; a number that is no task's is not
abbrev pub is_marked : List Bool → ℕ → Bool
is_marked marks v = nat_le 1 v && slice_index_or marks (v - 1) false

-- whether task v has run
abbrev pub has_run : ReplayState → ℕ → Bool
has_run state v = is_marked state.ran v
