-- One task that runs from a state.
use Rattle.std.specs.Prelude.{◌≡◌, ◌==◌, ℕ, Bool, true, false, ◌||◌}
use Rattle.mp_system.specs.System.{TaskSystem}
use Rattle.mp_system.specs.Memory.{is_ready}

-- those that pass `later` are those that pass `done`, and task v
abbrev pub AddsTask : (ℕ → Bool) → ℕ → (ℕ → Bool) → Type 0
AddsTask done v later = (u : ℕ) → later u ≡ (done u || u == v)

-- task v can run from the state: it has not run, what it consumes has been produced, and so was what the done tasks consumed
pub record CanRun (system : TaskSystem) (done : ℕ → Bool) (v : ℕ) : Type 0 where
  pub fresh : done v ≡ false
  pub ready : is_ready system done v ≡ true
  pub suppliers : (u : ℕ) → done u ≡ true → is_ready system done u ≡ true
