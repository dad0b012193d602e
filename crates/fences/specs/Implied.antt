-- Fences that forbid no run.
use Rattle.std.specs.Prelude.{List, []}
use Rattle.shared_systems.specs.Shared.{SharedTaskSystem}
use Rattle.fences.specs.declared.fenced.Fence.{Fence}
use Rattle.fences.specs.Runs.{Change}
use Rattle.fences.specs.SharedRuns.{IsFencedRun}

-- what they let a task wait for is over anyway before all that it reads has been made: each parallel run of the system as it stands, without
-- any fence, keeps to them
abbrev pub AreImplied : SharedTaskSystem → List Fence → Type 0
AreImplied system fences = (changes : List Change) → IsFencedRun system [] changes → IsFencedRun system fences changes
