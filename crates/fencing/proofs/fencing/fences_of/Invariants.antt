use Rattle.std.proofs.Common.{◌≡◌, map, take}
use Rattle.fencing.specs.Takings.{fence_of, fences_left}
use Rattle.fencing.proofs.fencing.fences_of.Given as goal

abbrev pub invariant-loop-taking : goal.invariant-loop-taking
invariant-loop-taking l = l.fences.items ≡ map fence_of (fences_left (take l.taking-index l.takings))
