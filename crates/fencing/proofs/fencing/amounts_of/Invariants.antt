use Rattle.std.proofs.Common.{◌≡◌, ◌++◌, map, take}
use Rattle.fencing.specs.Takings.{fences_left, handed_along, taking_amount}
use Rattle.fencing.proofs.fencing.amounts_of.Given as goal

abbrev pub invariant-loop-taking : goal.invariant-loop-taking
invariant-loop-taking l = l.amounts.items ≡ handed_along l.fn.items l.takings ++ map taking_amount (fences_left (take l.taking-index l.takings))
