use Rattle.std.proofs.Common.{◌≡◌, take}
use Rattle.fencing.specs.Takings.{handed_along}
use Rattle.fencing.proofs.fencing.item_amounts.Given as goal

abbrev pub invariant-loop-taking : goal.invariant-loop-taking
invariant-loop-taking l = l.amounts.items ≡ handed_along l.fn.items (take l.taking-index l.takings)
