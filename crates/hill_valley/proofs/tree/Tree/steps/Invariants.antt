use Rattle.std.proofs.Common.{◌≡◌}
use Rattle.hill_valley.specs.Side.{profile}
use Rattle.hill_valley.specs.Descents.{segs_of}
use Rattle.hill_valley.proofs.Staircases.{staircase, combine}
use Rattle.hill_valley.proofs.Walk.{Walk}
use Rattle.hill_valley.proofs.tree.Tree.steps.Given as goal

abbrev pub invariant-loop-up : goal.invariant-loop-up
invariant-loop-up l = record {
  walk : Walk l.at (profile (segs_of l.up-iterator));
  told : combine l.steps.items (staircase l.most l.at (profile (segs_of l.up-iterator))) ≡ staircase l.level l.level (profile l.self);
}
