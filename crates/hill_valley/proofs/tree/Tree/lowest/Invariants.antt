use Rattle.std.proofs.Common.{◌≡◌}
use Rattle.side_laws.specs.Segments.{lowest}
use Rattle.hill_valley.specs.Side.{profile}
use Rattle.hill_valley.specs.Descents.{segs_of}
use Rattle.hill_valley.proofs.Walk.{Walk}
use Rattle.hill_valley.proofs.tree.Tree.lowest.Given as goal

abbrev pub invariant-loop-up : goal.invariant-loop-up
invariant-loop-up l = record {
  walk : Walk l.at (profile (segs_of l.up-iterator));
  told : lowest l.limit l.at (profile (segs_of l.up-iterator)) ≡ lowest l.limit l.level (profile l.self);
}
