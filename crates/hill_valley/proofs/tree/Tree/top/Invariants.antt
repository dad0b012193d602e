use Rattle.std.proofs.Common.{◌≡◌, ◌≤◌, max}
use Rattle.side_laws.specs.Segments.{top}
use Rattle.hill_valley.specs.Side.{profile}
use Rattle.hill_valley.specs.Descents.{segs_of}
use Rattle.hill_valley.proofs.Walk.{Walk}
use Rattle.hill_valley.proofs.tree.Tree.top.Given as goal

abbrev pub invariant-loop-up : goal.invariant-loop-up
invariant-loop-up l = record {
  walk : Walk l.at (profile (segs_of l.up-iterator));
  least : l.at ≤ l.highest;
  told : max l.highest (top l.at (profile (segs_of l.up-iterator))) ≡ top l.level (profile l.self);
}
