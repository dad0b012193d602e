use Rattle.std.proofs.Common.{◌++◌}
use Rattle.hill_valley.specs.Numbers.{segments_listed, first_down_to}
use Rattle.hill_valley.specs.Side.{profile}
use Rattle.hill_valley.specs.Descents.{segs_of}
use Rattle.hill_valley.proofs.Numbering.{Numbering}
use Rattle.hill_valley.proofs.tree.Tree.push_numbers.Given as goal

abbrev pub invariant-loop-up : goal.invariant-loop-up
invariant-loop-up l = record {
  numbering : Numbering l.stop (segments_listed l.fn.numbers.items ++ first_down_to l.stop l.level (profile l.self)) l.at
      (profile (segs_of l.up-iterator)) l.numbers.items;
}
