use Rattle.std.proofs.Common.{◌++◌}
use Rattle.std.specs.VecDeque.Iter.{deque_iter_rest}
use Rattle.hill_valley.specs.Numbers.{segments_listed, first_down_to}
use Rattle.hill_valley.specs.Side.{profile}
use Rattle.hill_valley.proofs.Numbering.{Numbering}
use Rattle.hill_valley.proofs.row.Row.push_numbers.Given as goal

abbrev pub invariant-loop-seg : goal.invariant-loop-seg
invariant-loop-seg l = record {
  numbering : Numbering l.stop (segments_listed l.fn.numbers.items ++ first_down_to l.stop l.level (profile l.self)) l.at
      (profile (deque_iter_rest l.seg-iterator)) l.numbers.items;
}
