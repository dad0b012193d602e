use Rattle.std.proofs.Common.{◌≡◌, ◌≤◌, max}
use Rattle.side_laws.specs.Segments.{top}
use Rattle.hill_valley.specs.Side.{profile}
use Rattle.std.specs.VecDeque.Iter.{deque_iter_rest}
use Rattle.hill_valley.proofs.Walk.{Walk}
use Rattle.hill_valley.proofs.row.Row.top.Given as goal

abbrev pub invariant-loop-seg : goal.invariant-loop-seg
invariant-loop-seg l = record {
  walk : Walk l.at (profile (deque_iter_rest l.seg-iterator));
  least : l.at ≤ l.highest;
  told : max l.highest (top l.at (profile (deque_iter_rest l.seg-iterator))) ≡ top l.level (profile l.self);
}
