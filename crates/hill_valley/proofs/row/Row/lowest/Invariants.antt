use Rattle.std.proofs.Common.{◌≡◌}
use Rattle.side_laws.specs.Segments.{lowest}
use Rattle.hill_valley.specs.Side.{profile}
use Rattle.std.specs.VecDeque.Iter.{deque_iter_rest}
use Rattle.hill_valley.proofs.Walk.{Walk}
use Rattle.hill_valley.proofs.row.Row.lowest.Given as goal

abbrev pub invariant-loop-seg : goal.invariant-loop-seg
invariant-loop-seg l = record {
  walk : Walk l.at (profile (deque_iter_rest l.seg-iterator));
  told : lowest l.limit l.at (profile (deque_iter_rest l.seg-iterator)) ≡ lowest l.limit l.level (profile l.self);
}
