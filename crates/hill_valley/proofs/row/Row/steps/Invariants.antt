use Rattle.std.proofs.Common.{◌≡◌}
use Rattle.hill_valley.specs.Side.{profile}
use Rattle.std.specs.VecDeque.Iter.{deque_iter_rest}
use Rattle.hill_valley.proofs.Staircases.{staircase, combine}
use Rattle.hill_valley.proofs.Walk.{Walk}
use Rattle.hill_valley.proofs.row.Row.steps.Given as goal

abbrev pub invariant-loop-seg : goal.invariant-loop-seg
invariant-loop-seg l = record {
  walk : Walk l.at (profile (deque_iter_rest l.seg-iterator));
  told : combine l.steps.items (staircase l.most l.at (profile (deque_iter_rest l.seg-iterator)))
      ≡ staircase l.level l.level (profile l.self);
}
