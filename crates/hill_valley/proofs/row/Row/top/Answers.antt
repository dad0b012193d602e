use Rattle.std.proofs.Common.{sym, ◌∙◌, ap, arith}
use Rattle.std.specs.VecDeque.Iter.{deque_iter_rest}
use Rattle.hill_valley.specs.Side.{profile}
use Rattle.hill_valley.proofs.Walk.{walk_starts, walk_most}
use Rattle.hill_valley.proofs.row.Row.top.Goals as goal

pub loop-seg-init : goal.loop-seg-init
loop-seg-init c =
    let e = ap deque_iter_rest c.into_iter-seg-iterator.ensures.into_iter_gives ∙ c.iter-seg-items.ensures.rest ∙ c.self.view_is in
    record {
      walk = walk_starts _ _ (rw (sym e) at (rw c.self.view_is at c.self.invariant)) (rw e c.requires.room) c.requires.level;
      least = omega arith;
      told = rw e (walk_most c.args.level (profile c.args.self.now));
    }
