use Rattle.std.proofs.Common.{sym, ◌∙◌, ap, arith}
use Rattle.hill_valley.specs.Side.{profile}
use Rattle.hill_valley.specs.Descents.{segs_of}
use Rattle.hill_valley.proofs.Walk.{walk_starts, walk_most}
use Rattle.hill_valley.proofs.tree.Tree.top.Goals as goal

pub loop-up-init : goal.loop-up-init
loop-up-init c =
    let e = ap segs_of (c.into_iter-up-iterator.ensures.into_iter_gives ∙ c.iter-up-items.ensures.rest) ∙ c.self.view_is in
    record {
      walk = walk_starts _ _ (rw (sym e) at (rw c.self.view_is at c.self.invariant)) (rw e c.requires.room) c.requires.level;
      least = omega arith;
      told = rw e (walk_most c.args.level (profile c.args.self.now));
    }
