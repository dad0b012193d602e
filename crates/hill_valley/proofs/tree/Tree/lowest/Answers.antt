use Rattle.std.proofs.Common.{arith, sym, ◌∙◌, ap}
use Rattle.std.proofs.lemmas.Map.Iter.{rest_all}
use Rattle.std.specs.Map.Iter.{deref_pair}
use Rattle.hill_valley.specs.Descents.{segs_of}
use Rattle.hill_valley.proofs.Inserting.{seen_next}
use Rattle.hill_valley.proofs.Walk.{walk_first, walk_on, walk_lowest, walk_stays, walk_starts}
use Rattle.hill_valley.proofs.tree.Tree.lowest.Goals as goal

pub loop-up-init : goal.loop-up-init
loop-up-init c =
    let e = ap segs_of (c.into_iter-up-iterator.ensures.into_iter_gives ∙ c.iter-up-items.ensures.rest) ∙ c.self.view_is in
    record {
      walk = walk_starts _ _ (rw (sym e) at (rw c.self.view_is at c.self.invariant)) (rw e c.requires.room) c.requires.level;
      told = rw e;
    }

pub overflow_add-at : goal.overflow_add-at
overflow_add-at c = let f = walk_first _ _ _ _ (seen_next _ _ _ _ c.in-Some.ensures.steps) c.loop-up.invariant.walk in
    let w = c.loop-up.invariant.walk.low in
    omega arith

pub overflow_sub-at : goal.overflow_sub-at
overflow_sub-at c = let f = walk_first _ _ _ _ (seen_next _ _ _ _ c.in-Some.ensures.steps) c.loop-up.invariant.walk in omega arith

pub returns-then-limit-at : goal.returns-then-limit-at
returns-then-limit-at c = record {
  lowest =
      sym (walk_stays _ _ _ _ (seen_next _ _ _ _ c.in-Some.ensures.steps) c.args.limit c.if-limit-at.true) ∙ c.loop-up.invariant.told;
}

pub returns-in-None : goal.returns-in-None
returns-in-None c =
    let r = rest_all deref_pair _ _ _ c.in-None.is c.next.ensures.steps in
    record { lowest = rw r at c.loop-up.invariant.told }

pub loop-up-preserved : goal.loop-up-preserved
loop-up-preserved c = record {
  walk = walk_on _ _ _ _ (seen_next _ _ _ _ c.in-Some.ensures.steps) c.loop-up.invariant.walk;
  told = sym (walk_lowest _ _ _ _ (seen_next _ _ _ _ c.in-Some.ensures.steps) c.args.limit c.if-limit-at.false) ∙ c.loop-up.invariant.told;
}
