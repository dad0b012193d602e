use Rattle.std.proofs.Common.{ap, ◌∙◌}
use Rattle.hill_valley.specs.Descents.{seg_of, segs_of}
use Rattle.hill_valley.proofs.Kept.{extends_self}
use Rattle.hill_valley.proofs.Tasks.{listing_starts, listing_first, listing_on}
use Rattle.hill_valley.proofs.tree.Tree.tasks.Goals as goal

pub loop-up-init : goal.loop-up-init
loop-up-init c = record {
  listing = listing_starts _ _ _ _ _
      (ap segs_of (c.into_iter-up-iterator.ensures.into_iter_gives ∙ c.iter-up-items.ensures.rest) ∙ c.self.view_is) c.requires.ropes
      (extends_self _) c.empty-tasks.ensures.rope c.empty-tasks.ensures.list;
}

pub join-requires-clause-b : goal.join-requires-clause-b
join-requires-clause-b c = listing_first _ _ _ _ _ _
    (seg_of (c.in-Some._up.now, c.in-Some.descent.now)) c.loop-up.invariant.listing (ap segs_of c.in-Some.ensures.steps)

pub loop-up-preserved : goal.loop-up-preserved
loop-up-preserved c = record {
  listing = listing_on _ _ _ _ _ _ (seg_of (c.in-Some._up.now, c.in-Some.descent.now)) c.loop-up.invariant.listing
      (ap segs_of c.in-Some.ensures.steps) _ _ c.join.ensures.kept c.in_ok-tasks.ensures.rope c.in_ok-tasks.ensures.list;
}
