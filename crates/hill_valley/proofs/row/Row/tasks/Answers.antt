use Rattle.hill_valley.proofs.Tasks.{listing_on}
use Rattle.hill_valley.proofs.row.Row.tasks.Goals as goal

pub loop-seg-preserved : goal.loop-seg-preserved
loop-seg-preserved c = record {
  listing = listing_on _ _ _ _ _ _ c.in-Some.seg.now c.loop-seg.invariant.listing
      c.in-Some.ensures.steps _ _ c.join.ensures.kept c.in_ok-tasks.ensures.rope c.in_ok-tasks.ensures.list;
}
