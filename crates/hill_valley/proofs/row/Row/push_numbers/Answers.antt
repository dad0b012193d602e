use Rattle.hill_valley.proofs.Walk.{row_next}
use Rattle.hill_valley.proofs.Numbering.{numbering_on}
use Rattle.hill_valley.proofs.row.Row.push_numbers.Goals as goal

pub loop-seg-preserved : goal.loop-seg-preserved
loop-seg-preserved c = record {
  numbering = numbering_on _ _ _ _ _ c.loop-seg.invariant.numbering _ _
      (row_next _ _ _ c.in-Some.ensures.steps) c.if-at-stop.false _ c.in_ok-push.ensures.items;
}
