use Rattle.sp_cuts.proofs.Noted.{so_far_on}
use Rattle.sp_cuts.proofs.noting.note_parts.Goals as goal

pub loop-i-preserved : goal.loop-i-preserved
loop-i-preserved c = record {
  so_far = so_far_on c.args.parts.now c.longest-most.result c.loop-i.i _ _ _ c.index-parts-i.result
      c.loop-i.invariant.so_far c.loop-i-test.true c.index-parts-i.is c.in_ok-note_part.ensures;
}
