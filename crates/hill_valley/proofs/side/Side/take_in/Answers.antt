use Rattle.hill_valley.proofs.Moved.{moving_starts, moving_on}
use Rattle.hill_valley.proofs.side.Side.take_in.Goals as goal

pub loop-seg-init : goal.loop-seg-init
loop-seg-init c = record { moving = moving_starts _ _ _ _ c.requires.other c.requires.ropes c.requires.net }

pub loop-seg-preserved : goal.loop-seg-preserved
loop-seg-preserved c = record {
  moving = moving_on _ _ _ _ _ _ _ _ _ c.loop-seg.invariant.moving c.in-Some.ensures.first _ _
      c.in_ok-insert.ensures.kept c.in_ok-insert.ensures.ropes c.in_ok-insert.ensures.segments c.in_ok-insert.ensures.net;
}
