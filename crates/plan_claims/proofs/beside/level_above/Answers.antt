use Rattle.std.proofs.Common.{refl}
use Rattle.plan_claims.proofs.Loops.{keeping_ends}
use Rattle.plan_claims.proofs.beside.level_above.Goals as goal

pub loop-seg-init : goal.loop-seg-init
loop-seg-init c = record { keeping = record { told = refl; room = c.requires } }

pub returns : goal.returns
returns c = keeping_ends c.args.segments.now c.loop-seg.seg-index
    (record { up = 0; net = 0 }) c.args.over c.loop-seg.level _ c.loop-seg.invariant.keeping c.loop-seg-test.false
