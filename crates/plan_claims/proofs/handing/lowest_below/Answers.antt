use Rattle.std.proofs.Common.{refl, arith}
use Rattle.plan_claims.proofs.Loops.{lowest_ends, lowest_stops, lowest_goes}
use Rattle.plan_claims.proofs.handing.lowest_below.Goals as goal

pub loop-seg-init : goal.loop-seg-init
loop-seg-init c = refl

pub loop-seg-preserved : goal.loop-seg-preserved
loop-seg-preserved c =
    lowest_goes c.args.segments.now c.loop-seg.seg-index
    (record { up = 0; net = 0 }) c.args.limit c.loop-seg.at c.args.level c.loop-seg.invariant _ c.loop-seg-test.true
    (let h = c.if-saturating_sub-seg.false in omega (arith, c.saturating_sub.ensures)) c.saturating_sub-at.ensures

pub returns-after-loop-seg : goal.returns-after-loop-seg
returns-after-loop-seg c = lowest_ends c.args.segments.now c.loop-seg.seg-index
    (record { up = 0; net = 0 }) c.args.limit c.loop-seg.at c.args.level c.loop-seg.invariant c.loop-seg-test.false

pub returns-then-saturating_sub-seg : goal.returns-then-saturating_sub-seg
returns-then-saturating_sub-seg c =
    lowest_stops c.args.segments.now c.loop-seg.seg-index
    (record { up = 0; net = 0 }) c.args.limit c.loop-seg.at c.args.level c.loop-seg.invariant c.loop-seg-test.true
    (let h = c.if-saturating_sub-seg.true in omega (arith, c.saturating_sub.ensures))
