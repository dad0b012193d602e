use Rattle.std.proofs.Common.{Some, refl, arith}
use Rattle.fencing.proofs.Reserves.{part_within}
use Rattle.fencing.proofs.rooms.fewest.Goals as goal
use Rattle.fencing.proofs.rooms.fewest.Goals.{in-Ok+then-len, in-Ok+else-len, in-Err}

pub fenced_with-requires : goal.fenced_with-requires
fenced_with-requires c =
    record {
      reserve = omega (
        arith,
        part_within c.args.count c.in_ok-top.top c.loop-step.step c.args.bound c.in_ok-top.ensures.share (omega (arith, c.loop-step-test.true)),
      );
    }

pub loop-step-preserved : goal.loop-step-preserved
loop-step-preserved c =
    elim c.match-fenced_with.branch [
      | in-Ok+then-len w ↦ rw w.best-is (w.in-Ok.ensures.made (Some c.args.count) (_, refl))
      | in-Ok+else-len w ↦ rw w.best-is c.loop-step.invariant
      | in-Err w ↦ rw w.best-is c.loop-step.invariant
    ]
