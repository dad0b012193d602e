use Rattle.std.proofs.Common.{arith}
use Rattle.joined_systems.proofs.JoinNumbers.{count_more}
use Rattle.joined_systems.proofs.building.count_of.Goals as goal
use Rattle.joined_systems.proofs.building.count_of.Goals.{then-join-count, else-join-count}

pub loop-join-preserved : goal.loop-join-preserved
loop-join-preserved c =
    let more = count_more c.args.joins.now c.loop-join.join-index c.loop-join-test.true in
    elim c.if-join-count.branch [ then-join-count w ↦ omega (arith, more) | else-join-count w ↦ omega (arith, more) ]
