use Rattle.std.proofs.Common.{[], ap, arith}
use Rattle.shared_systems.specs.SharedMemory.{shared_peak_of}
use Rattle.shared_systems.specs.Woven.{woven}
use Rattle.shared_systems.proofs.WovenOrders.{traversal_woven, peak_woven, dropped_woven}
use Rattle.shared_systems.proofs.laws.weaving_law.Goals as goal

pub returns-clause-traversal : goal.returns-clause-traversal
returns-clause-traversal c = λ system order within traversal. traversal_woven system within.items c.ready_law.ensures order traversal

pub returns-clause-peak : goal.returns-clause-peak
returns-clause-peak c = λ system order within traversal. (
    let below = peak_woven system within.items c.ready_law.ensures order traversal within.shares in
    let above = c.dropping_law.ensures.peak system (woven system order) within
    (traversal_woven system within.items c.ready_law.ensures order traversal) in
    let back = ap (shared_peak_of system) (dropped_woven system within.items [] order traversal.tasks) in
    omega (arith, below, above, back)
    )

pub returns-clause-back : goal.returns-clause-back
returns-clause-back c = λ system order within traversal. dropped_woven system within.items [] order traversal.tasks
