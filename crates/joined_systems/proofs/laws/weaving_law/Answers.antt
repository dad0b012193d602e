use Rattle.std.proofs.Common.{◌≡◌, [], length, ap, arith}
use Rattle.shared_systems.specs.SharedMemory.{shared_peak_of}
use Rattle.joined_systems.specs.Joined.{joined}
use Rattle.joined_systems.proofs.WovenJoins.{woven, traversal_woven, peak_woven, without_woven}
use Rattle.joined_systems.proofs.laws.weaving_law.Goals as goal

pub returns : goal.returns
returns c = λ system joins order is safe traversal. (
    let other = woven (length system.tasks) joins order in
    let there = traversal_woven system joins is safe order traversal in
    let back = without_woven system joins is safe [] order traversal.tasks in
    let below = c.dropping_law.ensures.peak system joins other is there in
    let above = peak_woven system joins is safe order traversal in
    let same : shared_peak_of (joined joins system) other ≡ shared_peak_of system order =
    omega (arith, below, above, ap (shared_peak_of system) back) in
    (other, (there, back, same))
    )
