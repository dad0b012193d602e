use Rattle.shared_systems.proofs.WithoutCollectors.{traversal_closed, traversal_dropped, peak_dropped}
use Rattle.shared_systems.specs.Collected.{collected}
use Rattle.shared_systems.proofs.laws.dropping_law.Goals as goal

pub returns-clause-traversal : goal.returns-clause-traversal
returns-clause-traversal c = λ system order within traversal. traversal_dropped system within.items order traversal

pub returns-clause-peak : goal.returns-clause-peak
returns-clause-peak c = λ system order within traversal.
    peak_dropped system within.items order traversal
    (λ before rest split. traversal_closed c.ready_law.ensures (collected system) order before rest traversal split)
