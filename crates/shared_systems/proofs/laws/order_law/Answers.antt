use Rattle.shared_systems.proofs.Reading.{reading, faults_same, to_shared, from_shared}
use Rattle.std.proofs.Common.{[], ◌∙◌, sym}
use Rattle.shared_systems.proofs.laws.order_law.Goals as goal

pub returns-clause-fault : goal.returns-clause-fault
returns-clause-fault c = λ system order. (
  (λ none. to_shared system order ((c.traversal_law.ensures.fault (reading system) order).0 (faults_same system [] order ∙ none))),
  (λ traversal. sym (faults_same system [] order)
      ∙ (c.traversal_law.ensures.fault (reading system) order).1 (from_shared system order traversal)),
)

pub returns-clause-long : goal.returns-clause-long
returns-clause-long c = λ system order traversal. c.traversal_law.ensures.long (reading system) order (from_shared system order traversal)
