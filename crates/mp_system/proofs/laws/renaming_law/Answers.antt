use Rattle.mp_system.proofs.RenamingOrders.{traversal_named, traversal_own, each_traversal, peak_same, least_named, least_own}
use Rattle.mp_system.proofs.laws.renaming_law.Goals as goal

pub returns-clause-traversal : goal.returns-clause-traversal
returns-clause-traversal c =
    λ names own named order same. (traversal_named names own named same order, traversal_own names own named same order)

pub returns-clause-each : goal.returns-clause-each
returns-clause-each c = λ names own named order same traversal. each_traversal names own named same order traversal

pub returns-clause-peak : goal.returns-clause-peak
returns-clause-peak c = λ names own named order same traversal. peak_same names own named same order traversal

pub returns-clause-least : goal.returns-clause-least
returns-clause-least c = λ names own named peak same. (least_named names own named same peak, least_own names own named same peak)
