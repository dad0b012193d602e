use Rattle.joined_systems.proofs.WithoutJoins.{traversal_without, peak_without}
use Rattle.joined_systems.proofs.laws.dropping_law.Goals as goal

pub returns-clause-traversal : goal.returns-clause-traversal
returns-clause-traversal c = λ system joins order is traversal. traversal_without system joins is.items order traversal

pub returns-clause-peak : goal.returns-clause-peak
returns-clause-peak c = λ system joins order is traversal. peak_without system joins is.items order traversal
