use Rattle.std.proofs.Common.{length}
use Rattle.joined_systems.specs.Joined.{joined}
use Rattle.joined_systems.proofs.SameLeast.{least_there, least_here}
use Rattle.joined_systems.proofs.laws.least_law.Goals as goal

pub returns : goal.returns
returns c = λ system joins peak is safe. (
  least_there system (joined joins system) (length system.tasks)
      (λ o. c.dropping_law.ensures.traversal system joins o is) (λ o. c.dropping_law.ensures.peak system joins o is)
      (λ o. c.weaving_law.ensures system joins o is safe) peak,
  least_here system (joined joins system) (length system.tasks)
      (λ o. c.dropping_law.ensures.traversal system joins o is) (λ o. c.dropping_law.ensures.peak system joins o is)
      (λ o. c.weaving_law.ensures system joins o is safe) peak,
)
