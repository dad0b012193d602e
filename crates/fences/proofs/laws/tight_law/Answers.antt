use Rattle.std.proofs.Common.{arith}
use Rattle.fences.proofs.laws.tight_law.Goals as goal

pub returns-clause-least : goal.returns-clause-least
returns-clause-least c = λ system amounts moment within is same other handed. omega (arith, same, c.fence_law.ensures.moment system other moment within handed is)

pub returns-clause-greatest : goal.returns-clause-greatest
returns-clause-greatest c = λ system amounts moment within handed same other is. omega (arith, same, c.fence_law.ensures.moment system amounts other within handed is)
