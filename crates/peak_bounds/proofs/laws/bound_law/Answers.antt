use Rattle.std.proofs.Common.{refl}
use Rattle.peak_bounds.proofs.Steps.{steps_bound}
use Rattle.peak_bounds.proofs.laws.bound_law.Goals as goal

pub returns-clause-bound : goal.returns-clause-bound
returns-clause-bound c = λ system steps bound order are traversal. steps_bound system order traversal steps bound are

pub returns-clause-least : goal.returns-clause-least
returns-clause-least c = λ system steps order traversal are. record {
  order = order;
  traversal = traversal;
  attained = refl;
  least = λ other is. steps_bound system other is steps _ are;
}
