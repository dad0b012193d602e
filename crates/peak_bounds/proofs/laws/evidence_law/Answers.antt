use Rattle.std.proofs.Common.{refl}
use Rattle.peak_bounds.proofs.AtBlockers.{evidence_bound}
use Rattle.peak_bounds.proofs.laws.evidence_law.Goals as goal

pub returns-clause-bound : goal.returns-clause-bound
returns-clause-bound c = λ system evidence bound order is holds traversal. evidence_bound system is order traversal evidence bound holds

pub returns-clause-least : goal.returns-clause-least
returns-clause-least c = λ system evidence order is traversal holds. record {
  order = order;
  traversal = traversal;
  attained = refl;
  least = λ other is_other. evidence_bound system is other is_other evidence _ holds;
}
