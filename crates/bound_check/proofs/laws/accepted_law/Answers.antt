use Rattle.bound_check.proofs.Bounds.{accepted_bound, least_accepted}
use Rattle.bound_check.proofs.laws.accepted_law.Goals as goal

pub returns-clause-bound : goal.returns-clause-bound
returns-clause-bound c = accepted_bound (record {
  sums = c.evidence_law.ensures.bound;
  claims = c.claims_law.ensures;
  back = c.told_term_law.ensures.back;
  states = c.states_law.ensures;
})

pub returns-clause-least : goal.returns-clause-least
returns-clause-least c = least_accepted (returns-clause-bound c)
