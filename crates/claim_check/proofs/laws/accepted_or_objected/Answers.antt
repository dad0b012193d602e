use Rattle.claim_check.proofs.Objections.{accepted_or_objected, not_both, one_objection, one_verdict}
use Rattle.claim_check.proofs.laws.accepted_or_objected.Goals as goal

pub returns-clause-some : goal.returns-clause-some
returns-clause-some c = accepted_or_objected c.traversal_law.ensures.fault

pub returns-clause-not_both : goal.returns-clause-not_both
returns-clause-not_both c = not_both c.traversal_law.ensures.fault

pub returns-clause-one_objection : goal.returns-clause-one_objection
returns-clause-one_objection c = one_objection c.traversal_law.ensures.fault

pub returns-clause-one_verdict : goal.returns-clause-one_verdict
returns-clause-one_verdict c = one_verdict c.traversal_law.ensures.fault
