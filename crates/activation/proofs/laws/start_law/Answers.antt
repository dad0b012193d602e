use Rattle.activation.proofs.Safety.{start_safe, start_booked, start_used}
use Rattle.activation.proofs.laws.start_law.Goals as goal

pub returns-clause-safe : goal.returns-clause-safe
returns-clause-safe c = start_safe

pub returns-clause-booked : goal.returns-clause-booked
returns-clause-booked c = start_booked

pub returns-clause-used : goal.returns-clause-used
returns-clause-used c = start_used
