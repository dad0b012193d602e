use Rattle.activation.proofs.Changes.{event_change}
use Rattle.activation.proofs.Safety.{happen_safe}
use Rattle.activation.proofs.laws.event_law.Goals as goal

pub returns-clause-kept : goal.returns-clause-kept
returns-clause-kept c = happen_safe

pub returns-clause-change : goal.returns-clause-change
returns-clause-change c = event_change
