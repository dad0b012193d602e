use Rattle.activation.proofs.Counting.{run_is_short, run_at_most_once}
use Rattle.activation.proofs.laws.once_law.Goals as goal

pub returns-clause-once : goal.returns-clause-once
returns-clause-once c = run_at_most_once c.start_law.ensures.safe c.event_law.ensures.kept

pub returns-clause-few : goal.returns-clause-few
returns-clause-few c = run_is_short c.order_law.ensures.long c.start_law.ensures.safe c.event_law.ensures.kept
