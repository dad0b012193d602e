use Rattle.activation.proofs.Counting.{count_le}
use Rattle.activation.proofs.run.Run.keeps.Goals as goal

pub returns-clause-few_events : goal.returns-clause-few_events
returns-clause-few_events c =
    let k = c.keeps.ensures in
    rw (← c.self.view_is) (count_le c.order_law.ensures.long c.self.inside.core.setting k.setting c.self.inside.core.state k.safe)
