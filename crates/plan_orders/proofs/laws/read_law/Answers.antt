use Rattle.plan_orders.specs.PlanOrder.{form_of}
use Rattle.plan_orders.proofs.OrderLemmas.{priority_read}
use Rattle.plan_orders.proofs.laws.read_law.Goals as goal

pub returns : goal.returns
returns c = λ text. priority_read c.read_law.ensures (form_of text) text
