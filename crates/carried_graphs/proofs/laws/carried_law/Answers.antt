use Rattle.carried_graphs.specs.Carried.{IsLastIfAny}
use Rattle.carried_graphs.proofs.ArcSums.{items_long, lasts_pair}
use Rattle.carried_graphs.proofs.SameOrders.{ready_is, need_is, to_carried, from_carried}
use Rattle.carried_graphs.proofs.SamePeaks.{memory_is, peak_is, to_least, from_least}
use Rattle.carried_graphs.proofs.CarriedGraphs.{graph_within}
use Rattle.carried_graphs.proofs.laws.carried_law.Goals as goal

pub returns-clause-traversal : goal.returns-clause-traversal
returns-clause-traversal c = λ system lasts order is are. (to_carried system lasts is are order, from_carried system lasts is are order)

pub returns-clause-ready : goal.returns-clause-ready
returns-clause-ready c = λ system lasts done v is are. ready_is system lasts is are done v

pub returns-clause-need : goal.returns-clause-need
returns-clause-need c = λ system lasts v is are. need_is system lasts is are v

pub returns-clause-memory : goal.returns-clause-memory
returns-clause-memory c = λ system lasts done is are closed. memory_is system lasts is are done closed

pub returns-clause-peak : goal.returns-clause-peak
returns-clause-peak c = λ system lasts order is are traversal. peak_is system lasts is are order traversal

pub returns-clause-least : goal.returns-clause-least
returns-clause-least c = λ system lasts peak is are. (to_least system lasts is are peak, from_least system lasts is are peak)

pub returns-clause-arcs : goal.returns-clause-arcs
returns-clause-arcs c = λ system lasts are. items_long (IsLastIfAny system) system.items lasts (lasts_pair system lasts are)

pub returns-clause-graph : goal.returns-clause-graph
returns-clause-graph c = λ system lasts is are few. graph_within system lasts is are few
