use Rattle.std.proofs.Common.{[]}
use Rattle.shared_systems.proofs.SameSystems.{state_same, own_need_same, inputs_ready, peak_same, to_own, from_own}
use Rattle.shared_systems.proofs.SameSystems.{own_faults_same, to_own_least, from_own_least, collected_same}
use Rattle.shared_systems.proofs.laws.one_reader_law.Goals as goal

pub returns-clause-memory : goal.returns-clause-memory
returns-clause-memory c = state_same

pub returns-clause-need : goal.returns-clause-need
returns-clause-need c = own_need_same

pub returns-clause-ready : goal.returns-clause-ready
returns-clause-ready c = inputs_ready

pub returns-clause-peak : goal.returns-clause-peak
returns-clause-peak c = peak_same

pub returns-clause-traversal : goal.returns-clause-traversal
returns-clause-traversal c = λ system order. (to_own system order, from_own system order)

pub returns-clause-fault : goal.returns-clause-fault
returns-clause-fault c = λ system order. own_faults_same system [] order

pub returns-clause-least : goal.returns-clause-least
returns-clause-least c = λ system peak. (to_own_least system peak, from_own_least system peak)

pub returns-clause-collected : goal.returns-clause-collected
returns-clause-collected c = collected_same
