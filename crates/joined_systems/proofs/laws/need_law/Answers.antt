use Rattle.joined_systems.proofs.JoinedSystems.{task_count, need_is, join_need}
use Rattle.joined_systems.proofs.laws.need_law.Goals as goal

pub returns-clause-tasks : goal.returns-clause-tasks
returns-clause-tasks c = task_count

pub returns-clause-task : goal.returns-clause-task
returns-clause-task c = need_is

pub returns-clause-join : goal.returns-clause-join
returns-clause-join c = λ system joins k is some high. join_need system joins k some high is.items
