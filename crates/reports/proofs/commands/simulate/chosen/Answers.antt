use Rattle.std.proofs.Common.{sym, subst, length}
use Rattle.activation.specs.Schedule.{HoldsEach}
use Rattle.judging.specs.Judged.{IsRanking, system_of_tasks}
use Rattle.judging.proofs.HeldTasks.{of_perm}
use Rattle.reports.proofs.commands.simulate.chosen.Goals as goal

pub returns-in-Own-clause-each : goal.returns-in-Own-clause-each
returns-in-Own-clause-each c = λ traversal. c.priority.ensures.each (system_of_tasks c.args.ordered.now.tasks) traversal

pub returns-in-Given-clause-each : goal.returns-in-Given-clause-each
returns-in-Given-clause-each c = λ traversal.
    let system = system_of_tasks c.args.ordered.now.tasks in
    subst (HoldsEach system) (sym c.deref.ensures.value)
    (of_perm system c.in-Given.numbers.items (subst (IsRanking (length system.tasks)) c.in-Given.is c.requires))
