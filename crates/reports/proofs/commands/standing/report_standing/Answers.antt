use Rattle.judging.specs.Judged.{system_of_tasks}
use Rattle.requests.specs.RequestViews.{tasks_view}
use Rattle.judging.proofs.InputLemmas.{tasks_have_system}
use Rattle.judging.proofs.StepLemmas.{passed}
use Rattle.reports.proofs.commands.standing.report_standing.Goals as goal

pub returns-in_err-read-clause-told : goal.returns-in_err-read-clause-told
returns-in_err-read-clause-told g c =
    passed c.from_residual.result _ _ c.in_err-read.field-0.0 c.from_residual.ensures.1 c.in_err-read.ensures.judged

pub returns-clause-told : goal.returns-clause-told
returns-clause-told g c = λ texts are.
    let read = c.in_ok-read.read in (
      system_of_tasks read,
      tasks_have_system (tasks_view c.args.tasks) texts read (c.in_ok-read.ensures.judged texts are),
      c.in_ok-standing_page.ensures,
    )
