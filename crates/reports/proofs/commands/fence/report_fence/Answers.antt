use Rattle.judging.specs.Judged.{order_tasks, system_of_tasks}
use Rattle.requests.specs.RequestViews.{tasks_view}
use Rattle.judging.proofs.InputLemmas.{tasks_have_system}
use Rattle.judging.proofs.StepLemmas.{passed}
use Rattle.reports.proofs.commands.fence.report_fence.Goals as goal

pub returns-in_err-ordered-clause-told : goal.returns-in_err-ordered-clause-told
returns-in_err-ordered-clause-told g c =
    passed c.from_residual.result _ _ c.in_err-ordered.field-0.0 c.from_residual.ensures.1 c.in_err-ordered.ensures.judged

pub returns-clause-told : goal.returns-clause-told
returns-clause-told g c = λ texts are.
    let is = c.in_ok-ordered.ensures.judged texts are in
    let ordered = c.in_ok-ordered.ordered in (
      is.mine,
      is.text,
      system_of_tasks ordered.tasks,
      order_tasks ordered.order,
      is.texts_are,
      tasks_have_system (tasks_view c.args.asked.tasks) is.mine ordered.tasks is.is_value,
      is.is_order.0,
      c.in_ok-fence_page.ensures,
    )
