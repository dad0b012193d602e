use Rattle.judging.specs.Judged.{order_tasks}
use Rattle.judging.specs.Pages.{answer_of}
use Rattle.requests.specs.RequestViews.{tasks_view, source_view}
use Rattle.judging.proofs.StepLemmas.{passed}
use Rattle.reports.proofs.SpillLemmas.{spill_told}
use Rattle.reports.proofs.commands.spill.report_spill.Goals as goal

pub returns-in_err-ordered-clause-told : goal.returns-in_err-ordered-clause-told
returns-in_err-ordered-clause-told g c =
    passed c.from_residual.result _ _ c.in_err-ordered.field-0.0 c.from_residual.ensures.1 c.in_err-ordered.ensures.judged

pub returns-clause-told : goal.returns-clause-told
returns-clause-told g c = λ texts are.
    let is = c.in_ok-ordered.ensures.judged texts are in
    let ordered = c.in_ok-ordered.ordered in
    spill_told (tasks_view c.args.asked.tasks) (source_view c.args.asked.source) c.args.asked.bound texts is.mine is.text
    ordered.tasks (order_tasks ordered.order) (answer_of c.in_ok-tasks_page.field-0)
    is.texts_are is.is_value is.is_order.0 (rw (← c.numbers-order.ensures) c.in_ok-tasks_page.ensures)
