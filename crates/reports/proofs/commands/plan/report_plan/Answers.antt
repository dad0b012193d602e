use Rattle.requests.specs.RequestViews.{input_view, format_view}
use Rattle.judging.proofs.StepLemmas.{passed}
use Rattle.reports.proofs.ReportLemmas.{planned}
use Rattle.judging.specs.Pages.{answer_of}
use Rattle.reports.proofs.commands.plan.report_plan.Goals as goal

pub returns-in_err-problem-clause-told : goal.returns-in_err-problem-clause-told
returns-in_err-problem-clause-told g c =
    passed c.from_residual.result _ _ c.in_err-problem.field-0.0 c.from_residual.ensures.1 c.in_err-problem.ensures.judged

pub returns-clause-told : goal.returns-clause-told
returns-clause-told g c = λ texts are.
    let plan = c.in_ok-plan.plan in
    let by = c.in_ok-plan.ensures.accepted in
    planned (input_view c.args.input) (format_view c.args.format) texts c.in_ok-problem.problem by.0 plan
    (answer_of c.in_ok-plan_page.field-0)
    (c.in_ok-problem.ensures.judged texts are) by.1 c.in_ok-plan.ensures.within by.2 c.in_ok-plan.ensures.priority c.in_ok-plan_page.ensures
