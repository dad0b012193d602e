use Rattle.judging.proofs.StepLemmas.{passed}
use Rattle.reports.proofs.commands.fronts.report_fronts.Goals as goal

pub returns-in_err-read-clause-told : goal.returns-in_err-read-clause-told
returns-in_err-read-clause-told g c =
    passed c.from_residual.result _ _ c.in_err-read.field-0.0 c.from_residual.ensures.1 c.in_err-read.ensures.judged

pub returns-clause-told : goal.returns-clause-told
returns-clause-told g c = λ texts are.
    (c.in_ok-read.read.pattern, c.in_ok-read.read.order, c.in_ok-read.ensures.judged texts are, c.in_ok-made_page.ensures)
