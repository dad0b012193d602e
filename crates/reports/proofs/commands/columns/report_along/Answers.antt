use Rattle.std.proofs.Common.{[], ◌∷◌}
use Rattle.judging.specs.Judged.{order_tasks}
use Rattle.judging.proofs.StepLemmas.{passed}
use Rattle.reports.proofs.commands.columns.report_along.Goals as goal

pub returns-in_err-read-clause-told : goal.returns-in_err-read-clause-told
returns-in_err-read-clause-told g c =
    passed c.from_residual.result _ _ c.in_err-read.field-0.0 c.from_residual.ensures.1 c.in_err-read.ensures.judged

pub returns-clause-told : goal.returns-clause-told
returns-clause-told g c = λ texts are.
    let is = c.in_ok-read.ensures.judged texts are in
    let read = c.in_ok-read.read in
    let page = c.in_ok-ordered_page.ensures in (
      is.mine,
      is.text ∷ [],
      read.matrix.pattern,
      read.matrix.order,
      page.0,
      page.1,
      order_tasks read.order,
      is.texts_are,
      is.is_value,
      page.2,
      is.is_order.0,
      rw (← c.numbers-order.ensures) page.3,
    )
