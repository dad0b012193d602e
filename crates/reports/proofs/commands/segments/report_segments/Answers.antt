use Rattle.judging.proofs.StepLemmas.{passed}
use Rattle.reports.proofs.commands.segments.report_segments.Goals as goal

pub returns-in_err-numbered-clause-told : goal.returns-in_err-numbered-clause-told
returns-in_err-numbered-clause-told g c =
    passed c.from_residual.result _ _ c.in_err-numbered.field-0.0 c.from_residual.ensures.1 c.in_err-numbered.ensures.judged

pub returns-clause-told : goal.returns-clause-told
returns-clause-told g c = λ texts are.
    let numbered = c.in_ok-numbered.numbered in
    (numbered.terms, numbered.positions.items, c.in_ok-numbered.ensures.judged texts are, c.in_ok-segments_page.ensures)
