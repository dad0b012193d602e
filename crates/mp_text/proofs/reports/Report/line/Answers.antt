use Rattle.std.proofs.Common.{map, ap, ◌∙◌}
use Rattle.std.proofs.lemmas.Result.{on_ok_weaker}
use Rattle.mp_text.specs.Report.{is_line_start, token_text}
use Rattle.mp_text.proofs.ReportLemmas.{is_line_start-line}
use Rattle.mp_text.proofs.reports.Report.line.Goals as goal

pub returns-else-is_err-clause-start : goal.returns-else-is_err-clause-start
returns-else-is_err-clause-start c =
    on_ok_weaker c.put_line-printed.result
    (λ text. ap is_line_start text ∙ is_line_start-line c.args.self.now (map token_text c.args.tokens.now))
    c.put_line-printed.ensures.ok
