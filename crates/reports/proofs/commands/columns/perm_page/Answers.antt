use Rattle.std.proofs.Common.{◌∙◌, ℕ, List, ◌++◌, ap, ap₂}
use Rattle.mp_text.specs.Report.{text_of_lines}
use Rattle.reports.specs.Columns.{perm_lines}
use Rattle.judging.specs.declared.status.Status.TheVariants as status
use Rattle.reports.proofs.commands.columns.perm_page.Goals as goal

pub returns : goal.returns
returns c =
    ap (λ (text : List ℕ). record { status = status.Done; text = text })
    (c.in_ok-print_order.ensures
    ∙ ap₂ (λ (text order : List ℕ). text ++ text_of_lines (perm_lines order)) c.new-report.ensures c.in_ok-order.ensures)
