use Rattle.std.proofs.Common.{ℕ, List, sym, subst}
use Rattle.std.specs.Bool.{IsTrue}
use Rattle.mp_text.specs.Report.{is_line_start}
use Rattle.workflow_files.specs.WorkflowText.{workflow_lines, workflow_version_for}
use Rattle.workflow_files.proofs.named.print_parts.Goals as goal

pub print_names-requires : goal.print_names-requires
print_names-requires c =
    let positions = c.args.terms.now in
    subst (λ (report : List ℕ). IsTrue (is_line_start report)) (sym c.in_ok-print_workflow.ensures.ok)
    (c.printed_lines.ensures.start c.args.report.now (workflow_lines (workflow_version_for positions) positions) c.requires)
