use Rattle.std.proofs.Common.{◌≡◌, ◌++◌}
use Rattle.std.specs.Bool.{IsTrue}
use Rattle.mp_text.specs.Report.{is_line_start, text_of_lines}
use Rattle.workflow_files.proofs.NamedLines.{lines_before}
use Rattle.workflow_files.proofs.named.print_names.Given as goal

abbrev pub invariant-loop-place : goal.invariant-loop-place
invariant-loop-place l = record {
  text : l.report ≡ l.fn.report ++ text_of_lines (lines_before l.names l.place);
  start : IsTrue (is_line_start l.report);
}
