use Rattle.std.proofs.Common.{◌≡◌, ◌++◌}
use Rattle.std.specs.Bool.{IsTrue}
use Rattle.mp_text.specs.Report.{is_line_start, text_of_lines}
use Rattle.reports.proofs.GapLemmas.{lines_before}
use Rattle.reports.proofs.commands.gap_report.print_gaps.Given as goal

abbrev pub invariant-loop-place : goal.invariant-loop-place
invariant-loop-place l = record {
  text : l.report ≡ l.fn.report ++ text_of_lines (lines_before l.names l.amounts l.place);
  start : IsTrue (is_line_start l.report);
}
