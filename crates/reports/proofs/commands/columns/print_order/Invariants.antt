use Rattle.std.proofs.Common.{◌≡◌, ◌++◌, take}
use Rattle.std.specs.Bool.{IsTrue}
use Rattle.mp_text.specs.Report.{is_line_start, text_of_lines}
use Rattle.reports.specs.Columns.{perm_lines}
use Rattle.reports.proofs.commands.columns.print_order.Given as goal

abbrev pub invariant-loop-place : goal.invariant-loop-place
invariant-loop-place l = record {
  text : l.report ≡ l.fn.report ++ text_of_lines (perm_lines (take l.place l.order));
  start : IsTrue (is_line_start l.report);
}
