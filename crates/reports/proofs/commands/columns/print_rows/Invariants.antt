use Rattle.std.proofs.Common.{◌≡◌, ◌++◌, take, map}
use Rattle.std.specs.Bool.{IsTrue}
use Rattle.mp_text.specs.Report.{is_line_start, text_of_lines}
use Rattle.row_table.specs.Rows.{row_at}
use Rattle.reports.specs.Fronts.{number_line}
use Rattle.reports.proofs.commands.columns.print_rows.Given as goal

abbrev pub invariant-loop-place : goal.invariant-loop-place
invariant-loop-place l = record {
  text : l.report ≡ l.fn.report ++ text_of_lines (map number_line (take l.place (map (row_at l.vertices) l.fronts)));
  start : IsTrue (is_line_start l.report);
}
