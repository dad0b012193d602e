use Rattle.std.proofs.Common.{◌≡◌, ◌++◌, take, map}
use Rattle.std.specs.Bool.{IsTrue}
use Rattle.mp_text.specs.Report.{is_line_start, text_of_lines}
use Rattle.reports.specs.Fronts.{number_line}
use Rattle.reports.proofs.commands.fronts.print_rows.Given as goal

abbrev pub invariant-loop-s : goal.invariant-loop-s
invariant-loop-s l = record {
  text : l.report ≡ l.fn.report ++ text_of_lines (map number_line (take l.s l.fronts.rows));
  start : IsTrue (is_line_start l.report);
}
