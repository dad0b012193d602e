use Rattle.std.proofs.Common.{◌≡◌, ◌++◌, take, map}
use Rattle.std.specs.Bool.{IsTrue}
use Rattle.mp_text.specs.Report.{is_line_start, text_of_lines}
use Rattle.reports.specs.Fronts.{number_line}
use Rattle.reports.proofs.commands.fronts.print_rounds.Given as goal

abbrev pub invariant-loop-r : goal.invariant-loop-r
invariant-loop-r l = record {
  text : l.report ≡ l.fn.report ++ text_of_lines (map number_line (take l.r l.fronts.rounds));
  start : IsTrue (is_line_start l.report);
}
