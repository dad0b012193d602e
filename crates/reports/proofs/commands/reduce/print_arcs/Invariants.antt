use Rattle.std.proofs.Common.{◌≡◌, ◌++◌, map, take}
use Rattle.std.specs.Bool.{IsTrue}
use Rattle.mp_text.specs.Report.{is_line_start, text_of_lines}
use Rattle.reports.specs.Reduce.{arc_line}
use Rattle.reports.proofs.commands.reduce.print_arcs.Given as goal

abbrev pub invariant-loop-arc : goal.invariant-loop-arc
invariant-loop-arc l = record {
  text : l.report ≡ l.fn.report ++ text_of_lines (map arc_line (take l.arc-index l.arcs));
  start : IsTrue (is_line_start l.report);
}
