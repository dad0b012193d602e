use Rattle.std.proofs.Common.{◌≡◌, ◌++◌}
use Rattle.std.specs.Bool.{IsTrue}
use Rattle.mp_text.specs.Report.{is_line_start, text_of_lines}
use Rattle.sp_cuts.specs.Stairs.{all_of}
use Rattle.reports.proofs.StairPages.{rows_before}
use Rattle.reports.proofs.commands.segments.print_rows.Given as goal

abbrev pub invariant-loop-i : goal.invariant-loop-i
invariant-loop-i l = record {
  text : l.report ≡ l.fn.report ++ text_of_lines (rows_before l.numbered.terms (all_of l.stairs) l.numbered.positions.items l.i);
  start : IsTrue (is_line_start l.report);
}
