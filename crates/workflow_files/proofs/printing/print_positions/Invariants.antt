use Rattle.std.proofs.Common.{◌≡◌, ◌++◌, take, map}
use Rattle.std.specs.Bool.{IsTrue}
use Rattle.mp_text.specs.Report.{is_line_start, text_of_lines}
use Rattle.workflow_files.specs.WorkflowText.{position_line}
use Rattle.workflow_files.proofs.printing.print_positions.Given as goal

abbrev pub invariant-loop-position : goal.invariant-loop-position
invariant-loop-position l = record {
  text : l.report ≡ l.fn.report ++ text_of_lines (map (position_line l.version) (take l.position-index l.positions));
  start : IsTrue (is_line_start l.report);
}
