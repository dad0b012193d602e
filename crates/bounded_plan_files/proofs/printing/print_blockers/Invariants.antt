use Rattle.std.proofs.Common.{◌≡◌, ◌++◌, take}
use Rattle.std.specs.Bool.{IsTrue}
use Rattle.std.specs.List.{flat_map}
use Rattle.mp_text.specs.Report.{is_line_start, text_of_lines}
use Rattle.bounded_plan_files.specs.Printed.{blocker_lines}
use Rattle.bounded_plan_files.proofs.printing.print_blockers.Given as goal

abbrev pub invariant-loop-blocker : goal.invariant-loop-blocker
invariant-loop-blocker l = record {
  text : l.report ≡ l.fn.report ++ text_of_lines (flat_map blocker_lines (take l.blocker-index l.blockers));
  start : IsTrue (is_line_start l.report);
}
