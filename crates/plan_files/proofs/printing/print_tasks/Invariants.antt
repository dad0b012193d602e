use Rattle.std.proofs.Common.{◌≡◌, ◌∷◌, ◌++◌, length, take, map}
use Rattle.std.specs.Bool.{IsTrue}
use Rattle.mp_text.specs.Report.{is_line_start, text_of_lines}
use Rattle.plan_files.specs.Printed.{task_line}
use Rattle.plan_files.proofs.printing.print_tasks.Given as goal
use Rattle.file_frame.specs.Printed.{section_line}

abbrev pub invariant-loop-task : goal.invariant-loop-task
invariant-loop-task l = record {
  text : l.report ≡ l.fn.report ++ text_of_lines (section_line l.word (length l.tasks) ∷ map task_line (take l.task-index l.tasks));
  start : IsTrue (is_line_start l.report);
}
