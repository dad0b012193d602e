use Rattle.std.proofs.Common.{◌≡◌, ◌++◌, true, map, take}
use Rattle.mp_text.specs.Report.{is_line_start, text_of_lines}
use Rattle.shared_graph_files.specs.SharedGraphText.{task_line}
use Rattle.shared_graph_files.proofs.printing.print_tasks.Given as goal

abbrev pub invariant-loop-task : goal.invariant-loop-task
invariant-loop-task l = record {
  text : l.report ≡ l.fn.report ++ text_of_lines (map task_line (take l.task-index l.tasks));
  start : is_line_start l.report ≡ true;
}
