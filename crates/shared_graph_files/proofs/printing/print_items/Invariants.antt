use Rattle.std.proofs.Common.{◌≡◌, ◌++◌, true, map, take}
use Rattle.mp_text.specs.Report.{is_line_start, text_of_lines}
use Rattle.shared_graph_files.specs.SharedGraphText.{item_line}
use Rattle.shared_graph_files.proofs.printing.print_items.Given as goal

abbrev pub invariant-loop-i : goal.invariant-loop-i
invariant-loop-i l = record {
  text : l.report ≡ l.fn.report ++ text_of_lines (map item_line (take l.i l.items));
  start : is_line_start l.report ≡ true;
}
