use Rattle.std.proofs.Common.{◌≡◌, ◌++◌, true, map, take}
use Rattle.mp_text.specs.Report.{is_line_start, text_of_lines}
use Rattle.tree_files.specs.TreeText.{node_line}
use Rattle.tree_files.proofs.printing.print_nodes.Given as goal

abbrev pub invariant-loop-node : goal.invariant-loop-node
invariant-loop-node l = record {
  text : l.report ≡ l.fn.report ++ text_of_lines (map (node_line l.version) (take l.node-index l.nodes));
  start : is_line_start l.report ≡ true;
}
