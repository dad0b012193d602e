use Rattle.std.proofs.Common.{◌≡◌, drop}
use Rattle.mp_text.specs.declared.layout.Layout.TheVariants.{Commented}
use Rattle.mp_text.specs.Ahead.{rows_of, rows_of_bytes}
use Rattle.shared_graph_files.proofs.reading.line_of.Given as goal

abbrev pub invariant-loop-before : goal.invariant-loop-before
invariant-loop-before l = rows_of l.lines ≡ drop l._before (rows_of_bytes Commented l.bytes)
