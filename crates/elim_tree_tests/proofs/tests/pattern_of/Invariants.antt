use Rattle.std.specs.Prelude.{IsTrue}
use Rattle.mp_text.specs.Report.{is_line_start}
use Rattle.elim_tree_tests.proofs.tests.pattern_of.Given as goal

abbrev pub invariant-loop-a : goal.invariant-loop-a
invariant-loop-a l = IsTrue (is_line_start l.text)
