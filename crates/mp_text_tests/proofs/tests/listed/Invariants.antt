use Rattle.std.proofs.Common.{length}
use Rattle.mp_text.specs.Ahead.{rows_of}
use Rattle.mp_text_tests.proofs.tests.listed.Given as goal

abbrev pub decreases-loop-line : goal.decreases-loop-line
decreases-loop-line l = length (rows_of l.lines)
