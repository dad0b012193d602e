use Rattle.std.proofs.Common.{◌≡◌, ◌+◌, length}
use Rattle.matrix_files.proofs.lines.are_left.Given as goal

abbrev pub invariant-loop-taken : goal.invariant-loop-taken
invariant-loop-taken l = length l.words + l._taken ≡ length l.fn.words
