use Rattle.std.proofs.lemmas.List.Filters.{FiltersInPlace}
use Rattle.elimination.specs.Dense.{lacks, row_of}
use Rattle.elimination.proofs.dense.keep_apart.Given as goal

abbrev pub invariant-loop-i : goal.invariant-loop-i
invariant-loop-i l = FiltersInPlace (lacks (row_of l.rows) l.v) l.fn.pivots l.pivots l.kept l.i
