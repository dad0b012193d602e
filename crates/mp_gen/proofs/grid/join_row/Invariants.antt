use Rattle.std.proofs.Common.{◌≡◌, ◌++◌}
use Rattle.std.specs.List.{flat_map, range_with_len}
use Rattle.mp_gen.specs.Grid.{joins_at}
use Rattle.mp_gen.proofs.grid.join_row.Given as goal

abbrev pub invariant-loop-col : goal.invariant-loop-col
invariant-loop-col l = l.pairs.items ≡ l.fn.pairs.items ++ flat_map (joins_at l.rows l.cols l.row) (range_with_len 0 l.col)
