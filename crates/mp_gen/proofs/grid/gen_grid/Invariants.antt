use Rattle.std.proofs.Common.{◌≡◌}
use Rattle.std.specs.List.{flat_map, range_with_len}
use Rattle.mp_gen.specs.Grid.{joins_in_row}
use Rattle.mp_gen.proofs.grid.gen_grid.Given as goal

abbrev pub invariant-loop-row : goal.invariant-loop-row
invariant-loop-row l = l.pairs.items ≡ flat_map (joins_in_row l.rows l.cols) (range_with_len 0 l.row)
