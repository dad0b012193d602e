use Rattle.std.proofs.Common.{◌≡◌, ◌++◌, map, take}
use Rattle.lists.specs.Numbers.{from_one}
use Rattle.patterns.proofs.column_pairs.push_column.Given as goal

abbrev pub invariant-loop-row : goal.invariant-loop-row
invariant-loop-row l = l.pairs.items ≡ l.initial.pairs.items ++ map (λ row. (from_one l.base row, l.column)) (take l.row-index l.rows)
