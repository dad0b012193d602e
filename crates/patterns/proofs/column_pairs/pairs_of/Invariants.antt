use Rattle.std.proofs.Common.{◌≡◌, ◌-◌, All, length}
use Rattle.std.specs.List.{flat_map, range_with_len}
use Rattle.patterns.specs.Pattern.{IsPairWithin}
use Rattle.patterns.specs.Columns.{column_pairs, column_count, entries_before}
use Rattle.patterns.proofs.column_pairs.pairs_of.Given as goal

abbrev pub invariant-loop-j : goal.invariant-loop-j
invariant-loop-j l = record {
  value : l.pairs.items ≡ flat_map (column_pairs l.base l.starts l.rows) (range_with_len 1 (l.j - 1));
  long : length l.pairs.items ≡ entries_before l.base l.starts l.j;
  within : All (IsPairWithin (column_count l.starts)) l.pairs.items;
}
