use Rattle.std.proofs.Common.{◌≡◌, ◌+◌, ◌-◌, ◌^◌, ◌||◌, length, min}
use Rattle.std.specs.List.{list_any}
use Rattle.mp_text.specs.declared.layout.Layout.TheVariants.{Commented}
use Rattle.mp_text.specs.Ahead.{rows_of, rows_of_bytes}
use Rattle.matrix_files.specs.OrderFile.{tokens_of_rows}
use Rattle.matrix_files.specs.ListingFile.{states}
use Rattle.matrix_files.proofs.inverse_file.seen_in.Given as goal

abbrev pub invariant-loop-line : goal.invariant-loop-line
invariant-loop-line l = record {
  tokens : min (l.seen.tokens + length (tokens_of_rows (rows_of l.lines))) (2 ^ 64 - 1)
      ≡ min (length (tokens_of_rows (rows_of_bytes Commented l.bytes))) (2 ^ 64 - 1);
  zero : (l.seen.zero || list_any (λ row. list_any (states 0) row.tokens) (rows_of l.lines))
      ≡ list_any (λ row. list_any (states 0) row.tokens) (rows_of_bytes Commented l.bytes);
}

abbrev pub decreases-loop-line : goal.decreases-loop-line
decreases-loop-line l = length (rows_of l.lines)
