use Rattle.std.proofs.Common.{◌≡◌, ℕ, ◌<◌, ◌≤◌, length, map}
use Rattle.std.specs.Prelude.{slice_index_or}
use Rattle.row_table.specs.Rows.{row_at}
use Rattle.activation.specs.Consumers.{edge}
use Rattle.activation.proofs.edges.write_ends.Given as goal

abbrev pub invariant-loop-k : goal.invariant-loop-k
invariant-loop-k l = record {
  long : length l.rows ≡ length l.initial.rows;
  written : (k : ℕ) → k < l.k → row_at l.rows k ≡ map (λ i. (slice_index_or l.edges i (edge 0 0)).to) (row_at l.initial.rows k);
  left : (k : ℕ) → l.k ≤ k → row_at l.rows k ≡ row_at l.initial.rows k;
}
