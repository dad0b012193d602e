use Rattle.std.proofs.Common.{◌≡◌, ◌∷◌, ◌+◌, ◌-◌, ℕ, length, map}
use Rattle.row_table.specs.Rows.{row_at}
use Rattle.assembly_tree.specs.Assembly.{columns_in}
use Rattle.equivalent_orders.proofs.Rows.{vertices_among}
use Rattle.equivalent_orders.proofs.columns.vertices_by_front.Given as goal

-- each row has the vertices of its front among the columns so far
abbrev pub invariant-loop-column : goal.invariant-loop-column
invariant-loop-column l = record {
  count : length l.rows.rows ≡ length l.assembly.supers + 1;
  rooms : l.rows.rooms ≡ 0 ∷ map columns_in l.assembly.supers;
  rows : (s : ℕ) → row_at l.rows.rows s ≡ vertices_among l.perm l.assembly.nodes (l.column - 1) s;
}
