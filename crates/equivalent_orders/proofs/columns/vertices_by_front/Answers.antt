use Rattle.std.proofs.Common.{◌≡◌, ◌∙◌, ◌∷◌, ◌-◌, ℕ, List, ap, length, get_or, map, arith}
use Rattle.row_table.specs.Rows.{row_at}
use Rattle.permutations.specs.Perm.{IsVertex}
use Rattle.assembly_tree.specs.Assembly.{columns_in, super_of}
use Rattle.equivalent_orders.proofs.Rows.{vertices_among, next_rows, room_left}
use Rattle.equivalent_orders.proofs.columns.vertices_by_front.Goals as goal

pub push-requires-clause-room : goal.push-requires-clause-room
push-requires-clause-room c =
    let perm = c.args.perm.now in
    let a = c.args.assembly.now in
    let column = c.loop-column.column in
    let rows = c.loop-column.rows.rows in
    let row = c.super_of.ensures.value in
    let vertex : IsVertex (length a.nodes) column =
    (c.loop-column.auto.column, omega (arith, c.loop-column-test.true, c.columns-column-end.ensures)) in
    let room = room_left perm a c.supers.ensures.assembly column vertex in
    let here : length (row_at rows c.super_of.result) ≡ length (vertices_among perm a.nodes (column - 1) (super_of a.nodes column)) =
    ap (λ (s : ℕ). length (row_at rows s)) row ∙ ap length (c.loop-column.invariant.rows (super_of a.nodes column)) in
    let there : get_or c.loop-column.rows.rooms c.super_of.result 0 ≡ get_or (0 ∷ map columns_in a.supers) (super_of a.nodes column) 0 =
    ap (λ (xs : List ℕ). get_or xs c.super_of.result 0) c.loop-column.invariant.rooms
    ∙ ap (λ (s : ℕ). get_or (0 ∷ map columns_in a.supers) s 0) row in
    omega arith

pub loop-column-preserved : goal.loop-column-preserved
loop-column-preserved c = record {
  count = c.push.ensures.count ∙ c.loop-column.invariant.count;
  rooms = c.push.ensures.rooms ∙ c.loop-column.invariant.rooms;
  rows = next_rows c.args.perm.now c.args.assembly.now.nodes c.loop-column.column c.loop-column.auto.column c.loop-column.rows.rows
      c.push.new.self.rows c.loop-column.invariant.rows c.super_of.result c.at.result c.super_of.ensures.value c.at.ensures.value
      c.push.ensures.pushed c.push.ensures.others;
}
