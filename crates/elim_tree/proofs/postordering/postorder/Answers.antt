use Rattle.std.proofs.Common.{◌≡◌, ℕ, suc, ◌<◌, List, length, drop, arith, sym, subst, ap, ◌∙◌, slice_index}
use Rattle.permutations.specs.Perm.{IsVertex}
use Rattle.elim_tree.specs.ParentTables.{parents_in}
use Rattle.elim_tree.specs.Postorders.{Precedes, IsPostorder}
use Rattle.elim_tree.specs.Spans.{ArePlaces}
use Rattle.elim_tree.proofs.Columns.{length_of_table}
use Rattle.elim_tree.proofs.Places.{is_postorder}
use Rattle.lists.proofs.Lists.{written}
use Rattle.elim_tree.proofs.postordering.postorder.Goals as goal

pub invert-requires-clause-places : goal.invert-requires-clause-places
invert-requires-clause-places c =
    let e = c.deref-2.ensures.value in
    let w = written c.place_columns.new.places (drop (length c.place_columns.new.places) c.in_ok-places.places.items)
    c.in_ok-places.places.len (omega (arith, c.place_columns.ensures.len)) in
    let k : length c.place_columns.new.places ≡ length c.as_slice-table.result.now =
    omega (arith, c.place_columns.ensures.len, c.in_ok-places.ensures.len) in
    subst (λ (t : List ℕ). ArePlaces (length t) (slice_index t)) (sym (e ∙ w))
    (subst (λ n. ArePlaces n (slice_index c.place_columns.new.places)) (sym k) c.place_columns.ensures.places)

pub returns : goal.returns
returns c =
    let table = c.parents.inside.table.items in
    let places = c.place_columns.new.places in
    let w = written places (drop (length places) c.in_ok-places.places.items) c.in_ok-places.places.len
    (omega (arith, c.place_columns.ensures.len)) in
    let v = written c.invert.new.vertices (drop (length c.invert.new.vertices) c.in_ok-vertices.vertices.items)
    c.in_ok-vertices.vertices.len (omega (arith, c.invert.ensures.same_length, c.in_ok-vertices.ensures.len)) in
    let long : length table ≡ suc (length (parents_in table)) = length_of_table table c.parents.invariant in
    let before : (a b : ℕ) → IsVertex (length (parents_in table)) a → IsVertex (length (parents_in table)) b
    → Precedes (parents_in table) a b → slice_index places a < slice_index places b =
    subst (λ (t : List ℕ). (a b : ℕ) → IsVertex (length (parents_in t)) a → IsVertex (length (parents_in t)) b
    → Precedes (parents_in t) a b → slice_index places a < slice_index places b)
    c.as_slice-table.ensures.value c.place_columns.ensures.before in
    subst (λ (parents : List ℕ). IsPostorder parents c.from_tables.result) c.parents.view_is
    (is_postorder (parents_in table) c.from_tables.result places c.from_tables.ensures.perm
    (omega (arith, c.from_tables.ensures.len, ap length v, c.invert.ensures.same_length, c.in_ok-vertices.ensures.len))
    (λ x. c.from_tables.ensures.places x ∙ ap (λ (t : List ℕ). slice_index t x) w) before)
