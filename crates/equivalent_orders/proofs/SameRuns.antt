-- Orders with one elimination tree, numbered in postorder: a column goes on with the supernode of the one before it in both or in none.
use Rattle.std.proofs.Common.{sym, ◌∙◌, subst, ap, ◌≡◌, ℕ, ◌+◌, ◌-◌, ◌<◌, Bool, List, length, arith}
use Rattle.std.proofs.lemmas.List.FromFn.{get_or-map-range_with_len}
use Rattle.permutations.specs.Perm.{IsVertex, IsPerm, vertex_at, place_of}
use Rattle.permutations.proofs.PermLemmas.{vertex_of_place, place_of_vertex}
use Rattle.ordering.specs.Fill.{IsAdjacency, count_of, counts_of, renumbered}
use Rattle.elim_tree.specs.Paths.{IsWithin}
use Rattle.elim_tree.specs.Postorders.{IsNumberedInPostorder}
use Rattle.elim_tree.proofs.OnePostorder.{vertex_of, place_within}
use Rattle.assembly_tree.specs.Supernodes.{count_at, Continues}
use Rattle.equivalent_orders.specs.Orders.{parent_vertex, column_count}
use Rattle.equivalent_orders.proofs.Along.{rises}
use Rattle.equivalent_orders.proofs.SameFronts.{GoesOn, goes_on, column_goes_on}
use Rattle.equivalent_orders.proofs.SameTree.{tree_of, by_vertex}

-- the counts of the columns of an order
abbrev pub counts_in : (ℕ → ℕ → Bool) → List ℕ → List ℕ
counts_in joined order = counts_of (renumbered joined order) (length order)

count_is : (joined : ℕ → ℕ → Bool) (order : List ℕ) (j : ℕ) → IsVertex (length order) j
    → count_at (counts_in joined order) j ≡ count_of (renumbered joined order) (length order) j
count_is joined order j vj =
    let low = vj.0 in
    let high = vj.1 in
    get_or-map-range_with_len (count_of (renumbered joined order) (length order)) 1 (length order) (j - 1) j 0 (omega arith) (omega arith)

module _ (joined : ℕ → ℕ → Bool) (one two : List ℕ) (pattern : IsAdjacency joined)
    (inside_one : IsWithin (length one) joined) (inside_two : IsWithin (length two) joined)
    (is_one : IsPerm (length one) one) (is_two : IsPerm (length two) two) (len : length two ≡ length one)
    (same_parents : (v : ℕ) → IsVertex (length one) v → parent_vertex joined two v ≡ parent_vertex joined one v)
    (same_counts : (v : ℕ) → IsVertex (length one) v → column_count joined two v ≡ column_count joined one v) where
  -- the count of a column
  pub count_over : (j : ℕ) → IsVertex (length one) j
      → count_at (counts_in joined two) (place_of two (vertex_at one j)) ≡ count_at (counts_in joined one) j
  count_over j vj =
      let v = vertex_at one j in
      let vv = vertex_of (length one) one is_one j vj in
      let vw = subst (λ m. IsVertex m (vertex_at one j)) (sym len) vv in
      let vk = place_within vertex_of_place place_of_vertex (length two) two is_two v vw in
      count_is joined two (place_of two (vertex_at one j)) vk ∙ same_counts v vv
      ∙ ap (count_of (renumbered joined one) (length one)) (place_of_vertex (length one) one is_one j vj.1) ∙ sym (count_is joined one j vj)

  pub runs_over : IsNumberedInPostorder (tree_of joined two) → (j : ℕ) → IsVertex (length one) j
      → Continues (tree_of joined one) (counts_in joined one) j
      → Continues (tree_of joined two) (counts_in joined two) (place_of two (vertex_at one j))
  runs_over together j vj run =
      let v = vertex_at one j in
      let vv = vertex_of (length one) one is_one j vj in
      let vw = subst (λ m. IsVertex m (vertex_at one j)) (sym len) vv in
      let up = run.parent in
      let high = (rises joined one pattern inside_one is_one j (omega arith)).1 in
      let vp = vertex_of (length one) one is_one (j + 1) (omega arith, omega arith) in
      let parent : parent_vertex joined one (vertex_at one j) ≡ vertex_at one (j + 1) =
      by_vertex joined one is_one j vj ∙ ap (vertex_at one) up in
      let goes = goes_on joined one pattern inside_one is_one j vj run in
      let goes_two : GoesOn joined two (vertex_at one j) = record {
        some = subst (λ w. 0 < w) (sym (same_parents v vv)) goes.some;
        only = λ x vertex e.
            let vx = subst (λ m. IsVertex m x) len vertex in
            goes.only x vx (sym (same_parents x vx) ∙ e ∙ same_parents v vv);
        count = same_counts v vv ∙ goes.count ∙ ap (λ m. m + 1) (ap (column_count joined one) parent
            ∙ sym (same_counts (vertex_at one (j + 1)) vp) ∙ ap (column_count joined two) (sym parent ∙ sym (same_parents v vv)));
      } in
      column_goes_on joined two pattern inside_two is_two together (place_of two (vertex_at one j))
      (place_within vertex_of_place place_of_vertex (length two) two is_two v vw)
      (subst (λ w. GoesOn joined two w) (sym (vertex_of_place (length two) two is_two v vw.1)) goes_two)
