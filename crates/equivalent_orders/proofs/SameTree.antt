-- One elimination tree by the columns of two orders: whoever is above another by the columns of one is so by those of the other.
use Rattle.std.proofs.Common.{sym, ◌∙◌, subst, ap, ◌≡◌, ℕ, ◌<◌, Bool, List, length, arith}
use Rattle.std.proofs.lemmas.List.FromFn.{length-map-range_with_len}
use Rattle.permutations.specs.Perm.{IsVertex, IsPerm, vertex_at, place_of}
use Rattle.permutations.proofs.PermLemmas.{vertex_of_place, place_of_vertex}
use Rattle.ordering.specs.Fill.{parent_of, parents_of, renumbered}
use Rattle.elim_tree.specs.Trees.{parent_at, IsForest, IsAbove, self, step}
use Rattle.elim_tree.proofs.Columns.{parent_in_list, parent_within}
use Rattle.elim_tree.proofs.OnePostorder.{vertex_of, place_within}
use Rattle.equivalent_orders.specs.Orders.{parent_vertex}

-- the parents of the columns of an order
abbrev pub tree_of : (ℕ → ℕ → Bool) → List ℕ → List ℕ
tree_of joined order = parents_of (renumbered joined order) (length order)

pub columns_of_tree : (joined : ℕ → ℕ → Bool) (order : List ℕ) → length (tree_of joined order) ≡ length order
columns_of_tree joined order = length-map-range_with_len (parent_of (renumbered joined order) (length order)) 1 (length order)

pub by_vertex : (joined : ℕ → ℕ → Bool) (order : List ℕ) → IsPerm (length order) order → (j : ℕ) → IsVertex (length order) j
    → parent_vertex joined order (vertex_at order j) ≡ vertex_at order (parent_at (tree_of joined order) j)
by_vertex joined order is j vj =
    ap (λ k. vertex_at order (parent_of (renumbered joined order) (length order) k)) (place_of_vertex (length order) order is j vj.1)
    ∙ ap (vertex_at order) (sym (parent_in_list (renumbered joined order) (length order) j vj))

module _ (joined : ℕ → ℕ → Bool) (one two : List ℕ) (is_one : IsPerm (length one) one) (is_two : IsPerm (length two) two)
    (len : length two ≡ length one) (forest_one : IsForest (tree_of joined one)) (forest_two : IsForest (tree_of joined two))
    (same : (v : ℕ) → IsVertex (length one) v → parent_vertex joined one v ≡ parent_vertex joined two v) where
  -- the column in the first order of one in the second
  abbrev pub over : ℕ → ℕ
  over k = place_of one (vertex_at two k)

  vertex_over : (k : ℕ) → IsVertex (length two) k → IsVertex (length one) (vertex_at two k)
  vertex_over k vk = subst (λ m. IsVertex m (vertex_at two k)) len (vertex_of (length two) two is_two k vk)

  pub is_over : (k : ℕ) → IsVertex (length two) k → IsVertex (length one) (over k)
  is_over k vk = place_within vertex_of_place place_of_vertex (length one) one is_one (vertex_at two k) (vertex_over k vk)

  -- and back
  pub back_over : (k : ℕ) → IsVertex (length two) k → place_of two (vertex_at one (over k)) ≡ k
  back_over k vk =
      ap (place_of two) (vertex_of_place (length one) one is_one (vertex_at two k) (vertex_over k vk).1)
      ∙ place_of_vertex (length two) two is_two k vk.1

  pub parent_over : (k : ℕ) → IsVertex (length two) k → parent_at (tree_of joined one) (over k) ≡ over (parent_at (tree_of joined two) k)
  parent_over k vk =
      let vv = vertex_over k vk in
      let within = parent_within (tree_of joined one) forest_one (over k) in
      let all = columns_of_tree joined one in
      sym (place_of_vertex (length one) one is_one (parent_at (tree_of joined one) (over k)) (omega arith))
      ∙ ap (place_of one) (sym (by_vertex joined one is_one (over k) (is_over k vk))
      ∙ ap (parent_vertex joined one) (vertex_of_place (length one) one is_one (vertex_at two k) vv.1)
      ∙ same (vertex_at two k) vv ∙ by_vertex joined two is_two k vk)

  pub above_over : {a x : ℕ} → IsAbove (tree_of joined two) a x → IsVertex (length two) a → IsAbove (tree_of joined one) (over a) (over x)
  above_over self va = self
  above_over {a} {x} (step some rest) va =
      let up = forest_two.rising a some in
      let all = columns_of_tree joined two in
      let vp : IsVertex (length two) (parent_at (tree_of joined two) a) = (some, omega (arith, up.1, all)) in
      let e = parent_over a va in
      step (subst (λ q. 0 < q) (sym e) (is_over (parent_at (tree_of joined two) a) vp).0)
      (subst (λ q. IsAbove (tree_of joined one) q (over x)) (sym e) (above_over rest vp))
