-- Columns that are numbered in postorder are their own postorder.
use Rattle.std.proofs.Common.{sym, ◌∙◌, ap, ◌≡◌, inl, inr, ℕ, ◌<◌, ◌≤◌, List}
use Rattle.std.proofs.Common.{length, map, arith, refl}
use Rattle.std.specs.List.{range_with_len}
use Rattle.std.proofs.lemmas.Bool.{cases_lt}
use Rattle.std.proofs.lemmas.List.{length-map}
use Rattle.std.proofs.lemmas.List.FromFn.{length-range_with_len}
use Rattle.permutations.specs.Perm.{vertex_at, place_of}
use Rattle.permutations.proofs.IdentityLemmas.{perm_identity, vertex_identity}
use Rattle.permutations.proofs.PermLemmas.{place_of_vertex}
use Rattle.elim_tree.specs.Postorders.{Precedes, below, beside, IsPostorder, IsNumberedInPostorder}
use Rattle.elim_tree.specs.Trees.{parent_at, IsForest, IsAbove, self, step}
use Rattle.elim_tree.proofs.OnePostorder.{same_list}
use Rattle.elim_tree.proofs.RowSubtrees.{above_le}
use Rattle.equivalent_orders.proofs.Mapped.{at_place}

-- a column by its number stands at this place
pub place_own : (n a : ℕ) → a ≤ n → place_of (range_with_len 1 n) a ≡ a
place_own n a le =
    ap (place_of (range_with_len 1 n)) (sym (vertex_identity n a le)) ∙ place_of_vertex n (range_with_len 1 n) (perm_identity n) a le

module _ (parents : List ℕ) (forest : IsForest parents) (together : IsNumberedInPostorder parents) where
  rises : (x : ℕ) → 0 < parent_at parents x → x < parent_at parents x
  rises x some = (forest.rising x some).0

  -- the columns above one column stand above each other
  above_between : {a c d : ℕ} → IsAbove parents a c → IsAbove parents a d → c ≤ d → IsAbove parents c d
  above_between self up le = up
  above_between {a} {c} {d} (step some rest) self le =
      let high = above_le rises rest in
      let rise = rises a some in
      absurd (omega arith)
  above_between (step some rest) (step more up) le = above_between rest up le

  rising : (a b : ℕ) → Precedes parents a b → a < b
  rising a b (below up ne) = let le = above_le rises up in omega arith
  rising a b (beside {c = c} {d = d} up_a up_b lt same) =
      elim (cases_lt a b) [
        | inl less ↦ less
        | inr ge ↦
            let le_a = above_le rises up_a in
            let over = together b a d up_b ge (omega arith) in
            absurd (not_both (above_between up_a over (omega arith)) same lt)
      ]
    where
      not_both : {c d : ℕ} → IsAbove parents c d → parent_at parents c ≡ parent_at parents d → c < d → ⊥
      not_both self same lt = absurd (omega arith)
      not_both {c} {d} (step some rest) same lt =
          let le = above_le rises rest in
          let rise = rises d (omega arith) in
          absurd (omega arith)

  pub own_postorder : IsPostorder parents (range_with_len 1 (length parents))
  own_postorder = record {
    perm = perm_identity (length parents);
    before = λ a b va vb before.
        let less = rising a b before in
        let here = place_own (length parents) a va.1 in
        let there = place_own (length parents) b vb.1 in
        omega arith;
  }

-- an order along its own columns
pub along_own : (order : List ℕ) → order ≡ map (vertex_at order) (range_with_len 1 (length order))
along_own order =
    let len = length-range_with_len 1 (length order) in
    same_list order (map (vertex_at order) (range_with_len 1 (length order))) (length order) refl
    (length-map (range_with_len 1 (length order)) (vertex_at order) ∙ len)
    (λ k vk. sym (at_place (range_with_len 1 (length order)) (vertex_at order) k (length order) len vk
    ∙ ap (vertex_at order) (vertex_identity (length order) k vk.1)))
