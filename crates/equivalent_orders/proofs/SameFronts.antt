-- Orders with one elimination tree have the same fundamental supernodes, as sets of vertices.
use Rattle.std.proofs.Common.{sym, ◌∙◌, subst, ap, ◌≡◌, inl, inr, ℕ, zero, suc, ◌+◌, ◌-◌, ◌<◌, ◌≤◌, Bool}
use Rattle.std.proofs.Common.{List, length, get_or, map, arith, refl}
use Rattle.std.proofs.lemmas.Bool.{cases_eq, cases_order}
use Rattle.std.proofs.lemmas.List.{get_or-map, length-map}
use Rattle.std.proofs.lemmas.List.FromFn.{get_or-map-range_with_len, length-map-range_with_len}
use Rattle.permutations.specs.Perm.{IsVertex, IsPerm, vertex_at, place_of}
use Rattle.permutations.proofs.PermLemmas.{vertex_of_place, place_of_vertex}
use Rattle.ordering.specs.Fill.{IsAdjacency, parent_of, count_of, parents_of, counts_of, renumbered}
use Rattle.ordering.proofs.FillLemmas.{parent_first}
use Rattle.elim_tree.specs.Paths.{IsWithin}
use Rattle.elim_tree.specs.Postorders.{IsNumberedInPostorder, IsPostordered}
use Rattle.elim_tree.specs.Trees.{parent_at, IsForest, IsAbove, self, step}
use Rattle.elim_tree.proofs.Columns.{parent_in_list}
use Rattle.elim_tree.proofs.Growth.{pattern_renumbered, within_renumbered}
use Rattle.elim_tree.proofs.OnePostorder.{vertex_of, place_within}
use Rattle.elim_tree.proofs.Renumberings.{renumbered_along, tree_in_postorder}
use Rattle.elim_tree.proofs.Reorderings.{parents_by_postorder}
use Rattle.elim_tree.proofs.RowSubtrees.{above_le}
use Rattle.assembly_tree.specs.Assembly.{AssemblyTree, IsSuper, super_of}
use Rattle.assembly_tree.specs.Supernodes.{count_at, Continues, last_of, AreSupernodes}
use Rattle.assembly_tree.proofs.SupernodeLemmas.{covered}
use Rattle.equivalent_orders.specs.Orders.{parent_vertex, column_count}
use Rattle.equivalent_orders.specs.Fronts.{front_of_vertex}
use Rattle.equivalent_orders.proofs.Along.{rises}

-- a vertex goes on in the front of its parent: it is the only child, and has one row more
pub record GoesOn (joined : ℕ → ℕ → Bool) (order : List ℕ) (v : ℕ) : Type 0 where
  pub some : 0 < parent_vertex joined order v
  pub only : (x : ℕ) → IsVertex (length order) x → parent_vertex joined order x ≡ parent_vertex joined order v → x ≡ v
  pub count : column_count joined order v ≡ column_count joined order (parent_vertex joined order v) + 1

module _ (joined : ℕ → ℕ → Bool) (perm : List ℕ) (pattern : IsAdjacency joined) (inside : IsWithin (length perm) joined)
    (is : IsPerm (length perm) perm) where
  abbrev pub n : ℕ
  n = length perm

  abbrev pub parents : List ℕ
  parents = parents_of (renumbered joined perm) n

  abbrev pub counts : List ℕ
  counts = counts_of (renumbered joined perm) n

  column_is : (v : ℕ) → IsVertex n v → IsVertex n (place_of perm v)
  column_is v vertex = place_within vertex_of_place place_of_vertex n perm is v vertex

  all : length parents ≡ n
  all = length-map-range_with_len (parent_of (renumbered joined perm) n) 1 n

  -- a column by its vertex
  same_column : (j k : ℕ) → j ≤ n → k ≤ n → vertex_at perm j ≡ vertex_at perm k → j ≡ k
  same_column j k lj lk e = sym (place_of_vertex n perm is j lj) ∙ ap (place_of perm) e ∙ place_of_vertex n perm is k lk

  parent_by_vertex : (j : ℕ) → IsVertex n j → parent_vertex joined perm (vertex_at perm j) ≡ vertex_at perm (parent_at parents j)
  parent_by_vertex j vj =
      ap (λ k. vertex_at perm (parent_of (renumbered joined perm) n k)) (place_of_vertex n perm is j vj.1)
      ∙ ap (vertex_at perm) (sym (parent_in_list (renumbered joined perm) n j vj))

  count_by_vertex : (j : ℕ) → IsVertex n j → column_count joined perm (vertex_at perm j) ≡ count_at counts j
  count_by_vertex j vj =
      let low = vj.0 in
      let high = vj.1 in
      ap (count_of (renumbered joined perm) n) (place_of_vertex n perm is j vj.1)
      ∙ sym (get_or-map-range_with_len (count_of (renumbered joined perm) n) 1 n (j - 1) j 0 (omega arith) (omega arith))

  parent_le : (j : ℕ) → IsVertex n j → parent_at parents j ≤ n
  parent_le j vj =
      elim (cases_eq (parent_at parents j) 0) [
        | inl e ↦ omega arith
        | inr ne ↦ (rises joined perm pattern inside is j (omega arith)).1
      ]

  -- where a column goes on, its vertex does
  pub goes_on : (j : ℕ) → IsVertex n j → Continues parents counts j → GoesOn joined perm (vertex_at perm j)
  goes_on j vj run =
      let up = run.parent in
      let high = (rises joined perm pattern inside is j (omega arith)).1 in
      let next : IsVertex n (j + 1) = (omega arith, omega arith) in
      let parent : parent_vertex joined perm (vertex_at perm j) ≡ vertex_at perm (j + 1) = parent_by_vertex j vj ∙ ap (vertex_at perm) up in
      record {
        some = subst (λ v. 0 < v) (sym parent) (vertex_of n perm is (j + 1) next).0;
        only = λ x vertex e.
            let k = place_of perm x in
            let vk = column_is x vertex in
            let back = vertex_of_place n perm is x vertex.1 in
            let same : vertex_at perm (parent_at parents k) ≡ vertex_at perm (j + 1) =
            sym (parent_by_vertex k vk) ∙ ap (parent_vertex joined perm) back ∙ e ∙ parent in
            let vk' = subst (λ m. IsVertex m (place_of perm x)) (sym all) vk in
            sym back ∙ ap (vertex_at perm) (run.only k vk' (same_column (parent_at parents k) (j + 1) (parent_le k vk) next.1 same));
        count =
            count_by_vertex j vj ∙ run.count
            ∙ ap (λ m. m + 1) (sym (count_by_vertex (j + 1) next) ∙ ap (column_count joined perm) (sym parent));
      }

  module _ (together : IsNumberedInPostorder parents) where
    -- and back: the only child of a column stands right before it
    pub column_goes_on : (j : ℕ) → IsVertex n j → GoesOn joined perm (vertex_at perm j) → Continues parents counts j
    column_goes_on j vj goes =
        let parent = parent_by_vertex j vj in
        let p = parent_at parents j in
        let some : 0 < parent_at parents j = elim (cases_eq (parent_at parents j) 0) [
          | inl e ↦ let pos = goes.some in let z = parent ∙ ap (vertex_at perm) e in absurd (omega arith)
          | inr ne ↦ omega arith
        ] in
        let up = rises joined perm pattern inside is j some in
        let low = vj.0 in
        let rise = up.0 in
        let high = up.1 in
        let vq : IsVertex n (parent_at parents j - 1) = (omega arith, omega arith) in
        let above = together j (parent_at parents j - 1) (parent_at parents j) (step some self) (omega arith) (omega arith) in
        let child = last_child (parent_at parents j - 1) (parent_at parents j) (omega arith) above in
        let only = λ (c : ℕ) (vc : IsVertex n c) (e : parent_at parents c ≡ parent_at parents j).
        same_column c j vc.1 vj.1 (goes.only (vertex_at perm c) (vertex_of n perm is c vc)
        (parent_by_vertex c vc ∙ ap (vertex_at perm) e ∙ sym parent)) in
        let before = only (parent_at parents j - 1) vq child in
        let next : parent_at parents j ≡ j + 1 = omega arith in
        record {
          parent = next;
          only = λ c vc e. only c (subst (λ m. IsVertex m c) all vc) (e ∙ sym next);
          count =
              sym (count_by_vertex j vj) ∙ goes.count
              ∙ ap (λ m. m + 1) (ap (column_count joined perm) (parent ∙ ap (vertex_at perm) next)
              ∙ count_by_vertex (j + 1) (omega arith, omega arith));
        }
      where
        last_child : (q p : ℕ) → q + 1 ≡ p → IsAbove parents q p → parent_at parents q ≡ p
        last_child q p e self = absurd (omega arith)
        last_child q p e (step some rest) =
            let rise = (rises joined perm pattern inside is q some).0 in
            let le = above_le (λ x pos. (rises joined perm pattern inside is x pos).0) rest in
            omega arith

  -- ---- columns of one supernode

  module _ (assembly : AssemblyTree) (r : AreSupernodes parents counts assembly) where
    -- a column that goes on is in one with the next
    pub together_if : (j : ℕ) → IsVertex n j → Continues parents counts j
        → super_of assembly.nodes j ≡ super_of assembly.nodes (j + 1)
    together_if j vj run =
        let there = covered assembly.supers (length assembly.supers) j vj.0 (omega (arith, vj.1, r.total, all)) in
        let t = there.0 in
        let is_t : IsSuper assembly.supers t = (there.1, there.2) in
        r.nodes t j is_t there.3 there.4
        ∙ elim (cases_eq j (last_of assembly.supers t)) [
          | inl e ↦ absurd (r.longest t is_t (subst (λ k. Continues parents counts k) e run))
          | inr ne ↦ sym (r.nodes t (j + 1) is_t (omega (arith, there.3)) (omega (arith, ne, there.4)))
        ]

    -- between two columns of one supernode each goes on
    pub all_go_on : (j k : ℕ) → IsVertex n j → IsVertex n k → super_of assembly.nodes j ≡ super_of assembly.nodes k
        → (i : ℕ) → j ≤ i → i < k → Continues parents counts i
    all_go_on j k vj vk same i low high =
        let at_j = covered assembly.supers (length assembly.supers) j vj.0 (omega (arith, vj.1, r.total, all)) in
        let at_k = covered assembly.supers (length assembly.supers) k vk.0 (omega (arith, vk.1, r.total, all)) in
        let t = at_j.0 in
        let s = at_k.0 in
        let is_t : IsSuper assembly.supers t = (at_j.1, at_j.2) in
        let is_s : IsSuper assembly.supers s = (at_k.1, at_k.2) in
        let e : t ≡ s = sym (r.nodes t j is_t at_j.3 at_j.4) ∙ same ∙ r.nodes s k is_s at_k.3 at_k.4 in
        r.runs t i is_t (omega (arith, low, at_j.3)) (omega (arith, high, at_k.4, ap (last_of assembly.supers) e))

-- ---- two orders with one tree

module _ (joined : ℕ → ℕ → Bool) (one two : List ℕ) (pattern : IsAdjacency joined)
    (inside_one : IsWithin (length one) joined) (inside_two : IsWithin (length two) joined)
    (is_one : IsPerm (length one) one) (is_two : IsPerm (length two) two) (len : length two ≡ length one)
    (together : IsNumberedInPostorder (parents joined two pattern inside_two is_two))
    (first second : AssemblyTree)
    (r_one : AreSupernodes (parents joined one pattern inside_one is_one) (counts joined one pattern inside_one is_one) first)
    (r_two : AreSupernodes (parents joined two pattern inside_two is_two) (counts joined two pattern inside_two is_two) second)
    (same_parents : (v : ℕ) → IsVertex (length one) v → parent_vertex joined two v ≡ parent_vertex joined one v)
    (same_counts : (v : ℕ) → IsVertex (length one) v → column_count joined two v ≡ column_count joined one v) where
  -- the column of a vertex in the second order, and back
  over : (v : ℕ) → IsVertex (length one) v → IsVertex (length two) v
  over v vertex = subst (λ m. IsVertex m v) (sym len) vertex

  goes_over : (j : ℕ) → IsVertex (length one) j → j + 1 ≤ length one
      → Continues (parents joined one pattern inside_one is_one) (counts joined one pattern inside_one is_one) j
      → front_of_vertex two second (vertex_at one j) ≡ front_of_vertex two second (vertex_at one (j + 1))
  goes_over j vj le run =
      let v = vertex_at one j in
      let vv = vertex_of (length one) one is_one j vj in
      let next = vertex_of (length one) one is_one (j + 1) (omega arith, le) in
      let goes = goes_on joined one pattern inside_one is_one j vj run in
      let up = same_parents v vv in
      let parent : parent_vertex joined one v ≡ vertex_at one (j + 1) =
      parent_by_vertex joined one pattern inside_one is_one j vj ∙ ap (vertex_at one) run.parent in
      let k = place_of two v in
      let vk = place_within vertex_of_place place_of_vertex (length two) two is_two v (over v vv) in
      let back = vertex_of_place (length two) two is_two v (over v vv).1 in
      let goes_two : GoesOn joined two v = record {
        some = subst (λ w. 0 < w) (sym up) goes.some;
        only = λ x vertex e.
            let vx = subst (λ m. IsVertex m x) len vertex in
            goes.only x vx (sym (same_parents x vx) ∙ e ∙ up);
        count = same_counts v vv ∙ goes.count
            ∙ ap (λ m. m + 1) (ap (column_count joined one) parent
            ∙ sym (same_counts (vertex_at one (j + 1)) next) ∙ ap (column_count joined two) (sym parent ∙ sym up));
      } in
      let run_two = column_goes_on joined two pattern inside_two is_two together k vk
      (subst (λ w. GoesOn joined two w) (sym back) goes_two) in
      let high = (rises joined two pattern inside_two is_two k (let u = run_two.parent in omega arith)).1 in
      let there : place_of two (vertex_at one (j + 1)) ≡ k + 1 =
      ap (place_of two) (sym parent ∙ sym up ∙ ap (parent_vertex joined two) (sym back)
      ∙ parent_by_vertex joined two pattern inside_two is_two k vk ∙ ap (vertex_at two) run_two.parent)
      ∙ place_of_vertex (length two) two is_two (k + 1) (let u = run_two.parent in omega arith) in
      together_if joined two pattern inside_two is_two second r_two k vk run_two ∙ ap (super_of second.nodes) (sym there)

  chain : (m j : ℕ) → IsVertex (length one) j → j + m ≤ length one
      → ((i : ℕ) → j ≤ i → i < j + m
      → Continues (parents joined one pattern inside_one is_one) (counts joined one pattern inside_one is_one) i)
      → front_of_vertex two second (vertex_at one j) ≡ front_of_vertex two second (vertex_at one (j + m))
  chain zero j vj le runs = ap (λ (k : ℕ). front_of_vertex two second (vertex_at one k)) (let e : j ≡ j + 0 = omega arith in e)
  chain (suc m) j vj le runs =
      let low = vj.0 in
      chain m j vj (omega arith) (λ i a b. runs i a (omega arith))
      ∙ goes_over (j + m) (omega arith, omega arith) (omega arith) (runs (j + m) (omega arith) (omega arith))
      ∙ ap (λ (k : ℕ). front_of_vertex two second (vertex_at one k)) (let e : j + m + 1 ≡ j + suc m = omega arith in e)

  up_to : (j k : ℕ) → IsVertex (length one) j → IsVertex (length one) k → j < k → super_of first.nodes j ≡ super_of first.nodes k
      → front_of_vertex two second (vertex_at one j) ≡ front_of_vertex two second (vertex_at one k)
  up_to j k vj vk lt same =
      let high = vk.1 in
      let e : j + (k - j) ≡ k = omega arith in
      chain (k - j) j vj (omega arith)
      (λ i low below. all_go_on joined one pattern inside_one is_one first r_one j k vj vk same i low (omega arith))
      ∙ ap (λ (m : ℕ). front_of_vertex two second (vertex_at one m)) e

  pub share_over : (u v : ℕ) → IsVertex (length one) u → IsVertex (length one) v
      → front_of_vertex one first u ≡ front_of_vertex one first v → front_of_vertex two second u ≡ front_of_vertex two second v
  share_over u v vu vv same =
      let j = place_of one u in
      let k = place_of one v in
      let vj = place_within vertex_of_place place_of_vertex (length one) one is_one u vu in
      let vk = place_within vertex_of_place place_of_vertex (length one) one is_one v vv in
      let at_u = vertex_of_place (length one) one is_one u vu.1 in
      let at_v = vertex_of_place (length one) one is_one v vv.1 in
      ap (front_of_vertex two second) (sym at_u)
      ∙ elim (cases_order (place_of one u) (place_of one v)) [
        | inl e ↦ ap (λ (m : ℕ). front_of_vertex two second (vertex_at one m)) e
        | inr o ↦ elim o [
          | inl lt ↦ up_to (place_of one u) (place_of one v) vj vk lt same
          | inr gt ↦ sym (up_to (place_of one v) (place_of one u) vk vj gt (sym same))
        ]
      ] ∙ ap (front_of_vertex two second) at_v

-- ---- the columns along a postorder

module _ (joined : ℕ → ℕ → Bool) (order perm : List ℕ) (pattern : IsAdjacency joined) (inside : IsWithin (length order) joined)
    (forest : IsForest (parents_of (renumbered joined order) (length order))) (post : IsPostordered joined order perm) where
  abbrev old_parents : List ℕ
  old_parents = parents_of (renumbered joined order) (length order)

  abbrev carried : ℕ → ℕ
  carried j = place_of post.post (parent_at old_parents j)

  old_long : length old_parents ≡ length order
  old_long = length-map-range_with_len (parent_of (renumbered joined order) (length order)) 1 (length order)

  perm_long : length perm ≡ length order
  perm_long = ap length post.along ∙ length-map post.post (vertex_at order) ∙ post.postorder.perm.len ∙ old_long

  tree_is : parents_of (renumbered joined perm) (length perm) ≡ map carried post.post
  tree_is =
      ap (parents_of (renumbered joined perm)) perm_long
      ∙ ap (λ (r : ℕ → ℕ → Bool). parents_of r (length order))
      (ap (renumbered joined) post.along ∙ renumbered_along joined order post.post)
      ∙ parents_by_postorder parent_first vertex_of_place place_of_vertex (renumbered joined order) (length order) post.post
      (pattern_renumbered joined order pattern) (within_renumbered (length order) (length order) joined order inside refl) post.postorder

  at_each : (k : ℕ) → k ≤ length old_parents
      → parent_at (parents_of (renumbered joined perm) (length perm)) k ≡ place_of post.post (parent_at old_parents (vertex_at post.post k))
  at_each zero le = sym (place_of_vertex (length old_parents) post.post post.postorder.perm 0 le)
  at_each (suc i) le =
      let len = post.postorder.perm.len in
      ap (λ (xs : List ℕ). get_or xs i 0) tree_is ∙ get_or-map carried post.post i 0 0 (omega arith)

  -- the columns of the new order are numbered in postorder
  pub numbered_in_postorder : IsNumberedInPostorder (parents_of (renumbered joined perm) (length perm))
  numbered_in_postorder =
      tree_in_postorder vertex_of_place place_of_vertex old_parents post.post forest post.postorder
      (parents_of (renumbered joined perm) (length perm))
      (ap length tree_is ∙ length-map post.post carried ∙ post.postorder.perm.len) at_each
