-- The columns of the fronts of a matrix, one front after another, are a topological order of its elimination tree.
use Rattle.std.proofs.Common.{sym, ◌∙◌, subst, ap, ◌≡◌, ◌⊎◌, inl, inr, ℕ, ◌<◌, ◌≤◌, Bool}
use Rattle.std.proofs.Common.{List, length, map, arith, refl}
use Rattle.std.proofs.lemmas.Bool.{cases_eq}
use Rattle.std.proofs.lemmas.List.FromFn.{length-map-range_with_len}
use Rattle.permutations.specs.Perm.{IsVertex, IsPerm, vertex_at, place_of}
use Rattle.permutations.proofs.PermLemmas.{vertex_of_place, place_of_vertex}
use Rattle.ordering.specs.Fill.{IsAdjacency, parent_of, parents_of, renumbered}
use Rattle.ordering.proofs.FillLemmas.{parent_first}
use Rattle.elim_tree.specs.Paths.{IsWithin}
use Rattle.elim_tree.specs.Postorders.{below, IsPostordered}
use Rattle.elim_tree.specs.Trees.{parent_at, self, step}
use Rattle.elim_tree.proofs.Columns.{parent_in_list, vertex_with_parent}
use Rattle.elim_tree.proofs.Growth.{pattern_renumbered, within_renumbered}
use Rattle.elim_tree.proofs.OnePostorder.{vertex_of, place_within}
use Rattle.elim_tree.proofs.RowSubtrees.{parents_rise}
use Rattle.assembly_tree.specs.Assembly.{AssemblyTree, IsAssembly, IsSuper, super_of}
use Rattle.equivalent_orders.specs.Orders.{parent_vertex, IsTopological}
use Rattle.equivalent_orders.specs.Fronts.{vertices_along, IsFrontOrder}
use Rattle.equivalent_orders.proofs.Blocks.{blocks, blocks_perm, blocks_keep}
use Rattle.equivalent_orders.proofs.Listing.{by_columns}
use Rattle.equivalent_orders.proofs.Followed.{AreFollowed}
use Rattle.equivalent_orders.proofs.Mapped.{perm_mapped, place_mapped}
use Rattle.equivalent_orders.proofs.Topological.{same_parents}

module _ (joined : ℕ → ℕ → Bool) (old : List ℕ) (pattern : IsAdjacency joined) (inside : IsWithin (length old) joined)
    (is_old : IsPerm (length old) old) where
  abbrev pub n : ℕ
  n = length old

  abbrev pub by_old : ℕ → ℕ → Bool
  by_old = renumbered joined old

  abbrev pub parent : ℕ → ℕ
  parent j = parent_at (parents_of by_old n) j

  -- ---- an order of the columns, by their vertices

  place_is : (v : ℕ) → IsVertex n v → IsVertex n (place_of old v)
  place_is v vertex = place_within vertex_of_place place_of_vertex n old is_old v vertex

  old_of : (v : ℕ) → IsVertex n v → vertex_at old (place_of old v) ≡ v
  old_of v vertex = vertex_of_place n old is_old v vertex.1

  new_of : (k : ℕ) → IsVertex n k → place_of old (vertex_at old k) ≡ k
  new_of k vk = place_of_vertex n old is_old k vk.1

  -- the parent of a column is greater, and one of them
  pub rises : (j : ℕ) → 0 < parent j → (j < parent j) × (parent j ≤ n)
  rises j some =
      let first = parent_first by_old n j in
      let vj : IsVertex n j = subst (λ m. IsVertex m j) (length-map-range_with_len (parent_of by_old n) 1 n)
      (vertex_with_parent (parents_of by_old n) j some) in
      let listed = parent_in_list by_old n j vj in (
        parents_rise parent_first by_old (pattern_renumbered joined old pattern) n (within_renumbered n n joined old inside refl) j some,
        subst (λ q. q ≤ n) (sym listed) (first.reached (subst (λ q. 0 < q) listed some)).1,
      )

  -- columns of which each comes before its parent
  pub topological_of_columns : (columns : List ℕ) → IsPerm n columns
      → ((j : ℕ) → IsVertex n j → 0 < parent j → place_of columns j < place_of columns (parent j))
      → IsTopological joined old (map (vertex_at old) columns)
  topological_of_columns columns is keeps = record {
    perm = perm_mapped n (vertex_at old) (place_of old) (vertex_of n old is_old) place_is new_of old_of columns is;
    before = λ v vertex some.
        let j = place_of old v in
        let vj = place_is v vertex in
        let listed = parent_in_list by_old n j vj in
        let pos : 0 < parent j = subst (λ q. 0 < q) (sym listed) (elim (cases_eq (parent_of by_old n j) 0) [
          | inl e ↦ let z = ap (vertex_at old) e in absurd (omega arith)
          | inr ne ↦ omega arith
        ]) in
        let vp : IsVertex n (parent j) = (pos, (rises j pos).1) in
        let here : place_of (map (vertex_at old) columns) v ≡ place_of columns j =
        ap (place_of (map (vertex_at old) columns)) (sym (old_of v vertex))
        ∙ place_mapped n (vertex_at old) (place_of old) (vertex_of n old is_old) place_is new_of old_of columns is j vj in
        let there : place_of (map (vertex_at old) columns) (parent_vertex joined old v) ≡ place_of columns (parent j) =
        ap (λ q. place_of (map (vertex_at old) columns) (vertex_at old q)) (sym listed)
        ∙ place_mapped n (vertex_at old) (place_of old) (vertex_of n old is_old) place_is new_of old_of columns is (parent j) vp in
        let less = keeps j vj pos in
        omega arith;
  }

  -- ---- front after front

  module _ (assembly : AssemblyTree) (is_assembly : IsAssembly assembly) (len : length assembly.nodes ≡ n)
      (followed : AreFollowed (parents_of by_old n) assembly) (fronts : List ℕ) (order : IsFrontOrder assembly.supers fronts) where
    in_front : (j : ℕ) → IsVertex n j → IsSuper assembly.supers (super_of assembly.nodes j)
    in_front j vj = is_assembly.nodes j (subst (λ m. IsVertex m j) (sym len) vj)

    follows : (j : ℕ) → IsVertex (length assembly.nodes) j → 0 < parent j
        → (super_of assembly.nodes (parent j) ≡ super_of assembly.nodes j)
        ⊎ (place_of fronts (super_of assembly.nodes j) < place_of fronts (super_of assembly.nodes (parent j)))
    follows j vj some =
        let there = in_front (parent j) (some, (rises j some).1) in
        let here = is_assembly.nodes j vj in
        elim (followed j some) [
          | inl e ↦ inl e
          | inr e ↦ inr (subst (λ s. place_of fronts (super_of assembly.nodes j) < place_of fronts s) (sym e)
              (order.before (super_of assembly.nodes j) here (subst (λ s. 0 < s) e there.0)))
        ]

    is_columns : IsPerm n (blocks (length assembly.nodes) (λ j. super_of assembly.nodes j) fronts)
    is_columns = subst (λ m. IsPerm m (blocks (length assembly.nodes) (λ j. super_of assembly.nodes j) fronts)) len
        (blocks_perm (length assembly.nodes) (λ j. super_of assembly.nodes j) (length assembly.supers) fronts order.perm is_assembly.nodes)

    columns_keep : (j : ℕ) → IsVertex n j → 0 < parent j
        → place_of (blocks (length assembly.nodes) (λ j. super_of assembly.nodes j) fronts) j
        < place_of (blocks (length assembly.nodes) (λ j. super_of assembly.nodes j) fronts) (parent j)
    columns_keep j vj some =
        blocks_keep (length assembly.nodes) (λ j. super_of assembly.nodes j) (length assembly.supers) fronts order.perm is_assembly.nodes
        parent (λ k pos. ((rises k pos).0, subst (λ m. parent k ≤ m) (sym len) (rises k pos).1)) follows
        j (subst (λ m. IsVertex m j) (sym len) vj) some

    pub along_fronts : IsTopological joined old (vertices_along old assembly fronts)
    along_fronts = subst (IsTopological joined old) (sym (by_columns old assembly fronts))
        (topological_of_columns (blocks (length assembly.nodes) (λ j. super_of assembly.nodes j) fronts) is_columns columns_keep)

-- ---- the order of elimination along the postorder of its tree

module _ (joined : ℕ → ℕ → Bool) (old : List ℕ) (pattern : IsAdjacency joined) (inside : IsWithin (length old) joined)
    (is_old : IsPerm (length old) old) where
  pub postorder_topological : (new : List ℕ) → IsPostordered joined old new → IsTopological joined old new
  postorder_topological new post =
      let all : length (parents_of (by_old joined old pattern inside is_old) (length old)) ≡ length old =
      length-map-range_with_len (parent_of (renumbered joined old) (length old)) 1 (length old) in
      subst (IsTopological joined old) (sym post.along)
      (topological_of_columns joined old pattern inside is_old post.post (subst (λ m. IsPerm m post.post) all post.postorder.perm)
      (λ j vj some.
      let up = rises joined old pattern inside is_old j some in
      post.postorder.before j (parent joined old pattern inside is_old j) (subst (λ m. IsVertex m j) (sym all) vj)
      (subst (λ m. IsVertex m (parent joined old pattern inside is_old j)) (sym all) (some, up.1))
      (below (step some self) (let rise = up.0 in λ e. absurd (omega arith)))))

  -- a topological order of its tree is one of the old order's
  pub topological_on : (mid new : List ℕ) → IsTopological joined old mid → IsTopological joined mid new → IsTopological joined old new
  topological_on mid new first second =
      let len = first.perm.len in
      record {
        perm = subst (λ m. IsPerm m new) len second.perm;
        before = λ v vertex some.
            let same = same_parents joined old mid pattern inside is_old first v vertex in
            subst (λ q. place_of new v < place_of new q) same
            (second.before v (subst (λ m. IsVertex m v) (sym len) vertex) (subst (λ q. 0 < q) (sym same) some));
      }
