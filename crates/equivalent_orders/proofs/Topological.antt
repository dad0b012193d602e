-- An order in which each vertex comes before its parent, as an order of the columns in which each comes before its parent; and what that
-- keeps, by vertices.
use Rattle.std.proofs.Common.{sym, ◌∙◌, subst, ap, ◌≡◌, inl, inr, ℕ, zero, suc, ◌<◌, ◌≤◌, Bool}
use Rattle.std.proofs.Common.{List, length, map, arith, refl}
use Rattle.std.specs.List.{range_with_len}
use Rattle.std.proofs.lemmas.Bool.{cases_eq}
use Rattle.std.proofs.lemmas.List.{get_or-map, length-map}
use Rattle.std.proofs.lemmas.List.FromFn.{get_or-map-range_with_len, length-map-range_with_len}
use Rattle.permutations.specs.Perm.{IsVertex, IsPerm, vertex_at, place_of}
use Rattle.permutations.proofs.PermLemmas.{vertex_of_place, place_of_vertex}
use Rattle.ordering.specs.Fill.{structure_of, parent_of, count_of, parents_of, renumbered, IsAdjacency}
use Rattle.ordering.proofs.FillLemmas.{parent_first}
use Rattle.elim_tree.specs.Paths.{IsWithin}
use Rattle.elim_tree.specs.Trees.{parent_at}
use Rattle.elim_tree.proofs.Growth.{pattern_renumbered, within_renumbered}
use Rattle.elim_tree.proofs.Columns.{parent_in_list, vertex_with_parent}
use Rattle.elim_tree.proofs.OnePostorder.{vertex_of, place_within, same_list}
use Rattle.elim_tree.proofs.Renumberings.{vertex_along, renumbered_along}
use Rattle.elim_tree.proofs.Reorderings.{structures_same, parents_carried, counts_carried}
use Rattle.equivalent_orders.proofs.Mapped.{perm_mapped}
use Rattle.equivalent_orders.specs.Orders.{is_in_column, column_count, parent_vertex, IsTopological}

-- ---- one order by the places of another

module _ (n : ℕ) (old : List ℕ) (is_old : IsPerm n old) where
  pub place_is : (v : ℕ) → IsVertex n v → IsVertex n (place_of old v)
  place_is v vertex = place_within vertex_of_place place_of_vertex n old is_old v vertex

  pub vertex_le : (k : ℕ) → k ≤ n → vertex_at old k ≤ n
  vertex_le zero le = omega arith
  vertex_le (suc i) le = (vertex_of n old is_old (suc i) (omega arith, le)).1

  place_le : (v : ℕ) → v ≤ n → place_of old v ≤ n
  place_le zero le = let none = place_of_vertex n old is_old 0 le in omega arith
  place_le (suc i) le = (place_is (suc i) (omega arith, le)).1

  module _ (new : List ℕ) (is_new : IsPerm n new) where
    -- the columns of the old order, in the new one
    abbrev pub along : List ℕ
    along = map (place_of old) new

    pub is_along : IsPerm n along
    is_along =
        perm_mapped n (place_of old) (vertex_at old) place_is (vertex_of n old is_old)
        (λ v vertex. vertex_of_place n old is_old v vertex.1) (λ k vk. place_of_vertex n old is_old k vk.1) new is_new

    pub vertex_along_is : (k : ℕ) → k ≤ n → vertex_at along k ≡ place_of old (vertex_at new k)
    vertex_along_is zero le = sym (place_of_vertex n old is_old 0 le)
    vertex_along_is (suc i) le = let len = is_new.len in get_or-map (place_of old) new i 0 0 (omega arith)

    -- the place of an old column
    pub place_along : (j : ℕ) → j ≤ n → place_of along j ≡ place_of new (vertex_at old j)
    place_along j le =
        let v = vertex_le j le in
        sym (ap (place_of along) (
        vertex_along_is (place_of new (vertex_at old j)) (places_fit (vertex_at old j) v)
        ∙ ap (place_of old) (vertex_of_place n new is_new (vertex_at old j) v) ∙ place_of_vertex n old is_old j le
        )) ∙ place_of_vertex n along is_along (place_of new (vertex_at old j)) (places_fit (vertex_at old j) v)
      where
        places_fit : (v : ℕ) → v ≤ n → place_of new v ≤ n
        places_fit zero le = let none = place_of_vertex n new is_new 0 le in omega arith
        places_fit (suc i) le = (place_within vertex_of_place place_of_vertex n new is_new (suc i) (omega arith, le)).1

    -- so the new order is the old one along them
    pub new_is : new ≡ map (vertex_at old) along
    new_is = same_list new (map (vertex_at old) along) n is_new.len (length-map along (vertex_at old) ∙ is_along.len)
        (λ k vk. sym (vertex_along old along k ∙ ap (vertex_at old) (vertex_along_is k vk.1)
        ∙ vertex_of_place n old is_old (vertex_at new k) (vertex_of n new is_new k vk).1))

-- ---- lists by place

at_list : (order : List ℕ) (f : ℕ → ℕ) (k n : ℕ) → length order ≡ n → IsVertex n k → parent_at (map f order) k ≡ f (vertex_at order k)
at_list order f zero n len vk = absurd (let some = vk.0 in omega arith)
at_list order f (suc i) n len vk = let le = vk.1 in get_or-map f order i 0 0 (omega arith)

at_range : (f : ℕ → ℕ) (n k : ℕ) → IsVertex n k → parent_at (map f (range_with_len 1 n)) k ≡ f k
at_range f n zero vk = absurd (let some = vk.0 in omega arith)
at_range f n (suc i) vk = let le = vk.1 in get_or-map-range_with_len f 1 n i (suc i) 0 (omega arith) (omega arith)

-- ---- the fill along it

module _ (joined : ℕ → ℕ → Bool) (old new : List ℕ) (pattern : IsAdjacency joined) (inside : IsWithin (length old) joined)
    (is_old : IsPerm (length old) old) (topological : IsTopological joined old new) where
  abbrev pub n : ℕ
  n = length old

  abbrev pub by_old : ℕ → ℕ → Bool
  by_old = renumbered joined old

  abbrev pub post : List ℕ
  post = along n old is_old new topological.perm

  is_post : IsPerm n post
  is_post = is_along n old is_old new topological.perm

  old_pattern : IsAdjacency by_old
  old_pattern = pattern_renumbered joined old pattern

  old_within : IsWithin n by_old
  old_within = within_renumbered n n joined old inside refl

  -- the pattern by the new numbers is that of the old columns, renumbered
  by_new : renumbered joined new ≡ renumbered by_old post
  by_new = ap (renumbered joined) (new_is n old is_old new topological.perm) ∙ renumbered_along joined old post

  new_place : (v : ℕ) → IsVertex n v → place_of post (place_of old v) ≡ place_of new v
  new_place v vertex =
      place_along n old is_old new topological.perm (place_of old v) (place_is n old is_old v vertex).1
      ∙ ap (place_of new) (vertex_of_place n old is_old v vertex.1)

  -- an old parent is none, or a vertex
  pub parent_le : (j : ℕ) → parent_of by_old n j ≤ n
  parent_le j =
      let first = parent_first by_old n j in
      elim (cases_eq (parent_of by_old n j) 0) [ inl e ↦ omega arith | inr ne ↦ (first.reached (omega arith)).1 ]

  -- each old column comes before its parent
  keeps : (j : ℕ) → 0 < parent_at (parents_of by_old n) j → place_of post j < place_of post (parent_at (parents_of by_old n) j)
  keeps j some =
      let vj : IsVertex n j = subst (λ m. IsVertex m j) (length-map-range_with_len (parent_of by_old n) 1 n)
      (vertex_with_parent (parents_of by_old n) j some) in
      let v = vertex_at old j in
      let vv = vertex_of n old is_old j vj in
      let listed = parent_in_list by_old n j vj in
      let back = place_of_vertex n old is_old j vj.1 in
      let parent_is : parent_vertex joined old v ≡ vertex_at old (parent_at (parents_of by_old n) j) =
      ap (λ k. vertex_at old (parent_of by_old n k)) back ∙ ap (vertex_at old) (sym listed) in
      let vp : IsVertex n (parent_at (parents_of by_old n) j) = (some, subst (λ q. q ≤ n) (sym listed) (parent_le j)) in
      let there = vertex_of n old is_old (parent_at (parents_of by_old n) j) vp in
      let pos : 0 < parent_vertex joined old v = subst (λ q. 0 < q) (sym parent_is) there.0 in
      let less = topological.before v vv pos in
      let here = place_along n old is_old new topological.perm j vj.1 in
      let above = place_along n old is_old new topological.perm (parent_at (parents_of by_old n) j) vp.1 in
      let less' : place_of new v < place_of new (vertex_at old (parent_at (parents_of by_old n) j)) =
      subst (λ q. place_of new v < place_of new q) parent_is less in
      subst (λ q. place_of post j < q) (sym above)
      (subst (λ q. q < place_of new (vertex_at old (parent_at (parents_of by_old n) j))) (sym here) less')

  pub same_columns : (u v : ℕ) → IsVertex n u → IsVertex n v → is_in_column joined new u v ≡ is_in_column joined old u v
  same_columns u v vu vv =
      ap (λ (r : ℕ → ℕ → Bool). structure_of r (place_of new u) (place_of new v)) by_new
      ∙ ap (λ k. structure_of (renumbered by_old post) k (place_of new v)) (sym (new_place u vu))
      ∙ ap (structure_of (renumbered by_old post) (place_of post (place_of old u))) (sym (new_place v vv))
      ∙ sym (structures_same parent_first by_old old_pattern n old_within vertex_of_place place_of_vertex post is_post keeps
      (place_of old u) (place_of old v) (place_is n old is_old u vu) (place_is n old is_old v vv))

  -- the old column at a new place
  old_column : (v : ℕ) → IsVertex n v → vertex_at post (place_of new v) ≡ place_of old v
  old_column v vertex =
      vertex_along_is n old is_old new topological.perm (place_of new v)
      (place_is n new topological.perm v vertex).1
      ∙ ap (place_of old) (vertex_of_place n new topological.perm v vertex.1)

  -- the parent of an old column, by the new numbers
  abbrev carried : ℕ → ℕ
  carried j = place_of post (parent_at (parents_of by_old n) j)

  pub same_parents : (v : ℕ) → IsVertex n v → parent_vertex joined new v ≡ parent_vertex joined old v
  same_parents v vertex =
      ap (λ m. vertex_at new (parent_of (renumbered joined new) m (place_of new v))) topological.perm.len
      ∙ ap (λ (r : ℕ → ℕ → Bool). vertex_at new (parent_of r n (place_of new v))) by_new
      ∙ ap (vertex_at new) parent_there
      ∙ vertex_of_place n new topological.perm (vertex_at old (parent_of by_old n (place_of old v)))
      (vertex_le n old is_old (parent_of by_old n (place_of old v)) (parent_le (place_of old v)))
    where
      parent_there : parent_of (renumbered by_old post) n (place_of new v)
          ≡ place_of new (vertex_at old (parent_of by_old n (place_of old v)))
      parent_there =
          sym (parent_in_list (renumbered by_old post) n (place_of new v) (place_is n new topological.perm v vertex))
          ∙ ap (λ (ps : List ℕ). parent_at ps (place_of new v))
          (parents_carried parent_first by_old old_pattern n old_within vertex_of_place place_of_vertex post is_post keeps)
          ∙ at_list post carried (place_of new v) n is_post.len (place_is n new topological.perm v vertex)
          ∙ ap carried (old_column v vertex)
          ∙ ap (place_of post) (parent_in_list by_old n (place_of old v) (place_is n old is_old v vertex))
          ∙ place_along n old is_old new topological.perm (parent_of by_old n (place_of old v)) (parent_le (place_of old v))

  pub same_counts : (v : ℕ) → IsVertex n v → column_count joined new v ≡ column_count joined old v
  same_counts v vertex =
      ap (λ m. count_of (renumbered joined new) m (place_of new v)) topological.perm.len
      ∙ ap (λ (r : ℕ → ℕ → Bool). count_of r n (place_of new v)) by_new
      ∙ sym (at_range (count_of (renumbered by_old post) n) n (place_of new v) (place_is n new topological.perm v vertex))
      ∙ ap (λ (ps : List ℕ). parent_at ps (place_of new v))
      (counts_carried parent_first by_old old_pattern n old_within vertex_of_place place_of_vertex post is_post keeps)
      ∙ at_list post (count_of by_old n) (place_of new v) n is_post.len (place_is n new topological.perm v vertex)
      ∙ ap (count_of by_old n) (old_column v vertex)
