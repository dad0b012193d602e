-- The fronts of an order in which the columns of fronts stand one front after another, in a postorder of the fronts, are the same fronts,
-- numbered in that order.
use Rattle.std.proofs.Common.{sym, ◌∙◌, subst, ap, ◌≡◌, inl, inr, ℕ, zero, suc, ◌+◌, ◌-◌, ◌<◌, ◌≤◌, Bool}
use Rattle.std.proofs.Common.{List, [], ◌∷◌, length, get_or, map, take, arith, refl}
use Rattle.std.specs.List.{All, flat_map}
use Rattle.std.proofs.lemmas.Bool.{cases_eq}
use Rattle.std.proofs.lemmas.List.{get_or-map, length-map, length-append, take_all}
use Rattle.std.proofs.lemmas.List.Concat.{get_or-flat_map}
use Rattle.std.proofs.lemmas.List.Elements.{All-head, All-tail}
use Rattle.std.proofs.lemmas.List.FromFn.{get_or-range_with_len, length-range_with_len}
use Rattle.std.proofs.lemmas.List.Sums.{sum_by-cons}
use Rattle.permutations.specs.Perm.{IsVertex, IsPerm, vertex_at, place_of}
use Rattle.permutations.proofs.PermLemmas.{vertex_of_place, place_of_vertex}
use Rattle.ordering.specs.Fill.{IsAdjacency}
use Rattle.elim_tree.specs.Paths.{IsWithin}
use Rattle.elim_tree.specs.Postorders.{IsNumberedInPostorder}
use Rattle.elim_tree.specs.Trees.{parent_at, IsForest}
use Rattle.elim_tree.proofs.Columns.{parent_within}
use Rattle.elim_tree.proofs.OnePostorder.{vertex_of, place_within}
use Rattle.assembly_tree.specs.declared.assembly.Super.{Super}
use Rattle.assembly_tree.specs.Assembly.{AssemblyTree, IsAssembly, IsSuper, no_super, super_at, super_of, columns_in, front_of, reparented}
use Rattle.assembly_tree.specs.Supernodes.{count_at, Continues, first_of, last_of, AreSupernodes}
use Rattle.assembly_tree.proofs.RunLemmas.{last-more, last-within}
use Rattle.equivalent_orders.specs.Orders.{parent_vertex, column_count}
use Rattle.equivalent_orders.specs.FrontPostorders.{IsFrontPostorder, fronts_along}
use Rattle.equivalent_orders.specs.Fronts.{columns_in_front, front_of_vertex, vertices_along}
use Rattle.equivalent_orders.proofs.FrontColumns.{columns_of_front}
use Rattle.equivalent_orders.proofs.InPostorder.{new_len, is_new, topological, in_fronts_is, from_is, place_from, place_back, numbered}
use Rattle.equivalent_orders.proofs.Mapped.{at_place}
use Rattle.equivalent_orders.proofs.SameRuns.{counts_in, count_over, runs_over}
use Rattle.equivalent_orders.proofs.SameTree.{tree_of, columns_of_tree, parent_over}
use Rattle.equivalent_orders.proofs.Topological.{same_parents, same_counts}

-- the front of a column, as it is listed
node_at : (nodes : List ℕ) (k : ℕ) → super_of nodes k ≡ vertex_at nodes k
node_at nodes zero = refl
node_at nodes (suc i) = refl

-- ---- where the fronts begin

module _ (parents counts : List ℕ) (a : AssemblyTree) (forest : IsForest parents) (r : AreSupernodes parents counts a)
    (name : ℕ → ℕ) where
  abbrev listed : List ℕ → List Super
  listed xs = map (λ s. reparented name (super_at a.supers s)) xs

  -- so many columns are in the fronts before
  columns_before : (k : ℕ) (xs : List ℕ) → All (IsSuper a.supers) xs
      → length (flat_map (columns_in_front a) (take k xs)) ≡ last_of (listed xs) k
  columns_before zero xs all = refl
  columns_before (suc k) [] all = refl
  columns_before (suc k) (s ∷ xs) all =
      let is = All-head (IsSuper a.supers) s xs all in
      length-append (columns_in_front a s) (flat_map (columns_in_front a) (take k xs))
      ∙ ap (λ m. m + length (flat_map (columns_in_front a) (take k xs)))
      (ap length (columns_of_front parents counts a forest r s is)
      ∙ length-range_with_len (first_of a.supers s) (super_at a.supers s).columns)
      ∙ ap (λ m. (super_at a.supers s).columns + m) (columns_before k xs (All-tail (IsSuper a.supers) s xs all))
      ∙ sym (sum_by-cons columns_in (reparented name (super_at a.supers s)) (take k (listed xs)))

  -- the front with a number
  front_at : (xs : List ℕ) (t : ℕ) → IsVertex (length xs) t
      → super_at (listed xs) t ≡ reparented name (super_at a.supers (vertex_at xs t))
  front_at xs zero vt = absurd (let some = vt.0 in omega arith)
  front_at xs (suc i) vt =
      let high = vt.1 in
      let back : suc i - 1 ≡ i = omega arith in
      ap (λ (k : ℕ). get_or (listed xs) k no_super) back
      ∙ get_or-map (λ s. reparented name (super_at a.supers s)) xs i 0 no_super (omega arith)

  -- its columns
  column_at : (xs : List ℕ) → All (IsSuper a.supers) xs → (t i : ℕ) → IsVertex (length xs) t
      → i < (super_at a.supers (vertex_at xs t)).columns
      → vertex_at (flat_map (columns_in_front a) xs) (first_of (listed xs) t + i) ≡ first_of a.supers (vertex_at xs t) + i
  column_at xs all zero i vt lt = absurd (let some = vt.0 in omega arith)
  column_at xs all (suc k) i vt lt =
      let high = vt.1 in
      let is : IsSuper a.supers (get_or xs k 0) = all k 0 (omega arith) in
      let range = columns_of_front parents counts a forest r (get_or xs k 0) is in
      let long = ap length range ∙ length-range_with_len (first_of a.supers (get_or xs k 0)) (super_at a.supers (get_or xs k 0)).columns in
      let back : suc k - 1 ≡ k = omega arith in
      let start : first_of (listed xs) (suc k) + i ≡ suc (length (flat_map (columns_in_front a) (take k xs)) + i) =
      omega (arith, ap (λ (m : ℕ). last_of (listed xs) m) back, columns_before k xs all) in
      ap (vertex_at (flat_map (columns_in_front a) xs)) start
      ∙ get_or-flat_map (columns_in_front a) xs k i 0 0 (omega arith) (omega arith)
      ∙ ap (λ (ys : List ℕ). get_or ys i 0) range
      ∙ get_or-range_with_len (first_of a.supers (get_or xs k 0)) (super_at a.supers (get_or xs k 0)).columns i 0 lt

-- ---- the supernodes of the new order

module _ (joined : ℕ → ℕ → Bool) (old : List ℕ) (pattern : IsAdjacency joined) (inside : IsWithin (length old) joined)
    (is_old : IsPerm (length old) old) (forest : IsForest (tree_of joined old))
    (assembly : AssemblyTree) (is_assembly : IsAssembly assembly)
    (r : AreSupernodes (tree_of joined old) (counts_in joined old) assembly)
    (fronts : List ℕ) (post : IsFrontPostorder assembly.supers fronts)
    (forest_next : IsForest (tree_of joined (vertices_along old assembly fronts))) (together : IsNumberedInPostorder (tree_of joined old))
    (inside_next : IsWithin (length (vertices_along old assembly fronts)) joined) where
  abbrev next : List ℕ
  next = vertices_along old assembly fronts

  abbrev in_fronts : List ℕ
  in_fronts = flat_map (columns_in_front assembly) fronts

  abbrev along : AssemblyTree
  along = fronts_along assembly fronts

  -- the old front with a number, and the old column at a place
  abbrev front : ℕ → ℕ
  front t = vertex_at fronts t

  abbrev column : ℕ → ℕ
  column k = place_of old (vertex_at next k)

  len : length next ≡ length old
  len = new_len joined old pattern inside is_old forest assembly is_assembly r fronts post

  is_next : IsPerm (length next) next
  is_next = is_new joined old pattern inside is_old forest assembly is_assembly r fronts post

  is_in_fronts : IsPerm (length old) in_fronts
  is_in_fronts = in_fronts_is joined old pattern inside is_old forest assembly is_assembly r fronts post

  is_column : (k : ℕ) → IsVertex (length next) k → IsVertex (length old) (column k)
  is_column k vk = from_is joined old pattern inside is_old forest assembly is_assembly r fronts post forest_next k vk

  column_back : (k : ℕ) → IsVertex (length next) k → place_of next (vertex_at old (column k)) ≡ k
  column_back k vk = place_back joined old pattern inside is_old forest assembly is_assembly r fronts post forest_next k vk

  column_is : (k : ℕ) → IsVertex (length next) k → vertex_at in_fronts k ≡ column k
  column_is k vk =
      let place = place_from joined old pattern inside is_old forest assembly is_assembly r fronts post forest_next k vk in
      ap (vertex_at in_fronts) (sym place)
      ∙ vertex_of_place (length old) in_fronts is_in_fronts (column k) (is_column k vk).1

  -- ---- columns by their fronts

  all_fronts : All (IsSuper assembly.supers) fronts
  all_fronts = post.order.perm.vertices

  supers_len : length along.supers ≡ length assembly.supers
  supers_len = length-map fronts (λ s. reparented (place_of fronts) (super_at assembly.supers s)) ∙ post.order.perm.len

  node_is : (k : ℕ) → IsVertex (length next) k → super_of along.nodes k ≡ place_of fronts (super_of assembly.nodes (column k))
  node_is k vk =
      node_at along.nodes k
      ∙ at_place in_fronts (λ j. place_of fronts (super_of assembly.nodes j)) k (length next) (is_in_fronts.len ∙ sym len) vk
      ∙ ap (λ (j : ℕ). place_of fronts (super_of assembly.nodes j)) (column_is k vk)

  is_old_front : (t : ℕ) → IsSuper along.supers t → IsVertex (length assembly.supers) t × IsSuper assembly.supers (front t)
  is_old_front t is =
      let vt : IsVertex (length assembly.supers) t = (is.0, omega (arith, is.1, supers_len)) in
      (vt, vertex_of (length assembly.supers) fronts post.order.perm t vt)

  front_is : (t : ℕ) → IsSuper along.supers t → super_at along.supers t ≡ reparented (place_of fronts) (super_at assembly.supers (front t))
  front_is t is =
      front_at (tree_of joined old) (counts_in joined old) assembly forest r (place_of fronts) fronts t
      (subst (λ m. IsVertex m t) (sym post.order.perm.len) (is_old_front t is).0)

  total : last_of along.supers (length along.supers) ≡ length next
  total =
      sym (columns_before (tree_of joined old) (counts_in joined old) assembly forest r (place_of fronts) (length along.supers) fronts
      all_fronts)
      ∙ ap (λ (xs : List ℕ). length (flat_map (columns_in_front assembly) xs))
      (take_all (length along.supers) fronts (omega (arith, supers_len, post.order.perm.len)))
      ∙ is_in_fronts.len ∙ sym len

  -- the columns of a front, and their old numbers
  at_front : (t k : ℕ) → IsSuper along.supers t → first_of along.supers t ≤ k → k ≤ last_of along.supers t
      → IsVertex (length next) k × (column k ≡ first_of assembly.supers (front t) + (k - first_of along.supers t))
      × (column k + (last_of along.supers t - k) ≡ last_of assembly.supers (front t))
  at_front t k is low high =
      let of_old = (is_old_front t is).1 in
      let here = last-more along.supers t is.0 is.1 in
      let there = last-more assembly.supers (front t) of_old.0 of_old.1 in
      let wide = ap (λ (x : Super). x.columns) (front_is t is) in
      let all = total in
      let within = last-within along.supers t in
      let vk : IsVertex (length next) k = (omega arith, omega arith) in
      let at = column_at (tree_of joined old) (counts_in joined old) assembly forest r (place_of fronts) fronts all_fronts t
      (k - first_of along.supers t) (subst (λ m. IsVertex m t) (sym post.order.perm.len) (is_old_front t is).0) (omega arith) in
      let e : first_of along.supers t + (k - first_of along.supers t) ≡ k = omega arith in
      let moved : column k ≡ first_of assembly.supers (front t) + (k - first_of along.supers t) =
      sym (column_is k vk) ∙ sym (ap (vertex_at in_fronts) e) ∙ at in
      (vk, moved, omega arith)

  some : (t : ℕ) → IsSuper along.supers t → first_of along.supers t ≤ last_of along.supers t
  some t is =
      let here = last-more along.supers t is.0 is.1 in
      let wide = ap (λ (x : Super). x.columns) (front_is t is) in
      let least = (is_assembly.each (front t) (is_old_front t is).1).some in
      omega arith

  nodes : (t k : ℕ) → IsSuper along.supers t → first_of along.supers t ≤ k → k ≤ last_of along.supers t → super_of along.nodes k ≡ t
  nodes t k is low high =
      let at = at_front t k is low high in
      let moved = at.1 in
      let last = at.2 in
      let of_old = is_old_front t is in
      node_is k at.0
      ∙ ap (place_of fronts) (r.nodes (front t) (column k) of_old.1 (omega arith) (omega arith))
      ∙ place_of_vertex (length assembly.supers) fronts post.order.perm t of_old.0.1

  last_is : (t : ℕ) → IsSuper along.supers t
      → IsVertex (length next) (last_of along.supers t) × (column (last_of along.supers t) ≡ last_of assembly.supers (front t))
  last_is t is =
      let at = at_front t (last_of along.supers t) is (some t is) (omega arith) in
      let last = at.2 in
      (at.0, omega arith)

  first_is : (t : ℕ) → IsSuper along.supers t
      → IsVertex (length next) (first_of along.supers t) × (column (first_of along.supers t) ≡ first_of assembly.supers (front t))
  first_is t is =
      let at = at_front t (first_of along.supers t) is (omega arith) (some t is) in
      let moved = at.1 in
      (at.0, omega arith)

  -- ---- parents and counts

  same_new : (v : ℕ) → IsVertex (length old) v → parent_vertex joined next v ≡ parent_vertex joined old v
  same_new v vertex =
      same_parents joined old next pattern inside is_old
      (topological joined old pattern inside is_old forest assembly is_assembly r fronts post) v vertex

  counts_new : (v : ℕ) → IsVertex (length old) v → column_count joined next v ≡ column_count joined old v
  counts_new v vertex =
      same_counts joined old next pattern inside is_old
      (topological joined old pattern inside is_old forest assembly is_assembly r fronts post) v vertex

  over_old : (v : ℕ) → IsVertex (length next) v → IsVertex (length old) v
  over_old v vertex = subst (λ m. IsVertex m v) len vertex

  count_is : (k : ℕ) → IsVertex (length next) k → count_at (counts_in joined next) k ≡ count_at (counts_in joined old) (column k)
  count_is k vk =
      sym (ap (count_at (counts_in joined next)) (column_back k vk))
      ∙ count_over joined old next pattern inside inside_next is_old is_next len same_new counts_new (column k) (is_column k vk)

  to_next : (k : ℕ) → IsVertex (length next) k → Continues (tree_of joined old) (counts_in joined old) (column k)
      → Continues (tree_of joined next) (counts_in joined next) k
  to_next k vk run = subst (Continues (tree_of joined next) (counts_in joined next)) (column_back k vk)
      (runs_over joined old next pattern inside inside_next is_old is_next len same_new counts_new
      (numbered joined old pattern inside is_old forest assembly is_assembly r fronts post forest_next) (column k) (is_column k vk) run)

  to_old : (k : ℕ) → IsVertex (length next) k → Continues (tree_of joined next) (counts_in joined next) k
      → Continues (tree_of joined old) (counts_in joined old) (column k)
  to_old k vk run =
      runs_over joined next old pattern inside_next inside is_next is_old (sym len) (λ v vertex. sym (same_new v (over_old v vertex)))
      (λ v vertex. sym (counts_new v (over_old v vertex))) together k vk run

  parent_is : (k : ℕ) → IsVertex (length next) k
      → place_of fronts (super_of assembly.nodes (parent_at (tree_of joined old) (column k)))
      ≡ super_of along.nodes (parent_at (tree_of joined next) k)
  parent_is k vk =
      let within = parent_within (tree_of joined next) forest_next k in
      let all = columns_of_tree joined next in
      ap (λ (j : ℕ). place_of fronts (super_of assembly.nodes j))
      (parent_over joined old next is_old is_next len forest forest_next (λ v vertex. sym (same_new v vertex)) k vk)
      ∙ elim (cases_eq (parent_at (tree_of joined next) k) 0) [
        | inl e ↦
            ap (λ (j : ℕ). place_of fronts (super_of assembly.nodes (column j))) e
            ∙ ap (λ (j : ℕ). place_of fronts (super_of assembly.nodes j)) (place_of_vertex (length old) old is_old 0 (omega arith))
            ∙ place_of_vertex (length assembly.supers) fronts post.order.perm 0 (omega arith)
            ∙ sym (ap (super_of along.nodes) e)
        | inr ne ↦ sym (node_is (parent_at (tree_of joined next) k) (omega arith, omega arith))
      ]

  pub along_are_supernodes : AreSupernodes (tree_of joined next) (counts_in joined next) along
  along_are_supernodes = record {
    total = total ∙ sym (columns_of_tree joined next);
    some = some;
    len = length-map in_fronts (λ j. place_of fronts (super_of assembly.nodes j)) ∙ is_in_fronts.len ∙ sym len
        ∙ sym (columns_of_tree joined next);
    nodes = nodes;
    runs = λ t k is low high.
        let at = at_front t k is low (omega arith) in
        let moved = at.1 in
        let last = at.2 in
        to_next k at.0 (r.runs (front t) (column k) (is_old_front t is).1 (omega arith) (omega arith));
    longest = λ t is run.
        let last = last_is t is in
        r.longest (front t) (is_old_front t is).1
        (subst (Continues (tree_of joined old) (counts_in joined old)) last.1 (to_old (last_of along.supers t) last.0 run));
    front = λ t is.
        let first = first_is t is in
        ap front_of (front_is t is) ∙ r.front (front t) (is_old_front t is).1
        ∙ ap (count_at (counts_in joined old)) (sym first.1) ∙ sym (count_is (first_of along.supers t) first.0);
    parent = λ t is.
        let last = last_is t is in
        ap (λ (x : Super). x.parent) (front_is t is)
        ∙ ap (place_of fronts) (r.parent (front t) (is_old_front t is).1)
        ∙ ap (λ (j : ℕ). place_of fronts (super_of assembly.nodes (parent_at (tree_of joined old) j))) (sym last.1)
        ∙ parent_is (last_of along.supers t) last.0;
  }

  -- each vertex is in the front at the place of its old one
  pub front_along : (v : ℕ) → IsVertex (length next) v → front_of_vertex next along v ≡ place_of fronts (front_of_vertex old assembly v)
  front_along v vertex =
      node_is (place_of next v) (place_within vertex_of_place place_of_vertex (length next) next is_next v vertex)
      ∙ ap (λ (u : ℕ). place_of fronts (front_of_vertex old assembly u)) (vertex_of_place (length next) next is_next v vertex.1)
