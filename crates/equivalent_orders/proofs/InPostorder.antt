-- The columns of the fronts of a matrix, in a postorder of the fronts, are numbered in postorder.
use Rattle.std.proofs.Common.{sym, ◌∙◌, subst, ap, ◌≡◌, ℕ, ◌≤◌, Bool, List, length, arith}
use Rattle.permutations.specs.Perm.{IsVertex, IsPerm, vertex_at, place_of}
use Rattle.permutations.proofs.PermLemmas.{vertex_of_place, place_of_vertex}
use Rattle.ordering.specs.Fill.{IsAdjacency, counts_of, renumbered}
use Rattle.elim_tree.specs.Paths.{IsWithin}
use Rattle.elim_tree.specs.Postorders.{IsNumberedInPostorder}
use Rattle.elim_tree.specs.Trees.{IsForest, IsAbove, self, step}
use Rattle.elim_tree.proofs.Columns.{vertex_with_parent}
use Rattle.elim_tree.proofs.OnePostorder.{vertex_of, place_within}
use Rattle.elim_tree.proofs.Postorderings.{above_within}
use Rattle.assembly_tree.specs.Assembly.{AssemblyTree, IsAssembly, super_of}
use Rattle.assembly_tree.specs.Supernodes.{AreSupernodes}
use Rattle.equivalent_orders.specs.Orders.{parent_vertex, IsTopological}
use Rattle.equivalent_orders.specs.FrontPostorders.{IsFrontPostorder}
use Rattle.equivalent_orders.specs.Fronts.{vertices_along}
use Rattle.equivalent_orders.proofs.Along.{along_fronts}
use Rattle.equivalent_orders.proofs.BlockPlaces.{blocks_in_turn, in_block_order}
use Rattle.equivalent_orders.proofs.Blocks.{blocks, blocks_perm}
use Rattle.equivalent_orders.proofs.Followed.{supernodes_followed}
use Rattle.equivalent_orders.proofs.FrontPaths.{above_fronts, below_columns}
use Rattle.equivalent_orders.proofs.Listing.{by_columns}
use Rattle.equivalent_orders.proofs.Mapped.{place_mapped}
use Rattle.equivalent_orders.proofs.SameTree.{tree_of, columns_of_tree, is_over, back_over, above_over}
use Rattle.equivalent_orders.proofs.Topological.{same_parents}

module _ (joined : ℕ → ℕ → Bool) (old : List ℕ) (pattern : IsAdjacency joined) (inside : IsWithin (length old) joined)
    (is_old : IsPerm (length old) old) (forest : IsForest (tree_of joined old))
    (assembly : AssemblyTree) (is_assembly : IsAssembly assembly)
    (r : AreSupernodes (tree_of joined old) (counts_of (renumbered joined old) (length old)) assembly)
    (fronts : List ℕ) (post : IsFrontPostorder assembly.supers fronts) where
  abbrev pub new : List ℕ
  new = vertices_along old assembly fronts

  abbrev front : ℕ → ℕ
  front j = super_of assembly.nodes j

  abbrev in_fronts : List ℕ
  in_fronts = blocks (length assembly.nodes) (λ j. super_of assembly.nodes j) fronts

  nodes_len : length assembly.nodes ≡ length old
  nodes_len = r.len ∙ columns_of_tree joined old

  pub topological : IsTopological joined old new
  topological =
      along_fronts joined old pattern inside is_old assembly is_assembly nodes_len
      (supernodes_followed (tree_of joined old) (counts_of (renumbered joined old) (length old)) assembly r) fronts post.order

  pub new_len : length new ≡ length old
  new_len = topological.perm.len

  pub is_new : IsPerm (length new) new
  is_new = subst (λ m. IsPerm m new) (sym new_len) topological.perm

  -- ---- the columns of the old order, by their places in the new one

  pub in_fronts_is : IsPerm (length old) in_fronts
  in_fronts_is = subst (λ m. IsPerm m in_fronts) nodes_len
      (blocks_perm (length assembly.nodes) (λ j. super_of assembly.nodes j) (length assembly.supers) fronts post.order.perm
      is_assembly.nodes)

  place_in_fronts : (j : ℕ) → IsVertex (length old) j → place_of new (vertex_at old j) ≡ place_of in_fronts j
  place_in_fronts j vj =
      ap (λ (xs : List ℕ). place_of xs (vertex_at old j)) (by_columns old assembly fronts)
      ∙ place_mapped (length old) (vertex_at old) (place_of old) (vertex_of (length old) old is_old)
      (place_within vertex_of_place place_of_vertex (length old) old is_old)
      (λ k vk. place_of_vertex (length old) old is_old k vk.1) (λ v vertex. vertex_of_place (length old) old is_old v vertex.1)
      in_fronts in_fronts_is j vj

  by_nodes : (j : ℕ) → IsVertex (length old) j → IsVertex (length assembly.nodes) j
  by_nodes j vj = subst (λ m. IsVertex m j) (sym nodes_len) vj

  fronts_in_turn : (j k : ℕ) → IsVertex (length old) j → IsVertex (length old) k → place_of in_fronts j ≤ place_of in_fronts k
      → place_of fronts (front j) ≤ place_of fronts (front k)
  fronts_in_turn j k vj vk le =
      blocks_in_turn (length assembly.nodes) (λ j. super_of assembly.nodes j) (length assembly.supers) fronts post.order.perm
      is_assembly.nodes j k (by_nodes j vj) (by_nodes k vk) le

  columns_in_turn : (j k : ℕ) → IsVertex (length old) j → IsVertex (length old) k → front j ≡ front k
      → place_of in_fronts j ≤ place_of in_fronts k → j ≤ k
  columns_in_turn j k vj vk same le =
      in_block_order (length assembly.nodes) (λ j. super_of assembly.nodes j) (length assembly.supers) fronts post.order.perm
      is_assembly.nodes j k (by_nodes j vj) (by_nodes k vk) same le

  -- whoever stands between a column and one above it is below that one too
  between : (j k x : ℕ) → IsVertex (length old) j → IsVertex (length old) k → IsVertex (length old) x → IsAbove (tree_of joined old) j x
      → place_of in_fronts j ≤ place_of in_fronts k → place_of in_fronts k ≤ place_of in_fronts x → IsAbove (tree_of joined old) k x
  between j k x vj vk vx up jk kx =
      let all = columns_of_tree joined old in
      let counts = counts_of (renumbered joined old) (length old) in
      below_columns (tree_of joined old) counts assembly forest r k x
      (subst (λ m. IsVertex m k) (sym all) vk) (subst (λ m. IsVertex m x) (sym all) vx)
      (post.together (front j) (front k) (front x) (is_assembly.nodes j (by_nodes j vj)) (is_assembly.nodes k (by_nodes k vk))
      (above_fronts (tree_of joined old) counts assembly forest r up) (fronts_in_turn j k vj vk jk) (fronts_in_turn k x vk vx kx))
      (λ same. columns_in_turn k x vk vx same kx)

  -- ---- by the numbers of the new order

  module _ (forest_new : IsForest (tree_of joined new)) where
    same_old : (v : ℕ) → IsVertex (length old) v → parent_vertex joined old v ≡ parent_vertex joined new v
    same_old v vertex = sym (same_parents joined old new pattern inside is_old topological v vertex)

    same_new : (v : ℕ) → IsVertex (length new) v → parent_vertex joined new v ≡ parent_vertex joined old v
    same_new v vertex = same_parents joined old new pattern inside is_old topological v (subst (λ m. IsVertex m v) new_len vertex)

    -- the old column at a new place, and its place
    abbrev from_new : ℕ → ℕ
    from_new k = place_of old (vertex_at new k)

    pub from_is : (k : ℕ) → IsVertex (length new) k → IsVertex (length old) (from_new k)
    from_is k vk = is_over joined old new is_old is_new new_len forest forest_new same_old k vk

    pub place_back : (k : ℕ) → IsVertex (length new) k → place_of new (vertex_at old (from_new k)) ≡ k
    place_back k vk = back_over joined old new is_old is_new new_len forest forest_new same_old k vk

    pub place_from : (k : ℕ) → IsVertex (length new) k → place_of in_fronts (from_new k) ≡ k
    place_from k vk = sym (place_in_fronts (from_new k) (from_is k vk)) ∙ place_back k vk

    pub numbered : IsNumberedInPostorder (tree_of joined new)
    numbered a b x self ab bx = subst (λ v. IsAbove (tree_of joined new) b v) (let e : b ≡ a = omega arith in e) self
    numbered a b x (step some rest) ab bx =
        let all = columns_of_tree joined new in
        let in_tree = vertex_with_parent (tree_of joined new) a some in
        let low = in_tree.0 in
        let x_within = (above_within (tree_of joined new) forest_new (step some rest) in_tree.1).1 in
        let va : IsVertex (length new) a = (low, omega (arith, in_tree.1, all)) in
        let vb : IsVertex (length new) b = (omega arith, omega arith) in
        let vx : IsVertex (length new) x = (omega arith, omega arith) in
        let pa = place_from a va in
        let pb = place_from b vb in
        let px = place_from x vx in
        let up = above_over joined old new is_old is_new new_len forest forest_new same_old (step some rest) va in
        let down = between (from_new a) (from_new b) (from_new x) (from_is a va) (from_is b vb) (from_is x vx) up
        (omega arith) (omega arith) in
        subst (λ k. IsAbove (tree_of joined new) k x) (place_back b vb)
        (subst (λ k. IsAbove (tree_of joined new) (place_of new (vertex_at old (from_new b))) k) (place_back x vx)
        (above_over joined new old is_new is_old (sym new_len) forest_new forest same_new down (from_is b vb)))
