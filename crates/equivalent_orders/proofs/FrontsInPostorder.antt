-- What the laws say of the columns of the fronts of a matrix, in a postorder of the fronts: of an analysis, by what the crates below say.
use Rattle.std.proofs.Common.{◌≡◌, ◌∙◌, ℕ, ◌≤◌, Bool, List, length, sym, subst, arith}
use Rattle.std.specs.List.{range_with_len}
use Rattle.limits.specs.Limits.{most_order}
use Rattle.patterns.specs.Pattern.{IsPattern, is_joined}
use Rattle.permutations.specs.Perm.{IsPerm, IsVertex, place_of}
use Rattle.ordering.specs.Fill.{IsAdjacency, parents_of, renumbered}
use Rattle.elim_tree.specs.Paths.{IsWithin}
use Rattle.elim_tree.specs.Postorders.{IsPostorder, IsPostordered, IsNumberedInPostorder}
use Rattle.elim_tree.specs.Trees.{IsForest}
use Rattle.assembly_tree.specs.Assembly.{AssemblyTree, IsAssembly}
use Rattle.symbolic.specs.FrontTree.{IsAnalysis}
use Rattle.equivalent_orders.specs.FrontPostorders.{IsFrontPostorder, fronts_along}
use Rattle.equivalent_orders.specs.Fronts.{front_of_vertex, vertices_along}
use Rattle.equivalent_orders.proofs.Along.{postorder_topological}
use Rattle.equivalent_orders.proofs.FrontsAlong.{along_are_supernodes, front_along}
use Rattle.equivalent_orders.proofs.InPostorder.{new_len, numbered}
use Rattle.equivalent_orders.proofs.Own.{own_postorder, along_own}
use Rattle.equivalent_orders.proofs.SameFronts.{numbered_in_postorder}
use Rattle.equivalent_orders.proofs.SameTree.{tree_of, columns_of_tree}

module _ (forests : (joined : ℕ → ℕ → Bool) (n : ℕ) → 1 ≤ n → n ≤ most_order → IsForest (parents_of joined n))
    (rows : List (List ℕ)) (order perm fronts : List ℕ) (assembly : AssemblyTree) (pattern : IsPattern rows)
    (adjacency : IsAdjacency (is_joined rows)) (within : IsWithin (length rows) (is_joined rows)) (is_order : IsPerm (length rows) order)
    (perm_len : length perm ≡ length rows) (is_assembly : IsAssembly assembly) (is : IsAnalysis rows order perm assembly)
    (post : IsFrontPostorder assembly.supers fronts) where
  abbrev joined : ℕ → ℕ → Bool
  joined = is_joined rows

  abbrev next : List ℕ
  next = vertices_along perm assembly fronts

  inside : (xs : List ℕ) → length xs ≡ length rows → IsWithin (length xs) (is_joined rows)
  inside xs len = subst (λ m. IsWithin m (is_joined rows)) (sym len) within

  forest : (xs : List ℕ) → length xs ≡ length rows → IsForest (tree_of joined xs)
  forest xs len = forests (renumbered joined xs) (length xs) (omega (arith, pattern.some, len)) (omega (arith, pattern.few, len))

  is_perm : IsPerm (length perm) perm
  is_perm =
      let first = postorder_topological joined order adjacency (inside order is_order.len)
      (subst (λ m. IsPerm m order) (sym is_order.len) is_order) perm is.postordered in
      subst (λ m. IsPerm m perm) (is_order.len ∙ sym perm_len) first.perm

  next_len : length next ≡ length rows
  next_len =
      new_len joined perm adjacency (inside perm perm_len) is_perm (forest perm perm_len) assembly is_assembly is.supernodes fronts post
      ∙ perm_len

  pub kept : IsPostordered (is_joined rows) (vertices_along perm assembly fronts) (vertices_along perm assembly fronts)
  kept =
      let together = numbered joined perm adjacency (inside perm perm_len) is_perm (forest perm perm_len) assembly is_assembly is.supernodes
      fronts post (forest next next_len) in
      record {
        post = range_with_len 1 (length next);
        postorder = subst (λ m. IsPostorder (tree_of joined next) (range_with_len 1 m)) (columns_of_tree joined next)
            (own_postorder (tree_of joined next) (forest next next_len) together);
        along = along_own next;
      }

  together : IsNumberedInPostorder (tree_of joined perm)
  together =
      numbered_in_postorder joined order perm adjacency (inside order is_order.len) (forest order is_order.len) is.postordered

  pub own : IsAnalysis rows (vertices_along perm assembly fronts) (vertices_along perm assembly fronts) (fronts_along assembly fronts)
  own = record {
    postordered = kept;
    supernodes = along_are_supernodes joined perm adjacency (inside perm perm_len) is_perm (forest perm perm_len) assembly is_assembly
        is.supernodes fronts post (forest next next_len) together (inside next next_len);
  }

  pub in_turn : (v : ℕ) → IsVertex (length rows) v
      → front_of_vertex (vertices_along perm assembly fronts) (fronts_along assembly fronts) v
      ≡ place_of fronts (front_of_vertex perm assembly v)
  in_turn v vertex =
      front_along joined perm adjacency (inside perm perm_len) is_perm (forest perm perm_len) assembly is_assembly
      is.supernodes fronts post (forest next next_len) together (inside next next_len) v
      (subst (λ m. IsVertex m v) (sym next_len) vertex)
