-- The steps of the analysis fit together.
use Rattle.std.proofs.Common.{◌≡◌, ◌∙◌, ℕ, List, length, sym, ap, subst}
use Rattle.ordering.specs.Fill.{parents_of, counts_of}
use Rattle.assembly_tree.specs.Assembly.{AssemblyTree}
use Rattle.assembly_tree.specs.Fronts.{nodes_of_fronts}
use Rattle.assembly_tree.specs.Supernodes.{AreColumnCounts, AreSupernodes}
use Rattle.trees.specs.declared.node.Node.{Node}
use Rattle.symbolic.specs.FrontTree.{columns, relaxed, IsAnalysis, IsFrontTree}
use Rattle.symbolic.specs.declared.options.FrontOptions.{FrontOptions}

module _ (rows : List (List ℕ)) (perm parents counts : List ℕ)
    (are_parents : parents ≡ parents_of (columns rows perm) (length perm))
    (are_counts : counts ≡ counts_of (columns rows perm) (length perm)) where
  pub column-counts : AreColumnCounts (parents_of (columns rows perm) (length perm)) (counts_of (columns rows perm) (length perm))
      → AreColumnCounts parents counts
  column-counts are =
      subst (λ (ps : List ℕ). AreColumnCounts ps counts) (sym are_parents)
      (subst (AreColumnCounts (parents_of (columns rows perm) (length perm))) (sym are_counts) are)

  pub by-counts : (assembly : AssemblyTree) → AreSupernodes parents counts assembly
      → AreSupernodes parents (counts_of (columns rows perm) (length perm)) assembly
  by-counts assembly are = subst (λ (cs : List ℕ). AreSupernodes parents cs assembly) are_counts are

  pub by-fill : (assembly : AssemblyTree) → AreSupernodes parents counts assembly
      → AreSupernodes (parents_of (columns rows perm) (length perm)) (counts_of (columns rows perm) (length perm)) assembly
  by-fill assembly are =
      subst (λ (ps : List ℕ). AreSupernodes ps (counts_of (columns rows perm) (length perm)) assembly) are_parents (by-counts assembly are)

pub front-tree : (options : FrontOptions) (rows : List (List ℕ)) (order perm : List ℕ) (assembly merged : AssemblyTree) (nodes : List Node)
    → IsAnalysis rows order perm assembly → length perm ≡ length order → merged ≡ relaxed options.zeros assembly
    → nodes ≡ nodes_of_fronts options.shape options.inplace merged.supers → IsFrontTree options rows order nodes
front-tree options rows order perm assembly merged nodes is len is_merged is_nodes =
    let along = λ (p : List ℕ) (n : ℕ). AreSupernodes (parents_of (columns rows p) n) (counts_of (columns rows p) n) assembly in
    record {
      post = is.postordered.post;
      postorder = is.postordered.postorder;
      assembly = assembly;
      supernodes = subst (λ (p : List ℕ). along p (length order)) is.postordered.along (subst (along perm) len is.supernodes);
      fronts = is_nodes ∙ ap (λ (a : AssemblyTree). nodes_of_fronts options.shape options.inplace a.supers) is_merged;
    }
