-- The symbolic analysis of a sparse matrix: from its pattern and an order of elimination to a tree of fronts, as a multifrontal solver
-- makes it. Duff and Reid 1983; Liu 1990 and 1992.
use Rattle.std.specs.Prelude.{◌≡◌, ℕ, Bool, List, Option, Some, None, length, map}
use Rattle.patterns.specs.Pattern.{is_joined}
use Rattle.permutations.specs.Perm.{vertex_at}
use Rattle.ordering.specs.Fill.{renumbered, parents_of, counts_of}
use Rattle.elim_tree.specs.Postorders.{IsPostorder, IsPostordered}
use Rattle.assembly_tree.specs.Amalgamation.{amalgamated}
use Rattle.assembly_tree.specs.Assembly.{AssemblyTree}
use Rattle.assembly_tree.specs.Fronts.{nodes_of_fronts}
use Rattle.assembly_tree.specs.Supernodes.{AreSupernodes}
use Rattle.trees.specs.declared.node.Node.{Node}
use Rattle.symbolic.specs.declared.options.FrontOptions.{FrontOptions}

-- the pattern of a matrix by columns: its vertices in the order in which they are eliminated
abbrev pub columns : List (List ℕ) → List ℕ → ℕ → ℕ → Bool
columns rows order = renumbered (is_joined rows) order

-- the columns of a matrix with these rows, eliminated in this order, are renumbered along the postorder of their elimination tree, and cut
-- into fundamental supernodes
pub record IsAnalysis (rows : List (List ℕ)) (order perm : List ℕ) (assembly : AssemblyTree) : Type 0 where
  pub postordered : IsPostordered (is_joined rows) order perm
  pub supernodes : AreSupernodes (parents_of (columns rows perm) (length perm)) (counts_of (columns rows perm) (length perm)) assembly

-- merged where that adds at most so many explicit zeros
abbrev pub relaxed : Option ℕ → AssemblyTree → AssemblyTree
relaxed None assembly = assembly
relaxed (Some zeros) assembly = amalgamated zeros assembly

-- the tree of the fronts of a matrix with these rows, eliminated in this order
pub record IsFrontTree (options : FrontOptions) (rows : List (List ℕ)) (order : List ℕ) (nodes : List Node) : Type 0 where
  -- the columns are renumbered along the postorder of their elimination tree
  pub post : List ℕ
  pub postorder : IsPostorder (parents_of (columns rows order) (length order)) post
  -- cut into fundamental supernodes
  pub assembly : AssemblyTree
  pub supernodes : AreSupernodes
      (parents_of (columns rows (map (vertex_at order) post)) (length order))
      (counts_of (columns rows (map (vertex_at order) post)) (length order)) assembly
  -- and each is a front
  pub fronts : nodes ≡ nodes_of_fronts options.shape options.inplace (relaxed options.zeros assembly).supers
