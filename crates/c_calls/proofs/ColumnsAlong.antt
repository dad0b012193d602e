-- The columns of an analysis, one front after another: an order of elimination with the same fill.
use Rattle.std.proofs.Common.{◌≡◌, ◌∙◌, ◌↔◌, sym, ap, subst, ℕ, Bool, List, Option, None, length, map, refl}
use Rattle.std.specs.List.{All, range_with_len}
use Rattle.mp_system.specs.Traversal.{IsTraversal}
use Rattle.patterns.specs.Pattern.{IsPattern, is_joined}
use Rattle.permutations.specs.Order.{order_given}
use Rattle.permutations.specs.Perm.{IsPerm, IsVertex}
use Rattle.ordering.specs.Fill.{IsAdjacency}
use Rattle.elim_tree.specs.Paths.{IsWithin}
use Rattle.elim_tree.specs.Postorders.{IsPostordered}
use Rattle.assembly_tree.specs.declared.assembly.Super.{Super}
use Rattle.assembly_tree.specs.declared.front.Shape.{Shape}
use Rattle.assembly_tree.specs.Amalgamation.{amalgamated}
use Rattle.assembly_tree.specs.Assembly.{AssemblyTree, IsAssembly, IsSuper}
use Rattle.assembly_tree.specs.Fronts.{nodes_of_fronts}
use Rattle.assembly_tree.specs.Relaxation.{IsRelaxed}
use Rattle.symbolic.specs.FrontTree.{relaxed, IsAnalysis}
use Rattle.symbolic.specs.declared.options.FrontOptions.{FrontOptions}
use Rattle.trees.specs.declared.node.Node.{Node}
use Rattle.trees.specs.Tree.{system_of_nodes}
use Rattle.postorder_best.specs.Postorder.{IsTreePostorder}
use Rattle.equivalent_orders.specs.Arrays.{columns_along, number_from}
use Rattle.equivalent_orders.specs.Fronts.{IsFrontOrder, front_of_vertex, vertices_along}
use Rattle.equivalent_orders.proofs.Listing.{vertices_perm}
use Rattle.equivalent_orders.specs.FrontPostorders.{IsFrontPostorder, StandTogether}
use Rattle.equivalent_orders.specs.Orders.{IsTopological}
use Rattle.c_calls.specs.Columns.{new_order}
use Rattle.c_calls.specs.Fronts.{AreAnalysed, GivenMatrix}
use Rattle.c_calls.proofs.FrontPostorders.{stand_together}
use Rattle.c_calls.proofs.FrontsMade.{columns_long, relaxed_assembly, relaxed_long}

-- what is known of every analysis
pub record AnalysisLaws : Type 0 where
  pub len : (rows : List (List ℕ)) (order perm : List ℕ) (assembly : AssemblyTree) → length order ≡ length rows
      → IsAnalysis rows order perm assembly → length perm ≡ length rows
  pub tree : (rows : List (List ℕ)) (order perm : List ℕ) (assembly : AssemblyTree) → IsPattern rows → length order ≡ length rows
      → IsAnalysis rows order perm assembly → IsAssembly assembly
  pub pattern : (rows : List (List ℕ)) → IsPattern rows → IsAdjacency (is_joined rows)
  pub within : (rows : List (List ℕ)) → IsPattern rows → IsWithin (length rows) (is_joined rows)
  pub postordered : (joined : ℕ → ℕ → Bool) (old new : List ℕ) → IsAdjacency joined → IsWithin (length old) joined
      → IsPerm (length old) old → IsPostordered joined old new → IsTopological joined old new
  pub merged : (zeros : ℕ) (a : AssemblyTree) → IsAssembly a → IsAssembly (amalgamated zeros a)
  pub relaxes : (zeros : ℕ) (a : AssemblyTree) → IsAssembly a → IsRelaxed zeros a (amalgamated zeros a)
  pub along : (base : ℕ) (perm fronts : List ℕ) (assembly : AssemblyTree) → IsPerm (length perm) perm → length perm ≡ length assembly.nodes
      → columns_along base (map (number_from base) perm) (map (front_of_vertex perm assembly) (range_with_len 1 (length perm))) fronts
      ≡ map (number_from base) (vertices_along perm assembly fronts)
  pub counted : (base n : ℕ) (vertices : List ℕ) → All (IsVertex n) vertices
      → order_given base (map (number_from base) vertices) ≡ vertices
  pub orders : (shape : Shape) (inplace : Bool) (assembly : AssemblyTree) (fronts : List ℕ) → IsAssembly assembly
      → IsTraversal (system_of_nodes (nodes_of_fronts shape inplace assembly.supers)) fronts ↔ IsFrontOrder assembly.supers fronts
  pub topological : (rows : List (List ℕ)) (order perm fronts : List ℕ) (assembly : AssemblyTree) (zeros : Option ℕ) → IsPattern rows
      → IsPerm (length rows) order → IsAnalysis rows order perm assembly → IsFrontOrder (relaxed zeros assembly).supers fronts
      → IsTopological (is_joined rows) order (vertices_along perm (relaxed zeros assembly) fronts)
  pub postorders : (supers : List Super) (fronts : List ℕ) → IsFrontOrder supers fronts
      → ((s : ℕ) → IsSuper supers s → StandTogether supers fronts s) → IsFrontPostorder supers fronts

module _ (laws : AnalysisLaws) (m : GivenMatrix) (options : FrontOptions) (nodes : List Node) (front_of columns fronts : List ℕ)
    (is : AreAnalysed m options nodes front_of columns) where
  abbrev pub merged : AssemblyTree
  merged = relaxed options.zeros is.have_fronts.assembly

  abbrev pub pattern : IsPattern is.rows
  pattern = is.is_matrix.pattern.pattern

  assembly : IsAssembly is.have_fronts.assembly
  assembly = laws.tree is.rows is.order is.perm is.have_fronts.assembly pattern is.is_matrix.perm.len is.have_fronts.analysis

  pub merged_tree : IsAssembly merged
  merged_tree = relaxed_assembly laws.merged options.zeros is.have_fronts.assembly merged assembly refl

  perm_long : length is.perm ≡ length is.rows
  perm_long = laws.len is.rows is.order is.perm is.have_fronts.assembly is.is_matrix.perm.len is.have_fronts.analysis

  -- what the laws of orders ask of the one that is analysed
  pub adjacency : IsAdjacency (is_joined is.rows)
  adjacency = laws.pattern is.rows pattern

  pub within : IsWithin (length is.order) (is_joined is.rows)
  within = subst (λ (n : ℕ). IsWithin n (is_joined is.rows)) (sym is.is_matrix.perm.len) (laws.within is.rows pattern)

  pub order_once : IsPerm (length is.order) is.order
  order_once = subst (λ (n : ℕ). IsPerm n is.order) (sym is.is_matrix.perm.len) is.is_matrix.perm

  perm_once : IsPerm (length is.perm) is.perm
  perm_once =
      subst (λ (n : ℕ). IsPerm n is.perm) (is.is_matrix.perm.len ∙ sym perm_long)
      (laws.postordered (is_joined is.rows) is.order is.perm adjacency within order_once is.have_fronts.analysis.postordered).perm

  long : length is.perm ≡ length merged.nodes
  long =
      columns_long is.rows is.perm _ _ is.have_fronts.assembly refl is.have_fronts.analysis.supernodes
      ∙ sym (relaxed_long laws.relaxes options.zeros is.have_fronts.assembly merged assembly refl)

  pub along : columns_along m.base columns front_of fronts ≡ map (number_from m.base) (vertices_along is.perm merged fronts)
  along =
      ap (λ (xs : List ℕ). columns_along m.base xs front_of fronts) is.columns_are
      ∙ ap (λ (xs : List ℕ). columns_along m.base (map (number_from m.base) is.perm) xs fronts) is.have_fronts.fronts_are
      ∙ laws.along m.base is.perm fronts merged perm_once long

  -- counted from 1
  pub counted : IsPerm (length merged.supers) fronts → new_order m columns front_of fronts ≡ vertices_along is.perm merged fronts
  counted once =
      ap (order_given m.base) along
      ∙ laws.counted m.base (length is.perm) (vertices_along is.perm merged fronts)
      ((vertices_perm is.perm merged fronts perm_once merged_tree long once).vertices)

  -- traversals of the tree of fronts
  pub front_order : IsTraversal (system_of_nodes nodes) fronts → IsFrontOrder merged.supers fronts
  front_order traversal =
      (laws.orders options.shape options.inplace merged fronts merged_tree).0
      (subst (λ (ns : List Node). IsTraversal (system_of_nodes ns) fronts) is.have_fronts.nodes_are traversal)

  pub topological : IsTraversal (system_of_nodes nodes) fronts
      → IsTopological (is_joined is.rows) is.order (new_order m columns front_of fronts)
  topological traversal =
      let order = front_order traversal in
      subst (IsTopological (is_joined is.rows) is.order) (sym (counted order.perm))
      (laws.topological is.rows is.order is.perm fronts is.have_fronts.assembly options.zeros pattern is.is_matrix.perm
      is.have_fronts.analysis order)

  -- without merged fronts
  module _ (none : options.zeros ≡ None) (post : IsTreePostorder nodes fronts) where
    unmerged : merged ≡ is.have_fronts.assembly
    unmerged = ap (λ (zeros : Option ℕ). relaxed zeros is.have_fronts.assembly) none

    pub front_postorder : IsFrontPostorder is.have_fronts.assembly.supers fronts
    front_postorder =
        let order = front_order post.traversal in
        subst (λ (a : AssemblyTree). IsFrontPostorder a.supers fronts) unmerged
        (laws.postorders merged.supers fronts order
        (stand_together options.shape options.inplace merged.supers fronts order
        (subst (λ (ns : List Node). IsTreePostorder ns fronts) is.have_fronts.nodes_are post)))

    pub new_is : new_order m columns front_of fronts ≡ vertices_along is.perm is.have_fronts.assembly fronts
    new_is =
        counted ((front_order post.traversal).perm)
        ∙ ap (λ (a : AssemblyTree). vertices_along is.perm a fronts) unmerged
