use Rattle.std.proofs.Common.{◌≡◌, ◌∙◌, ℕ, ◌<◌, ◌≤◌, List, Option, Some, None, length, sym, subst}
use Rattle.std.proofs.lemmas.List.FromFn.{length-map-range_with_len}
use Rattle.patterns.specs.Pattern.{is_joined}
use Rattle.permutations.specs.Perm.{IsPerm}
use Rattle.ordering.specs.Fill.{parent_of, parents_of, counts_of}
use Rattle.elim_tree.specs.Paths.{IsWithin}
use Rattle.elim_tree.specs.Trees.{parent_at}
use Rattle.assembly_tree.specs.Amalgamation.{amalgamated}
use Rattle.assembly_tree.specs.Assembly.{AssemblyTree, IsAssembly}
use Rattle.assembly_tree.specs.Relaxation.{IsRelaxed}
use Rattle.symbolic.specs.FrontTree.{columns, relaxed}
use Rattle.equivalent_orders.specs.Fronts.{vertices_along}
use Rattle.equivalent_orders.proofs.Along.{rises, along_fronts, topological_on, postorder_topological}
use Rattle.equivalent_orders.proofs.Followed.{AreFollowed, supernodes_followed, merged_nodes, merged_followed}
use Rattle.equivalent_orders.proofs.laws.columns_of_fronts.Goals as goal

-- what is used of supernodes holds of merged ones too
merged : ((zeros : ℕ) (a : AssemblyTree) → IsAssembly a → IsAssembly (amalgamated zeros a))
    → ((zeros : ℕ) (a : AssemblyTree) → IsAssembly a → IsRelaxed zeros a (amalgamated zeros a))
    → (zeros : Option ℕ) (a : AssemblyTree) (parents : List ℕ) → IsAssembly a → length a.nodes ≡ length parents
    → ((j : ℕ) → 0 < parent_at parents j → parent_at parents j ≤ length parents) → AreFollowed parents a
    → IsAssembly (relaxed zeros a) × (length (relaxed zeros a).nodes ≡ length parents) × AreFollowed parents (relaxed zeros a)
merged assemblies relaxes None a parents is len within followed = (is, len, followed)
merged assemblies relaxes (Some zeros) a parents is len within followed =
    let r = relaxes zeros a is in (
      assemblies zeros a is,
      merged_nodes zeros a (amalgamated zeros a) r is ∙ len,
      merged_followed zeros a (amalgamated zeros a) r is parents len within followed,
    )

pub returns : goal.returns
returns c = λ rows order perm fronts assembly zeros pattern is_order is fronts_order.
    let joined = is_joined rows in
    let adjacency = c.pattern_of_rows.ensures.pattern rows pattern in
    let len = is_order.len in
    let perm_len = c.one_analysis.ensures.len rows order perm assembly len is in
    let inside = c.pattern_of_rows.ensures.within rows pattern in
    let inside_order : IsWithin (length order) joined = subst (λ m. IsWithin m joined) (sym len) inside in
    let inside_perm : IsWithin (length perm) joined = subst (λ m. IsWithin m joined) (sym perm_len) inside in
    let order_is : IsPerm (length order) order = subst (λ m. IsPerm m order) (sym len) is_order in
    let post = postorder_topological joined order adjacency inside_order order_is perm is.postordered in
    let perm_is : IsPerm (length perm) perm = subst (λ m. IsPerm m perm) (len ∙ sym perm_len) post.perm in
    let parents = parents_of (columns rows perm) (length perm) in
    let all : length parents ≡ length perm = length-map-range_with_len (parent_of (columns rows perm) (length perm)) 1 (length perm) in
    let m = merged c.amalgamation_is_assembly.ensures c.amalgamation_is_relaxed.ensures zeros assembly parents
    (c.one_analysis.ensures.tree rows order perm assembly pattern len is) is.supernodes.len
    (λ j some. subst (λ n. parent_at parents j ≤ n) (sym all) (rises joined perm adjacency inside_perm perm_is j some).1)
    (supernodes_followed parents (counts_of (columns rows perm) (length perm)) assembly is.supernodes) in
    topological_on joined order adjacency inside_order order_is perm (vertices_along perm (relaxed zeros assembly) fronts) post
    (along_fronts joined perm adjacency inside_perm perm_is (relaxed zeros assembly) m.0 (m.1 ∙ all) m.2 fronts fronts_order)
