use Rattle.std.proofs.Common.{◌≡◌, ◌∙◌, ℕ, Option, Some, None, length, map, sym, subst, arith}
use Rattle.std.proofs.lemmas.List.{length-map}
use Rattle.std.proofs.lemmas.List.FromFn.{length-map-range_with_len}
use Rattle.permutations.specs.Perm.{vertex_at}
use Rattle.ordering.specs.Fill.{parent_of, parents_of, counts_of}
use Rattle.elim_tree.specs.Paths.{IsWithin}
use Rattle.assembly_tree.specs.Amalgamation.{amalgamated}
use Rattle.assembly_tree.specs.Assembly.{AssemblyTree, IsAssembly}
use Rattle.trees.specs.Tree.{IsTree}
use Rattle.symbolic.specs.FrontTree.{columns, relaxed}
use Rattle.symbolic.proofs.laws.front_tree_is_tree.Goals as goal

relaxed_assembly : ((zeros : ℕ) (a : AssemblyTree) → IsAssembly a → IsAssembly (amalgamated zeros a))
    → (zeros : Option ℕ) (a : AssemblyTree) → IsAssembly a → IsAssembly (relaxed zeros a)
relaxed_assembly kept None a is = is
relaxed_assembly kept (Some zeros) a is = kept zeros a is

pub returns : goal.returns
returns c = λ options rows order nodes pattern len a.
    let n = length order in
    let perm = map (vertex_at order) a.post in
    let joined = columns rows perm in
    let forest = c.tree_is_forest.ensures joined n (omega (arith, pattern.some, len)) (omega (arith, pattern.few, len)) in
    let new_length : length perm ≡ n =
    length-map a.post (vertex_at order) ∙ a.postorder.perm.len ∙ length-map-range_with_len (parent_of (columns rows order) n) 1 n
    in
    let inside = subst (λ (k : ℕ). IsWithin k joined) new_length (c.renumbered_pattern.ensures.within rows perm pattern) in
    let counts = c.counts_of_fill.ensures joined n (c.renumbered_pattern.ensures.pattern rows perm pattern) inside in
    let assembly = c.supernodes_are_assembly.ensures (parents_of joined n) (counts_of joined n) a.assembly forest counts a.supernodes in
    let merged = relaxed_assembly c.amalgamation_is_assembly.ensures options.zeros a.assembly assembly in
    subst IsTree (sym a.fronts) (c.fronts_are_tree.ensures options.shape options.inplace (relaxed options.zeros a.assembly) merged)
