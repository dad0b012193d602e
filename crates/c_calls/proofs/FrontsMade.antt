-- An analysis, merged and laid out, has the fronts of the definition.
use Rattle.std.proofs.Common.{◌≡◌, ◌∙◌, ℕ, suc, Bool, ◌+◌, ◌-◌, ◌≤◌, All, Option, Some, None}
use Rattle.std.proofs.Common.{List, [], ◌∷◌, length, get_or, sym, ap, subst, arith}
use Rattle.std.specs.List.{sum_by}
use Rattle.std.proofs.lemmas.List.{length-map}
use Rattle.std.proofs.lemmas.List.Elements.{All-from_get_or}
use Rattle.std.proofs.lemmas.List.FromFn.{length-map-range_with_len}
use Rattle.std.proofs.lemmas.List.Sums.{sum_by-cons}
use Rattle.ordering.specs.Fill.{parent_of, parents_of, counts_of}
use Rattle.assembly_tree.specs.Amalgamation.{amalgamated}
use Rattle.assembly_tree.specs.declared.assembly.Super.{Super}
use Rattle.assembly_tree.specs.declared.front.Shape.{Shape}
use Rattle.assembly_tree.specs.Assembly.{AssemblyTree, IsAssembly, columns_in, no_super}
use Rattle.assembly_tree.specs.Fronts.{front_at, nodes_of_fronts}
use Rattle.assembly_tree.specs.Relaxation.{IsRelaxed, number_among}
use Rattle.assembly_tree.specs.Supernodes.{AreSupernodes}
use Rattle.symbolic.specs.FrontTree.{columns, relaxed, IsAnalysis}
use Rattle.symbolic.specs.declared.options.FrontOptions.{FrontOptions}
use Rattle.trees.specs.declared.node.Node.{Node}
use Rattle.c_calls.specs.Fronts.{HaveFronts, fronts_of_columns}

-- merging leaves as many columns as there are
pub relaxed_long : ((zeros : ℕ) (a : AssemblyTree) → IsAssembly a → IsRelaxed zeros a (amalgamated zeros a))
    → (zeros : Option ℕ) (a merged : AssemblyTree) → IsAssembly a → merged ≡ relaxed zeros a → length merged.nodes ≡ length a.nodes
relaxed_long law None a merged is same = ap (λ (x : AssemblyTree). length x.nodes) same
relaxed_long law (Some zeros) a merged is same =
    let r = law zeros a is in
    ap (λ (x : AssemblyTree). length x.nodes) same ∙ ap length r.nodes
    ∙ length-map a.nodes (λ (s : ℕ). number_among r.goes (r.home s))

-- as many columns as the order has
pub columns_long : (rows : List (List ℕ)) (perm parents counts : List ℕ) (a : AssemblyTree)
    → parents ≡ parents_of (columns rows perm) (length perm) → AreSupernodes parents counts a → length perm ≡ length a.nodes
columns_long rows perm parents counts a tree supernodes =
    sym (supernodes.len ∙ ap length tree ∙ length-map-range_with_len (parent_of (columns rows perm) (length perm)) 1 (length perm))

-- ---- there are at most as many fronts as columns

pub relaxed_assembly : ((zeros : ℕ) (a : AssemblyTree) → IsAssembly a → IsAssembly (amalgamated zeros a))
    → (zeros : Option ℕ) (a merged : AssemblyTree) → IsAssembly a → merged ≡ relaxed zeros a → IsAssembly merged
relaxed_assembly law None a merged is same = subst IsAssembly (sym same) is
relaxed_assembly law (Some zeros) a merged is same = subst IsAssembly (sym same) (law zeros a is)

one_each : (supers : List Super) → All (λ x. 1 ≤ x.columns) supers → length supers ≤ sum_by columns_in supers
one_each [] some = omega arith
one_each (x ∷ supers) some =
    let first : 1 ≤ x.columns = some 0 x (omega arith) in
    omega (arith, first, sum_by-cons columns_in x supers, one_each supers (λ i d inside. some (suc i) d (omega arith)))

each_some : (a : AssemblyTree) → IsAssembly a → All (λ x. 1 ≤ x.columns) a.supers
each_some a is =
    All-from_get_or (λ x. 1 ≤ x.columns) a.supers no_super (λ i inside.
    let at : i + 1 - 1 ≡ i = omega arith in
    subst (λ (k : ℕ). 1 ≤ (get_or a.supers k no_super).columns) at (is.each (i + 1) (omega arith, omega arith)).some)

pub few_fronts : (shape : Shape) (inplace : Bool) (a : AssemblyTree) (nodes : List Node) → IsAssembly a
    → nodes ≡ nodes_of_fronts shape inplace a.supers → length nodes ≤ length a.nodes
few_fronts shape inplace a nodes is are =
    let long = ap length are ∙ length-map-range_with_len (front_at shape inplace a.supers) 1 (length a.supers) in
    omega (arith, long, one_each a.supers (each_some a is), is.total)

pub made : (options : FrontOptions) (rows : List (List ℕ)) (order perm : List ℕ)
    (assembly merged : AssemblyTree) (nodes : List Node) (fronts : List ℕ)
    → IsAnalysis rows order perm assembly → length perm ≡ length order → merged ≡ relaxed options.zeros assembly
    → nodes ≡ nodes_of_fronts options.shape options.inplace merged.supers → fronts ≡ fronts_of_columns merged perm
    → HaveFronts options rows order perm nodes fronts
made options rows order perm assembly merged nodes fronts is len is_merged is_nodes is_fronts =
    let along = λ (p : List ℕ) (n : ℕ). AreSupernodes (parents_of (columns rows p) n) (counts_of (columns rows p) n) assembly in
    let nodes_are = is_nodes ∙ ap (λ (a : AssemblyTree). nodes_of_fronts options.shape options.inplace a.supers) is_merged in
    record {
      tree = record {
        post = is.postordered.post;
        postorder = is.postordered.postorder;
        assembly = assembly;
        supernodes = subst (λ (p : List ℕ). along p (length order)) is.postordered.along (subst (along perm) len is.supernodes);
        fronts = nodes_are;
      };
      assembly = assembly;
      analysis = is;
      nodes_are = nodes_are;
      fronts_are = is_fronts ∙ ap (λ (a : AssemblyTree). fronts_of_columns a perm) is_merged;
    }
