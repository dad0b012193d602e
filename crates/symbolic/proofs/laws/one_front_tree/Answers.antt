use Rattle.std.proofs.Common.{◌∙◌, ℕ, List, length, map, sym, ap, subst, arith}
use Rattle.permutations.specs.Perm.{vertex_at}
use Rattle.ordering.specs.Fill.{parents_of, counts_of}
use Rattle.assembly_tree.specs.Assembly.{AssemblyTree}
use Rattle.assembly_tree.specs.Fronts.{nodes_of_fronts}
use Rattle.assembly_tree.specs.Supernodes.{AreSupernodes}
use Rattle.symbolic.specs.FrontTree.{columns, relaxed}
use Rattle.symbolic.proofs.laws.one_front_tree.Goals as goal

pub returns : goal.returns
returns c = λ options rows order one two pattern len a b.
    let n = length order in
    let tree = parents_of (columns rows order) n in
    let forest = c.tree_is_forest.ensures (columns rows order) n (omega (arith, pattern.some, len)) (omega (arith, pattern.few, len)) in
    let post = c.one_postorder.ensures tree a.post b.post forest a.postorder b.postorder in
    let parents = λ (p : List ℕ). parents_of (columns rows (map (vertex_at order) p)) n in
    let counts = λ (p : List ℕ). counts_of (columns rows (map (vertex_at order) p)) n in
    let other = subst (λ (p : List ℕ). AreSupernodes (parents p) (counts p) b.assembly) (sym post) b.supernodes in
    let same = c.one_list_of_supernodes.ensures (parents a.post) (counts a.post) a.assembly b.assembly a.supernodes other in
    a.fronts ∙ ap (λ (x : AssemblyTree). nodes_of_fronts options.shape options.inplace (relaxed options.zeros x).supers) same ∙ sym b.fronts
