use Rattle.std.proofs.Common.{◌≡◌, ◌∙◌, ℕ, List, length, map, sym, ap, subst, arith}
use Rattle.std.proofs.lemmas.List.{length-map}
use Rattle.std.proofs.lemmas.List.FromFn.{length-map-range_with_len}
use Rattle.patterns.specs.Pattern.{is_joined}
use Rattle.permutations.specs.Perm.{vertex_at}
use Rattle.ordering.specs.Fill.{parent_of, parents_of, counts_of}
use Rattle.elim_tree.specs.Postorders.{IsPostordered}
use Rattle.assembly_tree.specs.Supernodes.{AreSupernodes}
use Rattle.symbolic.specs.FrontTree.{columns}
use Rattle.symbolic.proofs.laws.one_analysis.Goals as goal

long : (rows : List (List ℕ)) (order perm : List ℕ) → IsPostordered (is_joined rows) order perm → length perm ≡ length order
long rows order perm p =
    ap length p.along ∙ length-map p.post (vertex_at order) ∙ p.postorder.perm.len
    ∙ length-map-range_with_len (parent_of (columns rows order) (length order)) 1 (length order)

pub returns-clause-len : goal.returns-clause-len
returns-clause-len c = λ rows order perm assembly len is. long rows order perm is.postordered ∙ len

pub returns-clause-order : goal.returns-clause-order
returns-clause-order c = λ rows order one two first second pattern len a b.
    let n = length order in
    let tree = parents_of (columns rows order) n in
    let forest = c.tree_is_forest.ensures (columns rows order) n (omega (arith, pattern.some, len)) (omega (arith, pattern.few, len)) in
    let post = c.one_postorder.ensures tree a.postordered.post b.postordered.post forest a.postordered.postorder b.postordered.postorder in
    a.postordered.along ∙ ap (map (vertex_at order)) post ∙ sym b.postordered.along

pub returns-clause-supernodes : goal.returns-clause-supernodes
returns-clause-supernodes c = λ rows order one two first second pattern len a b.
    let n = length order in
    let tree = parents_of (columns rows order) n in
    let forest = c.tree_is_forest.ensures (columns rows order) n (omega (arith, pattern.some, len)) (omega (arith, pattern.few, len)) in
    let post = c.one_postorder.ensures tree a.postordered.post b.postordered.post forest a.postordered.postorder b.postordered.postorder in
    let same : one ≡ two = a.postordered.along ∙ ap (map (vertex_at order)) post ∙ sym b.postordered.along in
    let parents = λ (p : List ℕ). parents_of (columns rows p) (length p) in
    let counts = λ (p : List ℕ). counts_of (columns rows p) (length p) in
    let other = subst (λ (p : List ℕ). AreSupernodes (parents p) (counts p) second) (sym same) b.supernodes in
    c.one_list_of_supernodes.ensures (parents one) (counts one) first second a.supernodes other

pub returns-clause-tree : goal.returns-clause-tree
returns-clause-tree c = λ rows order perm assembly pattern len is.
    let n = length perm in
    let joined = columns rows perm in
    let all : n ≡ length rows = long rows order perm is.postordered ∙ len in
    let forest = c.tree_is_forest.ensures joined n (omega (arith, pattern.some, all)) (omega (arith, pattern.few, all)) in
    let inside = c.renumbered_pattern.ensures.within rows perm pattern in
    let counts = c.counts_of_fill.ensures joined n (c.renumbered_pattern.ensures.pattern rows perm pattern) inside in
    c.supernodes_are_assembly.ensures (parents_of joined n) (counts_of joined n) assembly forest counts is.supernodes
