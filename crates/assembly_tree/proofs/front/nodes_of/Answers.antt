use Rattle.std.proofs.Common.{◌≡◌, ℕ, ◌+◌, ◌-◌, ◌++◌, ◌∷◌, [], List, map, ap, ◌∙◌, sym, arith, get_or}
use Rattle.std.specs.List.{range_with_len}
use Rattle.std.proofs.lemmas.List.FromFn.{map-range_with_len_more}
use Rattle.trees.specs.declared.node.Node.{Node}
use Rattle.assembly_tree.specs.declared.assembly.Super.{Super}
use Rattle.assembly_tree.specs.declared.front.Shape.{Shape}
use Rattle.assembly_tree.specs.Assembly.{no_super, super_at}
use Rattle.assembly_tree.specs.Fronts.{front_node}
use Rattle.assembly_tree.proofs.front.nodes_of.Goals as goal

pushed : (shape : Shape) (supers : List Super) (shares : List ℕ) (nodes more : List Node) (node : Node) (i : ℕ)
    → more ≡ nodes ++ node ∷ [] → node ≡ front_node shape (get_or shares (i + 1) 0) (get_or supers i no_super)
    → nodes ≡ map (λ (s : ℕ). front_node shape (get_or shares s 0) (super_at supers s)) (range_with_len 1 i)
    → more ≡ map (λ (s : ℕ). front_node shape (get_or shares s 0) (super_at supers s)) (range_with_len 1 (i + 1))
pushed shape supers shares nodes more node i is new before =
    let f = λ (s : ℕ). front_node shape (get_or shares s 0) (super_at supers s) in
    let next : 1 + i ≡ i + 1 = omega arith in
    let back : i ≡ i + 1 - 1 = omega arith in
    let here : node ≡ f (i + 1) = new ∙ ap (λ (k : ℕ). front_node shape (get_or shares (i + 1) 0) (get_or supers k no_super)) back in
    is ∙ ap (λ (xs : List Node). xs ++ node ∷ []) before
    ∙ ap (λ (x : Node). map f (range_with_len 1 i) ++ x ∷ []) here ∙ sym (map-range_with_len_more f 1 i (i + 1) next)

pub loop-i-preserved : goal.loop-i-preserved
loop-i-preserved c = pushed c.args.shape c.args.supers.now c.args.shares.now c.loop-i.nodes.items
    c.push.new.self.items c.node.result c.loop-i.i c.in_ok-push.ensures.items c.node.ensures c.loop-i.invariant
