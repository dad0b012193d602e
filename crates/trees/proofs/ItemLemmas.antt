-- The items of a tree, one node more at a time.
use Rattle.std.proofs.Common.{◌≡◌, ℕ, ◌+◌, ◌<◌, List, [], ◌∷◌, ◌++◌, length, get_or, take, ap, ◌∙◌, arith}
use Rattle.std.proofs.lemmas.List.{take_more, length-take-le}
use Rattle.trees.specs.declared.node.Node.{Node}
use Rattle.mp_system.specs.declared.system.Item.{Item}
use Rattle.trees.specs.Tree.{item_of_node, items_from}

items_from-push : (v : ℕ) (nodes : List Node) (node : Node)
    → items_from v (nodes ++ node ∷ []) ≡ items_from v nodes ++ item_of_node (v + length nodes) node ∷ []
items_from-push v [] node = let e : v ≡ v + 0 = omega arith in ap (λ (w : ℕ). item_of_node w node ∷ []) e
items_from-push v (x ∷ xs) node =
    let e : v + 1 + length xs ≡ v + length (x ∷ xs) = omega arith in
    ap (λ (is : List Item). item_of_node v x ∷ is)
    (items_from-push (v + 1) xs node ∙ ap (λ (w : ℕ). items_from (v + 1) xs ++ item_of_node w node ∷ []) e)

pub items_from-more : (nodes : List Node) (i : ℕ) (d : Node) → i < length nodes
    → items_from 1 (take (i + 1) nodes) ≡ items_from 1 (take i nodes) ++ item_of_node (i + 1) (get_or nodes i d) ∷ []
items_from-more nodes i d lt =
    let e : 1 + length (take i nodes) ≡ i + 1 = omega (arith, length-take-le i nodes (omega arith)) in
    ap (items_from 1) (take_more nodes i d lt) ∙ items_from-push 1 (take i nodes) (get_or nodes i d)
    ∙ ap (λ (w : ℕ). items_from 1 (take i nodes) ++ item_of_node w (get_or nodes i d) ∷ []) e
