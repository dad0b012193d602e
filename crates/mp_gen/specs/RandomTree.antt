-- Random trees, node by node. A draw gives what is drawn, and the generator for the next one.
use Rattle.std.specs.Prelude.{ℕ, zero, suc, ◌+◌, ◌-◌, min, nat_lt, if◌then◌else◌, List, [], ◌∷◌, ◌++◌}
use Rattle.rand_pcg.specs.Lcg.{Lcg}
use Rattle.trees.specs.declared.node.Node.{Node}
use Rattle.mp_gen.specs.Dice.{dice_of, draw}

-- the parent of node i of n: one of the next eight, or of the fewer that there are; the last node has none, and takes no word
unfoldable pub draw_parent : ℕ → ℕ → Lcg → ℕ × Lcg
draw_parent n i dice =
    if nat_lt i n
    then (let (steps, left) = draw (min (n - i) 8) dice in (i + 1 + steps, left))
    else (0, dice)

-- node i of n: its parent, its out, its extra and its time, drawn in this order; it has no share
unfoldable pub draw_node : ℕ → ℕ → Lcg → Node × Lcg
draw_node n i dice =
    let (parent, after_parent) = draw_parent n i dice in
    let (out, after_out) = draw 1000 after_parent in
    let (extra, after_extra) = draw 1000 after_out in
    let (time, left) = draw 16 after_extra in
    (record { parent = parent; out = 1 + out; extra = extra; share = 0; time = 1 + time }, left)

-- the first i nodes of n
unfoldable pub draw_nodes : ℕ → ℕ → Lcg → List Node × Lcg
draw_nodes n zero dice = ([], dice)
draw_nodes n (suc i) dice =
    let (nodes, after_nodes) = draw_nodes n i dice in
    let (node, left) = draw_node n (suc i) after_nodes in
    (nodes ++ node ∷ [], left)

-- the tree of a seed, of n nodes
unfoldable pub tree_of : ℕ → ℕ → List Node
tree_of seed n = (draw_nodes n n (dice_of seed)).0
