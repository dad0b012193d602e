use Rattle.std.proofs.Common.{◌<◌, length, take, drop, arith, sym, ◌∙◌}
use Rattle.std.proofs.lemmas.Grind.{get_or_default_zero}
use Rattle.std.proofs.lemmas.List.{length-take}
use Rattle.min_tree.proofs.Trees.{least_at_root}
use Rattle.min_tree.proofs.tree.MinTree.least.Goals as goal

pub returns : goal.returns
returns c =
    let f = c.self.inside in
    let some : 0 < length (take f.count (drop f.leaves f.nodes.items)) = rw (← c.self.view_is) at c.requires in
    let l = least_at_root f.depth f.leaves f.count f.nodes.items c.self.invariant some in
    let len = c.self.invariant.len in
    let enough = c.self.invariant.enough in
    let short = length-take f.count (drop f.leaves f.nodes.items) in
    let read = c.index.ensures ∙ get_or_default_zero f.nodes.items 1 c.index.result.now (omega arith) in
    rw (← c.self.view_is) (l.0, l.1, l.2 ∙ sym read)
