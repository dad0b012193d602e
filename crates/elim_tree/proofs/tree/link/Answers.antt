use Rattle.std.proofs.Common.{◌<◌, length, arith, set, slice_index}
use Rattle.elim_tree.proofs.Forests.{way_on, way_met, way_end, put_under}
use Rattle.lists.proofs.Lists.{at_other, at_here}
use Rattle.elim_tree.proofs.tree.link.Goals as goal

pub returns-then-next-k : goal.returns-then-next-k
returns-then-next-k c = λ forest can.
    let m = way_met forest.joined can.0 c.args.k c.args.start forest.root (slice_index c.way.parents)
    (slice_index c.way.ancestors) c.way.column (c.way.invariant forest can) c.if-next-k.true in
    (forest.root, m.0, m.1, λ x e. e)

pub returns-then-next-eq0 : goal.returns-then-next-eq0
returns-then-next-eq0 c = λ forest can.
    let way = c.way.invariant forest can in
    let below = way.below in
    let inside_p : c.way.column < length c.way.parents = omega arith in
    let inside_j : c.way.column < length c.way.ancestors = omega arith in
    let m = way_end forest.joined can.0 c.args.k c.args.start forest.root
    (slice_index c.way.parents) (slice_index c.way.ancestors) c.way.column way
    (slice_index (set c.way.parents c.way.column c.args.k)) (slice_index (set c.way.ancestors c.way.column c.args.k))
    (at_here c.way.parents c.way.column c.args.k inside_p) (at_other c.way.parents c.way.column c.args.k)
    (at_here c.way.ancestors c.way.column c.args.k inside_j) (at_other c.way.ancestors c.way.column c.args.k) c.if-next-eq0.true in
    (put_under forest.root c.way.column c.args.k, m.0, m.1, m.2)

pub way-preserved : goal.way-preserved
way-preserved c = λ forest can.
    let way = c.way.invariant forest can in
    let below = way.below in
    let inside_j : c.way.column < length c.way.ancestors = omega arith in
    let pos : 0 < slice_index c.way.ancestors c.way.column = omega arith in
    way_on forest.joined can.0 c.args.k c.args.start forest.root (slice_index c.way.parents) (slice_index c.way.ancestors) c.way.column way
    (slice_index (set c.way.ancestors c.way.column c.args.k))
    (at_here c.way.ancestors c.way.column c.args.k inside_j) (at_other c.way.ancestors c.way.column c.args.k)
    pos c.if-next-k.false
