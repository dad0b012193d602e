use Rattle.std.proofs.Common.{◌++◌, ◌<◌, length, arith}
use Rattle.equivalent_orders.proofs.Listing.{next_vertex}
use Rattle.equivalent_orders.proofs.columns.push_vertices.Goals as goal

pub push-requires-clause-vertex : goal.push-requires-clause-vertex
push-requires-clause-vertex c =
    let lt : c.loop-vertex.vertex-index < length c.args.vertices.now =
    omega (arith, c.loop-vertex-test.true, c.loop-vertex.auto.vertex-index-end) in
    let next = next_vertex c.args.order.now.n c.loop-vertex.order.numbers c.args.vertices.now
    (c.args.order.now.numbers ++ c.args.vertices.now) c.loop-vertex.vertex-index lt c.loop-vertex.invariant.0 c.requires in
    let same = c.loop-vertex.invariant.1 in
    let low = next.0.0 in
    let high = next.0.1 in
    (omega arith, omega arith)

pub push-requires-clause-fresh : goal.push-requires-clause-fresh
push-requires-clause-fresh c =
    let lt : c.loop-vertex.vertex-index < length c.args.vertices.now =
    omega (arith, c.loop-vertex-test.true, c.loop-vertex.auto.vertex-index-end) in
    (next_vertex c.args.order.now.n c.loop-vertex.order.numbers c.args.vertices.now
    (c.args.order.now.numbers ++ c.args.vertices.now) c.loop-vertex.vertex-index lt c.loop-vertex.invariant.0 c.requires).1
