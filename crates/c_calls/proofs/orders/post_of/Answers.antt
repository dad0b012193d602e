use Rattle.c_calls.proofs.Lengths.{order_long}
use Rattle.c_calls.proofs.orders.post_of.Goals as goal

pub returns-clause-long : goal.returns-clause-long
returns-clause-long c =
    order_long c.in_ok-tree.tree c.args.nodes.now c.in_ok-post.post.order.items c.args.room c.in_ok-tree.ensures.tree
    c.in_ok-check_room.ensures.room (c.traversal_law.ensures.long _ _ c.in_ok-post.ensures.postorder.traversal)
