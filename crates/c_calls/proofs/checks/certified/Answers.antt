use Rattle.c_calls.proofs.Lengths.{plan_long}
use Rattle.c_calls.proofs.checks.certified.Goals as goal

pub returns-clause-long : goal.returns-clause-long
returns-clause-long c =
    plan_long c.of_tree-problem.result c.in_ok-tree.tree c.args.nodes.now c.in_ok-plan.plan.order c.args.room c.of_tree-problem.ensures
    c.in_ok-tree.ensures.tree c.in_ok-check_room.ensures.room (c.traversal_law.ensures.long _ _ c.in_ok-plan.ensures.best.traversal)
