use Rattle.c_calls.proofs.SharedPlans.{order_long, planned}
use Rattle.c_calls.proofs.shared_plans.plan_of.Goals as goal

pub returns-clause-planned : goal.returns-clause-planned
returns-clause-planned c =
    planned c.args.tasks.now c.args.items.now c.args.readers.now c.args.start.now c.in_ok-plan.plan c.in_ok-system.system
    c.in_ok-system.ensures.system c.in_ok-system.ensures.within c.in_ok-plan.ensures.plan c.in_ok-plan.ensures.below_none
    c.in_ok-plan.ensures.no_worse

pub returns-clause-long : goal.returns-clause-long
returns-clause-long c =
    order_long c.args.tasks.now c.args.items.now c.args.readers.now c.args.start.now c.in_ok-plan.plan c.in_ok-system.system c.args.room
    c.in_ok-system.ensures.system c.in_ok-check_room.ensures.room (c.order_law.ensures.long _ _ c.in_ok-plan.ensures.plan.accepted.traversal)
