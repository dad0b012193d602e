use Rattle.std.proofs.Common.{arith}
use Rattle.hill_valley.proofs.Joins.{parts_added, get_added, room_added, kept_added, count_added}
use Rattle.hill_valley.proofs.ropes.Ropes.add.Goals as goal

pub invariant_of-self-2 : goal.invariant_of-self-2
invariant_of-self-2 c = rw c.in_ok-push.ensures.items
    (parts_added c.self.inside.joins.items c.args.self.now c.args.join c.self.view_is c.self.invariant c.requires)

pub returns-clause-list : goal.returns-clause-list
returns-clause-list c =
    rw c.in_ok-push.ensures.items (get_added c.self.inside.joins.items c.args.self.now c.args.join c.self.view_is c.in-Ok.at (omega arith))

pub returns-clause-rope : goal.returns-clause-rope
returns-clause-rope c = rw c.in_ok-push.ensures.items
    (room_added c.self.inside.joins.items c.args.self.now c.args.join c.self.view_is c.in-Ok.at (omega arith))

pub returns-clause-kept : goal.returns-clause-kept
returns-clause-kept c = rw c.in_ok-push.ensures.items (kept_added c.self.inside.joins.items c.args.self.now c.args.join c.self.view_is)

pub returns-clause-one_more : goal.returns-clause-one_more
returns-clause-one_more c = rw c.in_ok-push.ensures.items (count_added c.self.inside.joins.items c.args.self.now c.args.join c.self.view_is)
