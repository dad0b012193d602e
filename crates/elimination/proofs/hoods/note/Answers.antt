use Rattle.elimination.proofs.Visits.{visit_marked, visit_new}
use Rattle.elimination.proofs.hoods.note.Goals as goal

pub returns-in_ok-push : goal.returns-in_ok-push
returns-in_ok-push c = λ n u turn rep t left. rw c.in_ok-push.ensures.items
    (visit_new n u turn rep c.args.b c.args.near.now.items c.args.seen.now t left c.if-not-seen-b.true c.requires)

pub returns-else-not-seen-b : goal.returns-else-not-seen-b
returns-else-not-seen-b c = λ n u turn rep t left. visit_marked n u turn rep c.args.b c.args.near.now.items c.args.seen.now t left
    c.if-not-seen-b.false
