use Rattle.std.proofs.Common.{◌∙◌, ap, arith}
use Rattle.hill_valley.specs.Numbers.{segments_listed}
use Rattle.plan_claims.proofs.Handed.{between_there, starts_fit, share_fits, hill_is, handed_forward, handed_backward, lifted}
use Rattle.plan_claims.proofs.Loops.{segments_take, segments_drop, segments_length}
use Rattle.plan_claims.proofs.handing.series_wants.Goals as goal

pub split_at-requires : goal.split_at-requires
split_at-requires c = let t = between_there c.requires.ready.0 c.args.task.now c.requires.ready.1 c.args.note.now _ c.requires.ready.2 in
    omega (arith, segments_length c.args.gone.now)

pub overflow_add-hill : goal.overflow_add-hill
overflow_add-hill c = let h =
    starts_fit c.below.ensures c.requires.ready.0 c.args.task.now c.requires.ready.1 c.args.note.now _ c.requires.ready.2 in
    omega arith

pub overflow_add-hill-in-Some : goal.overflow_add-hill-in-Some
overflow_add-hill-in-Some c = let h =
    starts_fit c.below.ensures c.requires.ready.0 c.args.task.now c.requires.ready.1 c.args.note.now _ c.requires.ready.2 in
    omega arith

pub overflow_sub-hill : goal.overflow_sub-hill
overflow_sub-hill c = let h =
    share_fits c.below.ensures c.requires.ready.0 c.args.task.now c.requires.ready.1 c.args.note.now _ c.requires.ready.2 in
    omega arith

pub returns-then-note : goal.returns-then-note
returns-then-note c a b ready shows =
    lifted _ c.args.wanted c.in-Some.wanted _ c.in-Some.is
    (handed_backward c.below.ensures a c.args.task.now b c.args.note.now (segments_listed c.args.gone.now) ready c.in-Some.wanted _
    (hill_is c.below.ensures a c.args.task.now b c.args.note.now (segments_listed c.args.gone.now) ready)
    (segments_listed c.split_at.result.0.now) (segments_listed c.split_at.result.1.now)
    (ap segments_listed c.split_at.ensures.front ∙ segments_take c.args.note.now.between c.args.gone.now)
    (ap segments_listed c.split_at.ensures.back ∙ segments_drop c.args.note.now.between c.args.gone.now)
    _ _ c.if-note.true c.near_and_far-near.ensures) shows

pub returns-else-note : goal.returns-else-note
returns-else-note c a b ready shows =
    lifted _ c.args.wanted c.in-Some.wanted _ c.in-Some.is
    (handed_forward c.below.ensures a c.args.task.now b c.args.note.now (segments_listed c.args.gone.now) ready c.in-Some.wanted _
    (hill_is c.below.ensures a c.args.task.now b c.args.note.now (segments_listed c.args.gone.now) ready)
    (segments_listed c.split_at.result.0.now) (segments_listed c.split_at.result.1.now)
    (ap segments_listed c.split_at.ensures.front ∙ segments_take c.args.note.now.between c.args.gone.now)
    (ap segments_listed c.split_at.ensures.back ∙ segments_drop c.args.note.now.between c.args.gone.now)
    _ _ c.if-note.false c.near_and_far-near.ensures) shows
