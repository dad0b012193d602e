use Rattle.sp_cuts.proofs.Reached.{is_last, steps_are}
use Rattle.sp_cuts.proofs.reaching.last_stairs.Goals as goal

pub steps-requires-clause-room : goal.steps-requires-clause-room
steps-requires-clause-room c = (c.requires.room _
    (is_last c.args.parts.now _ c.requires.some c.index-parts-parts.is)).front

pub steps-requires-clause-level : goal.steps-requires-clause-level
steps-requires-clause-level c = (c.requires.room _
    (is_last c.args.parts.now _ c.requires.some c.index-parts-parts.is)).initial

pub steps-requires-2-clause-room : goal.steps-requires-2-clause-room
steps-requires-2-clause-room c = (c.requires.room _
    (is_last c.args.parts.now _ c.requires.some c.index-parts-parts.is)).back

pub steps-requires-2-clause-level : goal.steps-requires-2-clause-level
steps-requires-2-clause-level c = (c.requires.room _
    (is_last c.args.parts.now _ c.requires.some c.index-parts-parts.is)).fin

pub returns : goal.returns
returns c p last =
    steps_are c.args.parts.now c.index-parts-parts.result p
    (record { front = c.in_ok-front.front.items; back = c.in_ok-back.back.items })
    (is_last c.args.parts.now _ c.requires.some c.index-parts-parts.is) last
    c.in_ok-front.ensures.steps c.in_ok-back.ensures.steps
