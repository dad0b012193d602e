use Rattle.std.proofs.Common.{◌∙◌}
use Rattle.hill_valley.proofs.Opening.{top_below, turn}
use Rattle.hill_valley.proofs.ropes.list_from.Goals as goal

pub open_piece-requires : goal.open_piece-requires
open_piece-requires c = record { piece = top_below _ _ _ _ c.loop-top.invariant.below c.in-Some.ensures.items }

pub loop-top-smaller : goal.loop-top-smaller
loop-top-smaller c =
    let t = turn _ _ _ _ _ _ _ c.requires.parts c.loop-top.invariant.below
    c.in-Some.ensures.items c.in_ok-open_piece.ensures.list c.in_ok-open_piece.ensures.todo in
    t.lighter

pub loop-top-preserved : goal.loop-top-preserved
loop-top-preserved c =
    let t = turn _ _ _ _ _ _ _ c.requires.parts c.loop-top.invariant.below
    c.in-Some.ensures.items c.in_ok-open_piece.ensures.list c.in_ok-open_piece.ensures.todo in
    record { told = t.told ∙ c.loop-top.invariant.told; below = t.below }
