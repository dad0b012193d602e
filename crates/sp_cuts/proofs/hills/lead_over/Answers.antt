use Rattle.std.proofs.Common.{◌+◌, ◌≤◌, length, arith, ◌∙◌}
use Rattle.hill_valley.specs.Side.{runs_of}
use Rattle.sp_cuts.proofs.Appended.{length_runs, longer, counted_over}
use Rattle.sp_cuts.proofs.Crossed.{over_told}
use Rattle.sp_cuts.proofs.Counts.{one_longer}
use Rattle.sp_cuts.proofs.hills.lead_over.Goals as goal

pub append-requires-clause-ropes : goal.append-requires-clause-ropes
append-requires-clause-ropes g c = (c.all.ensures.runs.stay _ _ _ c.requires.near c.go_above.ensures.kept).0

pub append_side-requires-clause-far : goal.append_side-requires-clause-far
append_side-requires-clause-far g c = (c.all.ensures.runs.stay _ _ _ c.in_ok-over.ensures.far c.append.ensures.kept).0

pub append_side-requires-clause-net : goal.append_side-requires-clause-net
append_side-requires-clause-net g c = let n = c.in_ok-append.ensures.net in
    let r = c.requires.net in
    let room = c.in_ok-over.ensures.room in
    let low = c.in_ok-over.ensures.low in
    omega arith

pub returns-clause-segments : goal.returns-clause-segments
returns-clause-segments g c =
    c.in_ok-append_side.ensures.segments
    ∙ over_told c.all.ensures _ _ _ _ _ _ _ _ _ _ _ _ _ _ c.requires.near c.go_above.ensures.kept
    c.in_ok-over.ensures.far c.append.ensures.kept c.in_ok-over.ensures.crossing c.in_ok-append.ensures.segments

pub returns-in_err-append_side-clause-steps : goal.returns-in_err-append_side-clause-steps
returns-in_err-append_side-clause-steps g c =
    let f = c.append_side.ensures.far_steps in
    let n = c.append_side.ensures.near_steps in
    let w = c.in_ok-over.ensures.fewer in
    let one : length (runs_of c.append.new.ropes c.append.new.self) ≤ length (runs_of c.go_above.new.ropes c.args.near.now) + 1 =
    one_longer _ _ _ c.in_ok-append.ensures.segments in
    omega (arith, length_runs c.append.new.ropes c.append.new.self, length_runs c.go_above.new.ropes c.args.near.now)

pub returns-clause-steps : goal.returns-clause-steps
returns-clause-steps g c =
    let f = c.append_side.ensures.far_steps in
    let n = c.append_side.ensures.near_steps in
    let w = c.in_ok-over.ensures.fewer in
    let one : length (runs_of c.append.new.ropes c.append.new.self) ≤ length (runs_of c.go_above.new.ropes c.args.near.now) + 1 =
    one_longer _ _ _ c.in_ok-append.ensures.segments in
    omega (arith, length_runs c.append.new.ropes c.append.new.self, length_runs c.go_above.new.ropes c.args.near.now)

pub returns-clause-counted : goal.returns-clause-counted
returns-clause-counted g c =
    let one : length (runs_of c.append.new.ropes c.append.new.self) ≤ length (runs_of c.go_above.new.ropes c.args.near.now) + 1 =
    one_longer _ _ _ c.in_ok-append.ensures.segments in
    let more : (length (runs_of c.go_above.new.ropes c.args.near.now) ≤ length (runs_of c.append.new.ropes c.append.new.self))
    × (1 ≤ length (runs_of c.append.new.ropes c.append.new.self)) = longer _ _ _ c.in_ok-append.ensures.segments in
    let own = length_runs c.append.new.ropes c.append.new.self in
    let near = length_runs c.go_above.new.ropes c.args.near.now in
    counted_over (length c.args.near.now) (length c.append.new.self) (length c.append_side.new.near) _ _ (omega (arith, more.0))
    (omega arith) (omega (arith, more.1)) c.in_ok-append_side.ensures.counted
