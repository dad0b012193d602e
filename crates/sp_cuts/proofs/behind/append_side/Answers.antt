use Rattle.std.proofs.Common.{length, arith}
use Rattle.sp_cuts.proofs.Appended.{appending_starts, appending_first, appending_on, counted_joined}
use Rattle.sp_cuts.proofs.behind.append_side.Goals as goal

pub loop-seg-init : goal.loop-seg-init
loop-seg-init g c = record { appending = appending_starts c.all.ensures _ _ _ c.requires.far c.requires.near c.requires.net }

pub append-requires-clause-rope : goal.append-requires-clause-rope
append-requires-clause-rope g c = (appending_first c.all.ensures _ _ _ _ _ _ _ _ c.loop-seg.invariant.appending c.in-Some.ensures.first.0).0

pub append-requires-clause-net : goal.append-requires-clause-net
append-requires-clause-net g c = (appending_first c.all.ensures _ _ _ _ _ _ _ _ c.loop-seg.invariant.appending c.in-Some.ensures.first.0).1

pub loop-seg-preserved : goal.loop-seg-preserved
loop-seg-preserved g c = record {
  appending = appending_on c.all.ensures _ _ _ _ _ _ _ _ c.loop-seg.invariant.appending c.in-Some.ensures.first.0 _ _
      (let u = c.in-Some.ensures.first.1 in let l = c.last_up.ensures.value in omega arith)
      c.in_ok-append.ensures.kept c.in_ok-append.ensures.ropes
      c.in_ok-append.ensures.segments c.in_ok-append.ensures.net;
}

pub returns-clause-counted : goal.returns-clause-counted
returns-clause-counted g c =
    counted_joined (length c.args.near.now) (length c.loop-seg.near) (length c.take_first_within.new.self)
    (length c.join_sides.new.near) _ _ c.loop-seg.invariant.appending.long c.loop-seg.invariant.appending.short
    c.in_ok-join_sides.ensures.length c.in_ok-join_sides.ensures.counted
