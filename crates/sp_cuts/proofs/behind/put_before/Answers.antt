use Rattle.std.proofs.Common.{length, arith}
use Rattle.sp_cuts.proofs.Appended.{appending_starts, before_first, before_on, before_put, counted_first}
use Rattle.sp_cuts.proofs.behind.put_before.Goals as goal

pub loop-seg-init : goal.loop-seg-init
loop-seg-init g c = record {
  appending = appending_starts c.all.ensures _ _ _ c.requires.far (c.requires.rope, tt) (let n = c.requires.net in omega arith);
}

pub overflow_add-net : goal.overflow_add-net
overflow_add-net g c =
    let w = (before_first c.all.ensures _ _ _ _ _ _ _ _ c.loop-seg.invariant.appending c.in-Some.ensures.first.0).2 in omega arith

pub join-requires : goal.join-requires
join-requires g c =
    let w = before_first c.all.ensures _ _ _ _ _ _ _ _ c.loop-seg.invariant.appending c.in-Some.ensures.first.0 in
    record { a = w.0; b = w.1 }

pub loop-seg-preserved : goal.loop-seg-preserved
loop-seg-preserved g c = record {
  appending = before_on c.all.ensures _ _ _ _ _ _ _ _ c.loop-seg.invariant.appending c.in-Some.ensures.first.0 _ _
      c.in-Some.ensures.first.1 c.in_ok-tasks.ensures.kept c.in_ok-tasks.ensures.rope c.in_ok-tasks.ensures.list;
}

pub returns-clause-segments : goal.returns-clause-segments
returns-clause-segments g c =
    (before_put c.all.ensures _ _ _ _ _ _ _ _ _ c.loop-seg.invariant.appending c.in_default.ensures.first.0
    c.in_default.ensures.first.1 c.keeps.ensures.2 c.in_ok-insert.ensures.segments).0

pub returns-clause-counted : goal.returns-clause-counted
returns-clause-counted g c =
    counted_first (length c.take_first_within.new.self) _ _ _
    (before_put c.all.ensures _ _ _ _ _ _ _ _ _ c.loop-seg.invariant.appending c.in_default.ensures.first.0
    c.in_default.ensures.first.1 c.keeps.ensures.2 c.in_ok-insert.ensures.segments).1 c.count_first.ensures
