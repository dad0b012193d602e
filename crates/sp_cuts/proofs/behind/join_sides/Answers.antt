use Rattle.std.proofs.Common.{sym}
use Rattle.sp_cuts.proofs.Appended.{near_moved, far_moved, joined_all}
use Rattle.sp_cuts.proofs.behind.join_sides.Goals as goal

pub returns-in_ok-move_all-clause-segments : goal.returns-in_ok-move_all-clause-segments
returns-in_ok-move_all-clause-segments g c =
    near_moved c.all.ensures c.args.ropes.now c.move_all.new.ropes c.args.far c.args.near.now c.move_all.new.into
    c.keeps.ensures.2 c.keeps-2.ensures.2 c.requires.higher
    (rw (sym c.replace-lower.ensures.value, sym c.replace-lower.ensures.after) c.in_ok-move_all.ensures.segments)

pub returns-in_ok-move_all-2-clause-segments : goal.returns-in_ok-move_all-2-clause-segments
returns-in_ok-move_all-2-clause-segments g c =
    far_moved c.all.ensures _ _ _ _ _ c.keeps.ensures.2 c.keeps-2.ensures.2 c.requires.higher c.in_ok-move_all-2.ensures.segments

pub returns-in_ok-move_all-clause-length : goal.returns-in_ok-move_all-clause-length
returns-in_ok-move_all-clause-length g c =
    joined_all c.all.ensures c.args.ropes.now c.move_all.new.ropes c.args.far c.args.near.now c.move_all.new.into c.keeps.ensures.2 c.keeps-2.ensures.2 c.requires.higher (returns-in_ok-move_all-clause-segments g c)

pub returns-in_ok-move_all-2-clause-length : goal.returns-in_ok-move_all-2-clause-length
returns-in_ok-move_all-2-clause-length g c = joined_all c.all.ensures _ _ _ _ _ c.keeps.ensures.2 c.keeps-2.ensures.2 c.requires.higher
    (returns-in_ok-move_all-2-clause-segments g c)
