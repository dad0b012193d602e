use Rattle.std.proofs.Common.{sym, arith}
use Rattle.std.proofs.lemmas.List.{nil_from_length}
use Rattle.sp_cuts.proofs.Together.{first_moved, second_moved, second_none}
use Rattle.sp_cuts.proofs.beside.merge_two.Goals as goal

pub returns-in_ok-move_all-clause-segments : goal.returns-in_ok-move_all-clause-segments
returns-in_ok-move_all-clause-segments g c =
    first_moved c.all.ensures c.args.ropes.now c.move_all.new.ropes c.args.earlier.now c.args.later c.move_all.new.into
    c.keeps.ensures.2 c.keeps-2.ensures.2
    (rw (sym c.replace-shorter.ensures.value, sym c.replace-shorter.ensures.after) c.in_ok-move_all.ensures.segments)

pub returns-in_ok-move_all-2-clause-segments : goal.returns-in_ok-move_all-2-clause-segments
returns-in_ok-move_all-2-clause-segments g c =
    second_moved c.all.ensures _ _ _ _ _ c.keeps.ensures.2 c.keeps-2.ensures.2 c.in_ok-move_all-2.ensures.segments
