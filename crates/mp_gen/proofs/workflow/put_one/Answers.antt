use Rattle.std.proofs.Common.{List, arith}
use Rattle.sp_terms.specs.declared.position.Position.{Position}
use Rattle.mp_gen.specs.Room.{HasRoomFor}
use Rattle.mp_gen.proofs.RoomLemmas.{StandsWith, first, less, data-room, task-room}
use Rattle.mp_gen.proofs.workflow.put_one.Goals as goal

pub put_task-requires-clause-room : goal.put_task-requires-clause-room
put_task-requires-clause-room c =
    let before = data-room c.args.builder.now c.args.dice.now 2 1 1000 c.requires in
    first (λ (ps : List Position). HasRoomFor ps 1 1 1000) _ _ _ c.in_ok-put_data.ensures
    (less _ _ _ _ _ _ _ before.room (omega arith) (omega arith) (omega arith))

pub put_task-requires-clause-two : goal.put_task-requires-clause-two
put_task-requires-clause-two c =
    let before = data-room c.args.builder.now c.args.dice.now 2 1 1000 c.requires in
    (first (λ (ps : List Position). StandsWith ps 2 1 1000 2) _ _ _ c.in_ok-put_data.ensures before).some

pub put_par-requires : goal.put_par-requires
put_par-requires c =
    let before = data-room c.args.builder.now c.args.dice.now 2 1 1000 c.requires in
    let ready = first (λ (ps : List Position). StandsWith ps 2 1 1000 2) _ _ _ c.in_ok-put_data.ensures before in
    first (λ (ps : List Position). HasRoomFor ps 1 0 0) _ _ _ c.in_ok-put_task.ensures
    (task-room c.put_data.new.builder c.put_data.new.dice 1 0 0 ready.room ready.some).room
