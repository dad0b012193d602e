use Rattle.std.proofs.Common.{List}
use Rattle.sp_terms.specs.declared.position.Position.{Position}
use Rattle.mp_gen.specs.Room.{HasRoomFor}
use Rattle.mp_gen.proofs.RoomLemmas.{first, hold-room}
use Rattle.mp_gen.proofs.workflow.put_data.Goals as goal

pub put_hold-requires-2 : goal.put_hold-requires-2
put_hold-requires-2 c =
    first (λ (ps : List Position). HasRoomFor ps 1 0 1000) _ _ _ c.in_ok-put_hold.ensures
    (hold-room c.args.builder.now c.draw-is_even.new.dice 1 0 1000 c.requires).room
