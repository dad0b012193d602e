use Rattle.c_calls.proofs.Lengths.{amounts_long}
use Rattle.c_calls.proofs.replays.spill_of.Goals as goal

pub returns-clause-long : goal.returns-clause-long
returns-clause-long c =
    amounts_long c.in_ok-system.system c.args.nodes.now c.in_ok-spill.spill.amounts.items c.args.room c.in_ok-system.ensures.system
    c.in_ok-check_room.ensures.room c.in_ok-spill.ensures.least.len
