use Rattle.std.proofs.Common.{false, get_or}
use Rattle.sp_cuts.specs.declared.notes.PartNote.{PartNote}
use Rattle.plan_claims.proofs.Loops.{any_default, none_ends, none_goes}
use Rattle.plan_claims.proofs.beside.nothing_each.Goals as goal

abbrev none : PartNote
none = record { least = 0; front_up = 0; back_up = 0; read = false; front = 0; back = 0 }

pub loop-part-preserved : goal.loop-part-preserved
loop-part-preserved c = none_goes c.args.parts.now c.loop-part._part-index (get_or c.args.parts.now c.loop-part._part-index none)
    c.loop-part.todo.items c.args.todo.now.items _ c.loop-part.invariant c.loop-part-test.true
    (any_default c.args.parts.now c.loop-part._part-index none c.loop-part-test.true) c.in_ok-push.ensures.items

pub returns : goal.returns
returns c = none_ends c.args.parts.now c.loop-part._part-index c.loop-part.todo.items
    c.args.todo.now.items c.loop-part.invariant c.loop-part-test.false
