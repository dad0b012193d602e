use Rattle.std.proofs.lemmas.Result.{on_ok_weaker}
use Rattle.sp_cuts.proofs.Noted.{hold_noted, many_there, parts_lead_down, par_noted, two_there, two_lead_down, task_noted}
use Rattle.sp_cuts.proofs.noting.note_position.Goals as goal

pub overflow_sub-parts : goal.overflow_sub-parts
overflow_sub-parts c = many_there c.all.ensures c.args.parts.now c.args.position
    c.in-Par.many c.requires.ready.1 c.requires.ready.0 c.in-Par.is c.requires.ready.2

pub note_parts-requires : goal.note_parts-requires
note_parts-requires c =
    let enough = many_there c.all.ensures c.args.parts.now c.args.position c.in-Par.many
    c.requires.ready.1 c.requires.ready.0 c.in-Par.is c.requires.ready.2 in
    parts_lead_down c.all.ensures c.args.parts.now c.in-Par.many enough c.args.position
    c.requires.ready.1 c.requires.ready.0 c.in-Par.is c.requires.ready.2

pub note_series-requires : goal.note_series-requires
note_series-requires c =
    let two = two_there c.all.ensures c.args.parts.now c.args.position _ _ _
    c.requires.ready.1 c.requires.ready.0 c.in-Task.is c.requires.ready.2 in
    let h = two_lead_down c.all.ensures c.args.parts.now _ _ two c.index-parts-second.is c.index-parts-second-in-Task.is
    c.args.position _ _ _ c.requires.ready.1 c.requires.ready.0 c.in-Task.is c.requires.ready.2 in
    record { a = h.0; b = h.1 }

pub returns-in-Hold : goal.returns-in-Hold
returns-in-Hold c = hold_noted c.all.ensures c.args.parts.now c.args.position c.in-Hold.field-0 _ c.in-Hold.is

pub returns-in-Task : goal.returns-in-Task
returns-in-Task c =
    let two = two_there c.all.ensures c.args.parts.now c.args.position _ _ _
    c.requires.ready.1 c.requires.ready.0 c.in-Task.is c.requires.ready.2 in
    on_ok_weaker c.note_series.result
    (task_noted c.all.ensures c.args.parts.now _ _ two c.index-parts-second.is
    c.index-parts-second-in-Task.is c.args.position _ _ _ _ _ c.in-Task.is) c.note_series.ensures

pub returns-in-Par : goal.returns-in-Par
returns-in-Par c =
    let enough = many_there c.all.ensures c.args.parts.now c.args.position c.in-Par.many
    c.requires.ready.1 c.requires.ready.0 c.in-Par.is c.requires.ready.2 in
    on_ok_weaker c.note_parts.result
    (par_noted c.all.ensures c.args.parts.now c.in-Par.many enough c.args.position _ _ c.in-Par.is) c.note_parts.ensures
