use Rattle.std.proofs.lemmas.Result.{err_from_is_err_and}
use Rattle.mp_text.specs.Ahead.{row}
use Rattle.mp_text.specs.ReadingLaws.{Fails-tested}
use Rattle.bounded_plan_files.specs.BoundedPlanFile.{blocker_tests, blocker_task, own_stated}
use Rattle.bounded_plan_files.specs.declared.lines.BlockerLine.{BlockerLine}
use Rattle.bounded_plan_files.proofs.reader.BoundedPlanReader.blocker_line.Goals as goal

pub returns-in_err-stated : goal.returns-in_err-stated
returns-in_err-stated c =
    let p = err_from_is_err_and c.from_residual.result c.from_residual.ensures.1 in
    let r = row c.args.line.number c.args.line.text.now in
    let line : BlockerLine = record { task = blocker_task r; own = own_stated r } in
    rw (← c.self.view_is, p.1, p.2)
    (Fails-tested (blocker_tests c.self.inside.uses r) line _ c.in_err-stated.field-0.0 c.in_err-stated.ensures.judged)
