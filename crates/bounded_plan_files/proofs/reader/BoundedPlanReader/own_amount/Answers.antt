use Rattle.std.proofs.Common.{◌≡◌, rules}
use Rattle.std.proofs.lemmas.Result.{err_from_is_err_and}
use Rattle.mp_text.specs.Ahead.{row}
use Rattle.mp_text.specs.ReadingLaws.{Fails-tested}
use Rattle.bounded_plan_files.specs.BoundedPlanFile.{amount_tests, amount_on}
use Rattle.bounded_plan_files.proofs.reader.BoundedPlanReader.own_amount.Goals as goal

pub returns-in_err-amount : goal.returns-in_err-amount
returns-in_err-amount c =
    let p = err_from_is_err_and c.from_residual.result c.from_residual.ensures.1 in
    let r = row c.args.line.number c.args.line.text.now in
    let same : c.deref.result.now ≡ c.self.inside.own.items = search rules in
    let fails = rw same at c.in_err-amount.ensures in
    rw (← c.self.view_is, p.1, p.2)
    (Fails-tested (amount_tests c.self.inside.own.items r) (amount_on r) _ c.in_err-amount.field-0.0 fails)
