use Rattle.std.proofs.lemmas.Result.{err_from_is_err_and}
use Rattle.fences.proofs.RelievedFences.{refusal_kept}
use Rattle.fences.proofs.fenced.judge_fences.Goals as goal

pub returns-in_err-fenced-clause-refused : goal.returns-in_err-fenced-clause-refused
returns-in_err-fenced-clause-refused c =
    let p = err_from_is_err_and c.from_residual.result c.from_residual.ensures.1 in
    let refusal = c.in_err-fenced.field-0.0 in
    let kept = refusal_kept c.args.system.now c.args.room c.args.fences.now refusal c.in_err-fenced.ensures c.args.amounts.now c.args.bound in
    rw (p.1, p.2) kept
