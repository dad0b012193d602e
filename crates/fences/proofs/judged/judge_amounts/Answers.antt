use Rattle.std.proofs.Common.{sym, subst}
use Rattle.fences.specs.Workers.{BoundsRunsBeside}
use Rattle.fences.proofs.Accepting.{handed}
use Rattle.fences.proofs.judged.judge_amounts.Goals as goal

pub bound_of-requires-clause-amounts : goal.bound_of-requires-clause-amounts
bound_of-requires-clause-amounts c = handed c.args.system.now c.args.amounts.now c.in_ok-judge.ensures

pub returns-clause-handed_on : goal.returns-clause-handed_on
returns-clause-handed_on c = handed c.args.system.now c.args.amounts.now c.in_ok-judge.ensures

pub returns-clause-runs : goal.returns-clause-runs
returns-clause-runs c =
    let amounts = handed c.args.system.now c.args.amounts.now c.in_ok-judge.ensures in
    let runs = c.workers_law.ensures.run c.args.system.now c.args.room c.args.amounts.now c.keeps.ensures.items amounts in
    subst (BoundsRunsBeside c.args.system.now c.args.room) (sym c.in_ok-bound.ensures) runs
