use Rattle.std.proofs.Common.{subst}
use Rattle.std.proofs.lemmas.Result.{err_from_is_err_and}
use Rattle.mp_system.specs.System.{TaskSystem}
use Rattle.fences.specs.Orders.{IsOrderFault}
use Rattle.fences.proofs.Refusals.{by_order}
use Rattle.fences.proofs.fenced.judge_order.Goals as goal

pub returns-in_err-order_of : goal.returns-in_err-order_of
returns-in_err-order_of c =
    let p = err_from_is_err_and c.from_residual.result c.from_residual.ensures.1 in
    let fault = c.in_err-order_of.field-0.0 in
    let stops = subst (λ (s : TaskSystem). IsOrderFault s fault) c.requires.fenced c.in_err-order_of.ensures in
    rw (p.1, p.2) (λ amounts bound. by_order c.args.system.now c.args.fences.now amounts bound c.requires.fences fault stops)
