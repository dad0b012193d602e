use Rattle.std.proofs.Common.{arith}
use Rattle.activation.proofs.cores.Core.activated.Goals as goal

pub overflow_cast-result : goal.overflow_cast-result
overflow_cast-result c =
    let a = c.self.invariant in
    omega (arith, c.order_law.ensures.long _ _ a.setting.traversal, a.setting.system.few_tasks, a.safe.prefix)
