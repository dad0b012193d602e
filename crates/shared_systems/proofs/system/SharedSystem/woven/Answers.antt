use Rattle.std.proofs.Common.{sym, subst}
use Rattle.mp_system.specs.Traversal.{IsTraversal}
use Rattle.shared_systems.specs.Collected.{collected}
use Rattle.shared_systems.proofs.system.SharedSystem.woven.Goals as goal

pub returns-clause-traversal : goal.returns-clause-traversal
returns-clause-traversal c = λ traversal.
    subst (IsTraversal (collected c.args.self.now)) (sym c.in_ok-mixed.ensures)
    (c.weaving_law.ensures.traversal c.args.self.now c.args.order.now c.tasks.ensures.system traversal)
