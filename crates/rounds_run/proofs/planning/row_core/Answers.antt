use Rattle.std.proofs.Common.{sym, subst}
use Rattle.mp_system.specs.Traversal.{IsTraversal}
use Rattle.shared_systems.specs.OneReader.{shared_of}
use Rattle.shared_systems.proofs.SameSystems.{from_own}
use Rattle.activation.specs.Refusal.{IsCoreRefusal}
use Rattle.rounds_run.proofs.planning.row_core.Goals as goal

pub unreachable-requires : goal.unreachable-requires
unreachable-requires c =
    let refused = subst (IsCoreRefusal (shared_of c.in_ok-system.system) c.args.order.now c.args.bound)
    c.in-Err-Order.field-0-is c.in-Err-Order.ensures.refused in
    refused.1 (from_own c.in_ok-system.system c.args.order.now
    (subst (λ s. IsTraversal s c.args.order.now) (sym c.in_ok-system.ensures) c.requires.traversal))
