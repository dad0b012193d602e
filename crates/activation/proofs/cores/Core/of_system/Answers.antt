use Rattle.std.proofs.Common.{sym, subst}
use Rattle.shared_systems.specs.Shared.{SharedTaskSystem}
use Rattle.shared_systems.specs.SharedTraversal.{IsSharedTraversal}
use Rattle.activation.proofs.cores.Core.of_system.Goals as goal

pub of_system-requires : goal.of_system-requires
of_system-requires c =
    c.one_reader_system_law.ensures.system c.args.system.now c.args.order.now c.keeps.ensures c.in_ok-peak.ensures.peak.0

pub at_start-requires-clause-traversal : goal.at_start-requires-clause-traversal
at_start-requires-clause-traversal c =
    let order = c.args.order.now in
    subst (λ (s : SharedTaskSystem). IsSharedTraversal s order) (sym c.in_ok-shared.ensures)
    ((c.one_reader_law.ensures.traversal c.args.system.now order).1 c.in_ok-peak.ensures.peak.0)
