use Rattle.std.proofs.Common.{ℕ, List}
use Rattle.std.proofs.lemmas.Result.{err_from_is_err_and}
use Rattle.mp_system.specs.declared.order.ReplayRefusal.{ReplayRefusal}
use Rattle.mp_system.specs.declared.order.ReplayRefusal.TheVariants.{Order, NoMemory}
use Rattle.shared_systems.specs.Shared.{SharedTaskSystem}
use Rattle.shared_systems.specs.SharedTraversal.{IsSharedOrderRefusal}
use Rattle.activation.specs.Refusal.{IsCoreRefusal, same_refusal}
use Rattle.activation.proofs.cores.Core.new.Goals as goal

order_refused : (system : SharedTaskSystem) (order : List ℕ) (bound : ℕ) (r : ReplayRefusal)
    → IsSharedOrderRefusal system order r → IsCoreRefusal system order bound (same_refusal r)
order_refused system order bound (Order fault) h = h
order_refused system order bound NoMemory h = tt

pub returns-in_err-peak-clause-refused : goal.returns-in_err-peak-clause-refused
returns-in_err-peak-clause-refused c =
    let p = err_from_is_err_and c.from_residual.result c.from_residual.ensures.1 in
    rw (p.1, p.2) (order_refused c.args.system.now c.args.order.now c.args.bound _ c.in_err-peak.ensures.fault)
