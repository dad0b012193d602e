use Rattle.std.proofs.Common.{◌≡◌, ◌∙◌, ◌↔◌, ℕ, List, ap, sym, subst, IfOk, IfErr}
use Rattle.std.proofs.lemmas.Result.{IfOk-weaker, IfErr-weaker}
use Rattle.mp_system.specs.Memory.{peak_of}
use Rattle.mp_system.specs.Refusal.{IsOrderRefusal}
use Rattle.mp_system.specs.System.{TaskSystem}
use Rattle.mp_system.specs.Traversal.{IsTraversal, first_fault}
use Rattle.mp_system.specs.declared.order.ReplayRefusal.{ReplayRefusal}
use Rattle.mp_system.specs.declared.order.ReplayRefusal.TheVariants.{Order, NoMemory}
use Rattle.least_peak.specs.Problem.{system_of}
use Rattle.shared_systems.specs.Shared.{SharedTaskSystem}
use Rattle.shared_systems.specs.SharedMemory.{shared_peak_of}
use Rattle.shared_systems.specs.SharedTraversal.{IsSharedTraversal, IsSharedOrderRefusal, first_shared_fault}
use Rattle.shared_systems.specs.OneReader.{shared_of}
use Rattle.judging.specs.Judged.{system_of_tasks}
use Rattle.judging.proofs.inputs.Tasks.replay.Goals as goal

-- a list that is refused is refused alike
refused_alike : (system : TaskSystem) (order : List ℕ) → first_shared_fault (shared_of system) order ≡ first_fault system order
    → IsSharedTraversal (shared_of system) order ↔ IsTraversal system order
    → (refusal : ReplayRefusal) → IsOrderRefusal system order refusal → IsSharedOrderRefusal (shared_of system) order refusal
refused_alike system order fault same (Order f) is = (fault ∙ is.0, λ traversal. is.1 (same.0 traversal))
refused_alike system order fault same NoMemory is = tt

pub returns-in-Problem-clause-peak : goal.returns-in-Problem-clause-peak
returns-in-Problem-clause-peak c =
    let law = c.one_reader_law.ensures in
    let order = c.args.order.now in
    let system = system_of c.in-Problem.problem in
    subst (λ (s : SharedTaskSystem). IfOk c.replay.result (λ peak. IsSharedTraversal s order × (peak ≡ shared_peak_of s order)))
    (sym (ap system_of_tasks c.in-Problem.is))
    (IfOk-weaker c.replay.result (λ peak. IsTraversal system order × (peak ≡ peak_of system order))
    (λ peak. IsSharedTraversal (shared_of system) order × (peak ≡ shared_peak_of (shared_of system) order))
    (λ peak is. ((law.traversal system order).1 is.0, is.1 ∙ sym (law.peak system order))) c.replay.ensures.peak)

pub returns-in-Problem-clause-fault : goal.returns-in-Problem-clause-fault
returns-in-Problem-clause-fault c =
    let law = c.one_reader_law.ensures in
    let order = c.args.order.now in
    let system = system_of c.in-Problem.problem in
    subst (λ (s : SharedTaskSystem). IfErr c.replay.result (IsSharedOrderRefusal s order)) (sym (ap system_of_tasks c.in-Problem.is))
    (IfErr-weaker c.replay.result (IsOrderRefusal system order) (IsSharedOrderRefusal (shared_of system) order)
    (refused_alike system order (law.fault system order) (law.traversal system order)) c.replay.ensures.fault)
