use Rattle.std.proofs.Common.{◌≡◌, ◌≤◌, ℕ, leb, List, length, sym, ap, ◌∙◌, subst}
use Rattle.std.specs.List.{filter}
use Rattle.mp_system.specs.declared.system.Task.{Task}
use Rattle.mp_system.specs.Memory.{peak_of}
use Rattle.shared_systems.specs.SharedMemory.{shared_peak_of}
use Rattle.shared_systems.specs.SharedTraversal.{IsSharedTraversal}
use Rattle.shared_systems.specs.Collected.{collected, dropped}
use Rattle.shared_systems.proofs.system.SharedSystem.dropped.Goals as goal
use Rattle.shared_systems.proofs.system.SharedSystem.dropped.Goals.{In_ok-kept}

kept_is : (c : In_ok-kept) → c.in_ok-kept.kept.items ≡ dropped c.args.self.now c.args.order.now
kept_is c = c.in_ok-kept.ensures ∙ ap (λ (l : List Task). filter (λ v. leb v (length l)) c.args.order.now) c.tasks.ensures.value

pub returns-clause-traversal : goal.returns-clause-traversal
returns-clause-traversal c = λ traversal.
    subst (IsSharedTraversal c.args.self.now) (sym (kept_is c))
    (c.dropping_law.ensures.traversal c.args.self.now c.args.order.now c.tasks.ensures.system traversal)

pub returns-clause-peak : goal.returns-clause-peak
returns-clause-peak c = λ traversal.
    subst (λ (l : List ℕ). shared_peak_of c.args.self.now l ≤ peak_of (collected c.args.self.now) c.args.order.now) (sym (kept_is c))
    (c.dropping_law.ensures.peak c.args.self.now c.args.order.now c.tasks.ensures.system traversal)
