use Rattle.std.proofs.Common.{IfOk, subst}
use Rattle.shared_systems.specs.Shared.{SharedTaskSystem}
use Rattle.judging.specs.Pages.{answer_of}
use Rattle.reports.specs.PlannedFence.{IsPlannedFenceAnswer}
use Rattle.reports.proofs.commands.planned_fence.planned_page.Goals as goal

pub returns : goal.returns
returns c =
    subst (λ (s : SharedTaskSystem). IfOk c.own_page.result (λ page. IsPlannedFenceAnswer s
    (record { bound = c.args.bound; workers = c.args.workers; fewest = c.args.fewest }) (answer_of page))) c.in_ok-system.ensures c.own_page.ensures
