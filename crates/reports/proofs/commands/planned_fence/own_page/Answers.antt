use Rattle.std.proofs.Common.{ℕ, List, subst}
use Rattle.std.proofs.lemmas.Result.{IfOk-weaker}
use Rattle.judging.specs.Pages.{answer_of}
use Rattle.reports.specs.Fence.{IsFenceAnswer}
use Rattle.reports.proofs.commands.planned_fence.own_page.Goals as goal

pub returns : goal.returns
returns c =
    IfOk-weaker c.system_page.result _ _ (λ page is. (
      c.in_ok-plan.plan,
      c.in_ok-plan.ensures.plan,
      subst (λ (order : List ℕ). IsFenceAnswer c.args.system.now order (record { bound = c.args.bound; workers = c.args.workers; fewest = c.args.fewest }) (answer_of page))
          c.order.ensures.value is,
    )) c.system_page.ensures
