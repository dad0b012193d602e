use Rattle.std.proofs.Common.{IfOk, subst}
use Rattle.shared_systems.specs.Shared.{SharedTaskSystem}
use Rattle.reports.specs.CheckFences.{IsFenceCheck}
use Rattle.judging.specs.Pages.{answer_of}
use Rattle.reports.proofs.commands.check_fences.verdict_page.Goals as goal

pub returns : goal.returns
returns c =
    subst (λ (s : SharedTaskSystem). IfOk c.system_page.result (λ page. IsFenceCheck s c.args.certificate.now (answer_of page)))
    c.in_ok-system.ensures c.system_page.ensures
