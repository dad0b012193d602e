use Rattle.std.proofs.Common.{length, inr, ap, ◌∙◌}
use Rattle.std.proofs.lemmas.Result.{IfOk-weaker}
use Rattle.symbolic.specs.FrontTree.{columns}
use Rattle.reports.specs.Fronts.{fronts_answer}
use Rattle.reports.proofs.FrontLemmas.{are_front_lists}
use Rattle.reports.proofs.commands.fronts.made_page.Goals as goal

pub returns-in-Ok : goal.returns-in-Ok
returns-in-Ok g c =
    let rows = c.args.read.now.pattern in
    let perm = c.in_ok-analysis.analysis.numbered.perm in
    let assembly = c.in_ok-analysis.analysis.assembly in
    let fronts = c.in-Ok.fronts in
    IfOk-weaker c.fronts_page.result _ _ (λ page printed. (
      perm,
      assembly,
      c.in_ok-analysis.ensures.analysis,
      inr (
        fronts.rounds,
        fronts.used,
        c.in-Ok.ensures.fits,
        c.in-Ok.ensures.rounds,
        printed ∙ ap (fronts_answer fronts.rounds fronts.used)
            (are_front_lists (columns rows perm) (length perm) assembly.supers fronts.rows c.in-Ok.ensures.len c.in-Ok.ensures.rows),
      ),
    )) c.fronts_page.ensures
