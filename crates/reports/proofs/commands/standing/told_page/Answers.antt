use Rattle.std.proofs.Common.{sym, subst}
use Rattle.std.proofs.lemmas.Result.{IfOk-weaker}
use Rattle.fence_files.specs.Printed.{IsWord}
use Rattle.judging.specs.Pages.{answer_of}
use Rattle.reports.proofs.StandingLemmas.{standing_told}
use Rattle.reports.proofs.commands.standing.told_page.Goals as goal

pub returns : goal.returns
returns c =
    let word = subst IsWord (sym c.requires.bound) c.ranges.bound.fits in
    IfOk-weaker c.certificate_page.result _ _
    (λ page told. standing_told c.certified_fences.ensures c.printed_fences.ensures c.args.system.now c.args.workers c.args.certificate.now
    (answer_of page) c.keeps.ensures word c.requires.workers c.requires.stands told) c.certificate_page.ensures
