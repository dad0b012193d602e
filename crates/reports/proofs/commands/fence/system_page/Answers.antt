use Rattle.std.proofs.lemmas.Result.{IfOk-weaker}
use Rattle.reports.proofs.FenceLemmas.{fence_told}
use Rattle.judging.specs.Pages.{answer_of}
use Rattle.reports.proofs.commands.fence.system_page.Goals as goal

pub returns-in-Ok : goal.returns-in-Ok
returns-in-Ok c =
    IfOk-weaker c.certificate_page.result _ _
    (λ page is. fence_told c.certified_fences.ensures c.printed_fences.ensures c.args.system.now c.args.order.now
    (record { bound = c.args.bound; workers = c.args.workers; fewest = c.args.fewest }) c.in-Ok.certificate (answer_of page) c.keeps.ensures c.ranges.bound.fits
    c.requires c.in-Ok.ensures.along c.in-Ok.ensures.certified c.in-Ok.ensures.asked is) c.certificate_page.ensures
