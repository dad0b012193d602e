use Rattle.std.proofs.lemmas.Result.{on_err_weaker}
use Rattle.fence_files.proofs.PrintingLemmas.{kept}
use Rattle.fence_files.proofs.printing.print_body.Goals as goal

pub returns-clause-err : goal.returns-clause-err
returns-clause-err c =
    on_err_weaker c.print_told.result (kept c.args.report.now _ c.print_section.new.report c.print_told.new.report c.in_ok-print_section.ensures.ok)
    c.print_told.ensures.err
