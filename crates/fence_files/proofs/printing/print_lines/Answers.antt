use Rattle.std.proofs.lemmas.Result.{on_err_weaker}
use Rattle.fence_files.proofs.PrintingLemmas.{kept}
use Rattle.fence_files.proofs.printing.print_lines.Goals as goal

pub returns-clause-err : goal.returns-clause-err
returns-clause-err c =
    on_err_weaker c.print_body.result (kept c.args.report.now _ c.print_header.new.report c.print_body.new.report c.in_ok-print_header.ensures.ok)
    c.print_body.ensures.err
