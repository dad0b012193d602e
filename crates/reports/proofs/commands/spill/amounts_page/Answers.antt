use Rattle.std.proofs.Common.{◌∙◌, ℕ, List, [], ◌∷◌, ◌++◌, ap, map, length, decimal, codes}
use Rattle.mp_text.specs.Report.{line_text, text_of_lines}
use Rattle.reports.specs.Spill.{spilled_items, amount_line}
use Rattle.judging.specs.declared.status.Status.TheVariants as status
use Rattle.judging.proofs.PageLemmas.{page-lines}
use Rattle.reports.proofs.commands.spill.amounts_page.Goals as goal

pub returns : goal.returns
returns c =
    let amounts = c.args.spill.now.amounts.items in
    let volume = codes "volume" ∷ decimal c.args.spill.now.volume ∷ [] in
    let items = λ (given : List ℕ). codes "items" ∷ decimal (length (spilled_items given)) ∷ [] in
    let lines = λ (given : List ℕ). map amount_line (spilled_items given) in
    let counted = ap (λ (n : ℕ). c.print_count.new.report ++ line_text (codes "items" ∷ decimal n ∷ [])) c.spilled_count.ensures in
    ap (λ (text : List ℕ). record { status = status.Done; text = text })
    (page-lines c.printed_lines.ensures.more volume (items amounts) (codes "end" ∷ []) (lines amounts)
    c.print_count.new.report c.print_count-2.new.report c.print_amounts.new.report c.print_end.new.report
    (c.in_ok-print_count.ensures.text ∙ ap (λ (text : List ℕ). text ++ line_text volume) c.new-report.ensures)
    (c.in_ok-print_count-2.ensures.text ∙ counted
    ∙ ap (λ (given : List ℕ). c.print_count.new.report ++ line_text (items given)) c.deref.ensures.value)
    (c.in_ok-print_amounts.ensures.text
    ∙ ap (λ (given : List ℕ). c.print_count-2.new.report ++ text_of_lines (lines given)) c.deref-2.ensures.value)
    c.in_ok-print_end.ensures)
