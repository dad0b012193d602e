use Rattle.std.proofs.Common.{◌∙◌, ℕ, List, [], ◌∷◌, ◌++◌, ap, sym, map, length, decimal, codes}
use Rattle.mp_text.specs.Report.{line_text, text_of_lines}
use Rattle.reports.specs.Spill.{spilled_items}
use Rattle.reports.specs.SpilledGaps.{spilled_gaps, gap_line, gap_names}
use Rattle.reports.specs.declared.commands.gap_report.GapName.{GapName}
use Rattle.judging.specs.declared.status.Status.TheVariants as status
use Rattle.judging.proofs.PageLemmas.{page-lines}
use Rattle.reports.proofs.GapLemmas.{as_many, long_names}
use Rattle.reports.proofs.commands.gap_report.gaps_page.Goals as goal

pub print_gaps-requires-clause-len : goal.print_gaps-requires-clause-len
print_gaps-requires-clause-len c =
    let system = c.args.system.now in
    ap length c.deref-3.ensures.value ∙ c.requires ∙ sym (long_names 1 system.items)
    ∙ ap length (sym (c.deref-2.ensures.value ∙ c.in_ok-names.ensures))

pub returns : goal.returns
returns c =
    let system = c.args.system.now in
    let amounts = c.args.spill.now.amounts.items in
    let names = gap_names 1 system.items in
    let volume = codes "volume" ∷ decimal c.args.spill.now.volume ∷ [] in
    let count = codes "gaps" ∷ decimal (length (spilled_gaps names amounts)) ∷ [] in
    let lines = λ (ns : List GapName) (given : List ℕ). map gap_line (spilled_gaps ns given) in
    let number = c.spilled_count.ensures ∙ ap (λ (given : List ℕ). length (spilled_items given)) c.deref.ensures.value
    ∙ as_many 1 names amounts (c.requires ∙ sym (long_names 1 system.items)) in
    ap (λ (text : List ℕ). record { status = status.Done; text = text })
    (page-lines c.printed_lines.ensures.more volume count (codes "end" ∷ []) (lines names amounts)
    c.print_count.new.report c.print_count-2.new.report c.print_gaps.new.report c.print_end.new.report
    (c.in_ok-print_count.ensures.text ∙ ap (λ (text : List ℕ). text ++ line_text volume) c.new-report.ensures)
    (c.in_ok-print_count-2.ensures.text
    ∙ ap (λ (n : ℕ). c.print_count.new.report ++ line_text (codes "gaps" ∷ decimal n ∷ [])) number)
    (c.in_ok-print_gaps.ensures.text
    ∙ ap (λ (given : List ℕ). c.print_count-2.new.report ++ text_of_lines (lines c.deref-2.result.now given)) c.deref-3.ensures.value
    ∙ ap (λ (ns : List GapName). c.print_count-2.new.report ++ text_of_lines (lines ns amounts)) (c.deref-2.ensures.value ∙ c.in_ok-names.ensures))
    c.in_ok-print_end.ensures)
