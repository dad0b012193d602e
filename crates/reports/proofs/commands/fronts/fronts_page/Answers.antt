use Rattle.std.proofs.Common.{◌∙◌, ℕ, List, [], ◌∷◌, ◌++◌, ap, map, length, codes}
use Rattle.mp_text.specs.Report.{line_text}
use Rattle.reports.specs.Fronts.{counted, number_line}
use Rattle.judging.specs.declared.status.Status.TheVariants as status
use Rattle.reports.proofs.FrontLemmas.{fronts-lines}
use Rattle.reports.proofs.commands.fronts.fronts_page.Goals as goal

pub returns : goal.returns
returns c =
    let fronts = c.args.fronts.now in
    let one = λ (n : ℕ). line_text (counted (codes "fronts") n) in
    let two = λ (n : ℕ). c.print_count.new.report ++ line_text (counted (codes "rounds") n) in
    let three = λ (n : ℕ). c.print_count-2.new.report ++ line_text (counted (codes "used") n) in
    ap (λ (text : List ℕ). record { status = status.Done; text = text })
    (fronts-lines c.printed_lines.ensures.more c.printed_lines.ensures.parts (counted (codes "fronts") (length fronts.rows))
    (counted (codes "rounds") (length fronts.rounds)) (counted (codes "used") fronts.used) (codes "end" ∷ [])
    (map number_line fronts.rounds) (map number_line fronts.rows)
    c.print_count.new.report c.print_count-2.new.report c.print_count-3.new.report
    c.print_rounds.new.report c.print_rows.new.report c.print_end.new.report
    (c.in_ok-print_count.ensures.text ∙ ap (λ (text : List ℕ). text ++ one c.from.result) c.new-report.ensures
    ∙ ap one (c.from.ensures ∙ c.len.ensures))
    (c.in_ok-print_count-2.ensures.text ∙ ap two (c.from-2.ensures ∙ c.rounds.ensures))
    (c.in_ok-print_count-3.ensures.text ∙ ap three c.used.ensures)
    c.in_ok-print_rounds.ensures.text c.in_ok-print_rows.ensures.text c.in_ok-print_end.ensures)
