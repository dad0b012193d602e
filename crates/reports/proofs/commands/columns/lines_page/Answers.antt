use Rattle.std.proofs.Common.{◌≡◌, ◌∙◌, ℕ, List, [], ◌∷◌, ◌++◌, sym, ap, map, length, get_or, codes, arith}
use Rattle.std.proofs.lemmas.List.{length-map}
use Rattle.mp_text.specs.Report.{line_text, text_of_lines}
use Rattle.row_table.specs.Rows.{row_at}
use Rattle.assembly_tree.proofs.ListLemmas.{map_agree}
use Rattle.equivalent_orders.specs.Fronts.{vertices_in_front}
use Rattle.reports.specs.Fronts.{counted, number_line}
use Rattle.judging.specs.declared.status.Status.TheVariants as status
use Rattle.reports.proofs.ColumnLemmas.{columns-lines}
use Rattle.reports.proofs.commands.columns.lines_page.Goals as goal

pub returns : goal.returns
returns c =
    let fronts = c.args.fronts.now in
    let row = row_at c.in_ok-vertices.vertices in
    let vertices = vertices_in_front c.args.made.now.perm c.args.made.now.assembly in
    let count = λ (n : ℕ). line_text (counted (codes "columns") n) in
    let same : map row fronts ≡ map vertices fronts =
    map_agree row vertices 0 fronts (λ i lt.
    let high = (c.keeps.ensures.vertices i 0 lt).1 in
    c.in_ok-vertices.ensures.rows (get_or fronts i 0) (omega (arith, high, c.requires.fronts))) in
    ap (λ (text : List ℕ). record { status = status.Done; text = text })
    (columns-lines c.printed_lines.ensures.more (counted (codes "columns") (length (map vertices fronts))) (codes "end" ∷ [])
    (map number_line (map vertices fronts)) c.print_count.new.report c.print_rows.new.report c.print_end.new.report
    (c.in_ok-print_count.ensures.text ∙ ap (λ (text : List ℕ). text ++ count c.from.result) c.new-report.ensures
    ∙ ap count (c.from.ensures ∙ c.len.ensures.value ∙ sym (length-map fronts vertices)))
    (c.in_ok-print_rows.ensures.text
    ∙ ap (λ (lists : List (List ℕ)). c.print_count.new.report ++ text_of_lines (map number_line lists)) same)
    c.in_ok-print_end.ensures)
