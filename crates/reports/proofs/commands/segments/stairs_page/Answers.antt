use Rattle.std.proofs.Common.{◌≡◌, ◌∙◌, ◌++◌, ◌∷◌, [], List, ℕ, ap, length, codes, decimal, arith}
use Rattle.std.specs.List.{flat_map}
use Rattle.mp_text.specs.Report.{line_text}
use Rattle.sp_cuts.specs.Stairs.{all_of}
use Rattle.reports.specs.Segments.{row_lines, report_rows}
use Rattle.judging.specs.declared.status.Status.TheVariants as status
use Rattle.reports.proofs.StairPages.{framed_lines, length-rows}
use Rattle.reports.proofs.commands.segments.stairs_page.Goals as goal

pub returns : goal.returns
returns c =
    let ps = c.args.numbered.now.terms in
    let all = all_of c.args.stairs.now in
    let numbered = c.args.numbered.now.positions.items in
    let rows = report_rows ps all numbered in
    let many : c.len.result ≡ length rows = omega (arith, c.len.ensures, length-rows ps all numbered) in
    let first = λ (n : ℕ). codes "segments" ∷ decimal n ∷ [] in
    ap (λ (text : List ℕ). record { status = status.Done; text = text })
    (framed_lines c.printed_lines.ensures.more (first (length rows)) (codes "end" ∷ []) (flat_map row_lines rows)
    c.print_count.new.report c.print_rows.new.report c.print_end.new.report
    (c.in_ok-print_count.ensures.text ∙ ap (λ (text : List ℕ). text ++ line_text (first c.len.result)) c.new-report.ensures
    ∙ ap (λ (n : ℕ). line_text (first n)) many)
    c.in_ok-print_rows.ensures.text c.in_ok-print_end.ensures)
