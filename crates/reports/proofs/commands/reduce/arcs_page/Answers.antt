use Rattle.std.proofs.Common.{◌∙◌, ℕ, List, [], ◌∷◌, ◌++◌, ap, map, length}
use Rattle.std.specs.Prelude.{codes, decimal}
use Rattle.mp_text.specs.Report.{line_text}
use Rattle.reports.specs.Reduce.{arc_line}
use Rattle.judging.specs.declared.status.Status.TheVariants as status
use Rattle.reports.proofs.StairPages.{framed_lines}
use Rattle.reports.proofs.commands.reduce.arcs_page.Goals as goal

pub returns : goal.returns
returns c =
    let arcs = c.args.arcs.now in
    let first = codes "refused" ∷ codes "graph" ∷ c.args.kind.now ∷ decimal (length arcs) ∷ [] in
    ap (λ (text : List ℕ). record { status = status.NotSeriesParallel; text = text })
    (framed_lines c.printed_lines.ensures.more first (codes "end" ∷ [])
    (map arc_line arcs) c.line.new.self c.print_arcs.new.report c.print_end.new.report
    (c.in_ok-line.ensures.ok ∙ ap (λ (text : List ℕ). text ++ line_text first) c.new-report.ensures)
    c.in_ok-print_arcs.ensures.text c.in_ok-print_end.ensures)
