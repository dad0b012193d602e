use Rattle.std.proofs.Common.{◌≡◌, ◌∙◌, ◌+◌, ◌<◌, ℕ, List, [], ◌∷◌, ◌++◌, length, take, get_or, sym, ap, arith, decimal}
use Rattle.std.proofs.lemmas.List.{take_more, map-append}
use Rattle.mp_text.specs.Report.{line_text, text_of_lines}
use Rattle.reports.specs.Columns.{perm_lines}
use Rattle.reports.proofs.ColumnLemmas.{vertex_next}
use Rattle.reports.proofs.commands.columns.print_order.Goals as goal

pub loop-place-preserved : goal.loop-place-preserved
loop-place-preserved c =
    let order = c.args.order.now in
    let start = c.args.report.now in
    let i = c.loop-place.place in
    let lt : i < length order = omega (arith, c.loop-place-test.true, c.len-place-end.ensures.value) in
    let vertex : c.from.result ≡ get_or order i 0 = c.from.ensures ∙ c.at.ensures.value ∙ vertex_next order i in
    let lines : perm_lines (take (i + 1) order) ≡ perm_lines (take i order) ++ (decimal (get_or order i 0) ∷ []) ∷ [] =
    ap perm_lines (take_more order i 0 lt) ∙ map-append (λ (v : ℕ). decimal v ∷ []) (take i order) (get_or order i 0 ∷ []) in
    record {
      text = c.in_ok-line.ensures.ok
          ∙ ap (λ (v : ℕ). c.loop-place.report ++ line_text (decimal v ∷ [])) vertex
          ∙ ap (λ (text : List ℕ). text ++ line_text (decimal (get_or order i 0) ∷ [])) c.loop-place.invariant.text
          ∙ c.printed_lines.ensures.more start (perm_lines (take i order)) (decimal (get_or order i 0) ∷ [])
          ∙ ap (λ (ls : List (List (List ℕ))). start ++ text_of_lines ls) (sym lines);
      start = c.in_ok-line.ensures.start;
    }
