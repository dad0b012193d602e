use Rattle.std.proofs.Common.{◌≡◌, ◌∙◌, ◌+◌, ◌-◌, ◌<◌, ◌≤◌, ℕ, [], length, map, ap, sym, get_or, arith, ◌++◌}
use Rattle.std.proofs.lemmas.List.{get_or-map, length-map, take_all}
use Rattle.mp_text.specs.Report.{text_of_lines}
use Rattle.row_table.specs.Rows.{row_at}
use Rattle.rounds_run.specs.FrontRows.{list_of_front}
use Rattle.reports.specs.Fronts.{number_line}
use Rattle.reports.proofs.ColumnLemmas.{vertex_next}
use Rattle.reports.proofs.FrontLemmas.{one_line_more}
use Rattle.reports.proofs.commands.columns.print_rows.Goals as goal

pub loop-place-preserved : goal.loop-place-preserved
loop-place-preserved c =
    let fronts = c.args.fronts.now in
    let row = row_at c.args.vertices.now in
    let i = c.loop-place.place in
    let within : i < length fronts = omega (arith, c.loop-place-test.true, c.len-place-end.ensures.value) in
    let lt : i < length (map row fronts) = omega (arith, within, length-map fronts row) in
    let back : i ≡ i + 1 - 1 = omega arith in
    let here : c.row.result.now ≡ list_of_front (map row fronts) (i + 1) =
    c.row.ensures ∙ ap row (c.at.ensures.value ∙ vertex_next fronts i) ∙ sym (get_or-map row fronts i 0 [] within)
    ∙ ap (λ (k : ℕ). get_or (map row fronts) k []) back in
    record {
      text = one_line_more c.printed_lines.ensures.more (map row fronts) i lt c.args.report.now c.loop-place.report c.print_list.new.report
          c.row.result.now c.loop-place.invariant.text here c.in_ok-print_list.ensures.text;
      start = c.in_ok-print_list.ensures.start;
    }

pub returns-clause-text : goal.returns-clause-text
returns-clause-text c =
    let rows = map (row_at c.args.vertices.now) c.args.fronts.now in
    let end : length rows ≤ c.loop-place.place =
    omega (arith, c.loop-place-test.false, c.len-place-end.ensures.value, length-map c.args.fronts.now (row_at c.args.vertices.now)) in
    c.loop-place.invariant.text ∙ ap (λ ls. c.args.report.now ++ text_of_lines (map number_line ls)) (take_all c.loop-place.place rows end)
