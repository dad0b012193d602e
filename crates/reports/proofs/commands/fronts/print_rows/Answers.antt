use Rattle.std.proofs.Common.{◌∙◌, ◌++◌, ◌<◌, ◌≤◌, ap, map, length, arith}
use Rattle.std.proofs.lemmas.List.{take_all}
use Rattle.mp_text.specs.Report.{text_of_lines}
use Rattle.reports.specs.Fronts.{number_line}
use Rattle.reports.proofs.FrontLemmas.{one_line_more}
use Rattle.reports.proofs.commands.fronts.print_rows.Goals as goal

pub loop-s-preserved : goal.loop-s-preserved
loop-s-preserved c =
    let rows = c.args.fronts.now.rows in
    let lt : c.loop-s.s < length rows = omega (arith, c.loop-s-test.true, c.len-s-end.ensures) in
    record {
      text = one_line_more c.printed_lines.ensures.more rows c.loop-s.s lt c.args.report.now c.loop-s.report c.print_list.new.report
          c.rows.result.now c.loop-s.invariant.text c.rows.ensures c.in_ok-print_list.ensures.text;
      start = c.in_ok-print_list.ensures.start;
    }

pub returns-clause-text : goal.returns-clause-text
returns-clause-text c =
    let rows = c.args.fronts.now.rows in
    let end : length rows ≤ c.loop-s.s = omega (arith, c.loop-s-test.false, c.len-s-end.ensures) in
    c.loop-s.invariant.text ∙ ap (λ ls. c.args.report.now ++ text_of_lines (map number_line ls)) (take_all c.loop-s.s rows end)
