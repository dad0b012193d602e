use Rattle.std.proofs.Common.{◌∙◌, ◌++◌, ◌<◌, ◌≤◌, ap, map, length, arith}
use Rattle.std.proofs.lemmas.List.{take_all}
use Rattle.mp_text.specs.Report.{text_of_lines}
use Rattle.reports.specs.Fronts.{number_line}
use Rattle.reports.proofs.FrontLemmas.{one_line_more}
use Rattle.reports.proofs.commands.fronts.print_rounds.Goals as goal

pub loop-r-preserved : goal.loop-r-preserved
loop-r-preserved c =
    let rounds = c.args.fronts.now.rounds in
    let lt : c.loop-r.r < length rounds = omega (arith, c.loop-r-test.true, c.rounds-r-end.ensures) in
    record {
      text = one_line_more c.printed_lines.ensures.more rounds c.loop-r.r lt c.args.report.now c.loop-r.report c.print_list.new.report
          c.round.result.now c.loop-r.invariant.text c.round.ensures c.in_ok-print_list.ensures.text;
      start = c.in_ok-print_list.ensures.start;
    }

pub returns-clause-text : goal.returns-clause-text
returns-clause-text c =
    let rounds = c.args.fronts.now.rounds in
    let end : length rounds ≤ c.loop-r.r = omega (arith, c.loop-r-test.false, c.rounds-r-end.ensures) in
    c.loop-r.invariant.text ∙ ap (λ ls. c.args.report.now ++ text_of_lines (map number_line ls)) (take_all c.loop-r.r rounds end)
