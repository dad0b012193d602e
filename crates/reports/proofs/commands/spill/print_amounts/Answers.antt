use Rattle.std.proofs.Common.{◌≡◌, ◌∙◌, ◌++◌, List, ℕ, ap, sym, subst, length, arith}
use Rattle.std.specs.Bool.{IsTrue}
use Rattle.mp_text.specs.Report.{is_line_start, text_of_lines}
use Rattle.reports.proofs.SpillLemmas.{lines_before, lines_of_all, printed, skipped}
use Rattle.reports.proofs.commands.spill.print_amounts.Goals as goal
use Rattle.reports.proofs.commands.spill.print_amounts.Goals.{then-amount-gt0+in_ok-line, else-amount-gt0}

pub loop-place-preserved : goal.loop-place-preserved
loop-place-preserved c =
    let amounts = c.args.amounts.now in
    let place = c.loop-place.place in
    let start = c.args.report.now in
    let was = c.loop-place.invariant in
    elim c.if-amount-gt0.branch [
      | then-amount-gt0+in_ok-line w ↦ record {
        text = w.report-is ∙ printed c.printed_lines.ensures.more amounts place c.loop-place-test.true w.if-amount-gt0.true start
            c.loop-place.report w.line.new.self was.text w.in_ok-line.ensures.ok;
        start = subst (λ (r : List ℕ). IsTrue (is_line_start r)) (sym w.report-is) w.in_ok-line.ensures.start;
      }
      | else-amount-gt0 w ↦ record {
        text = w.report-is ∙ was.text
            ∙ ap (λ ls. start ++ text_of_lines ls) (sym (skipped amounts place c.loop-place-test.true w.if-amount-gt0.false));
        start = subst (λ (r : List ℕ). IsTrue (is_line_start r)) (sym w.report-is) was.start;
      }
    ]

pub returns-clause-text : goal.returns-clause-text
returns-clause-text c =
    let amounts = c.args.amounts.now in
    let all : c.loop-place.place ≡ length amounts = omega (arith, c.loop-place.auto.place-end, c.loop-place-test.false) in
    c.loop-place.invariant.text ∙ ap (λ i. c.args.report.now ++ text_of_lines (lines_before amounts i)) all
    ∙ ap (λ ls. c.args.report.now ++ text_of_lines ls) (lines_of_all amounts)
