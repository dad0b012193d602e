use Rattle.std.proofs.Common.{◌≡◌, ◌∙◌, ◌++◌, List, ℕ, ap, sym, subst, length, arith}
use Rattle.std.specs.Bool.{IsTrue}
use Rattle.mp_text.specs.Report.{is_line_start, text_of_lines}
use Rattle.reports.proofs.GapLemmas.{lines_before, lines_of_all, printed, skipped}
use Rattle.reports.proofs.commands.gap_report.print_gaps.Goals as goal
use Rattle.reports.proofs.commands.gap_report.print_gaps.Goals.{then-amount-gt0+in_ok-print_gap, else-amount-gt0}

pub loop-place-preserved : goal.loop-place-preserved
loop-place-preserved c =
    let names = c.args.names.now in
    let amounts = c.args.amounts.now in
    let place = c.loop-place.place in
    let start = c.args.report.now in
    let was = c.loop-place.invariant in
    elim c.if-amount-gt0.branch [
      | then-amount-gt0+in_ok-print_gap w ↦ record {
        text = w.report-is ∙ printed names amounts c.requires.len c.printed_lines.ensures.more place c.loop-place-test.true w.if-amount-gt0.true start
            c.loop-place.report w.print_gap.new.report was.text w.in_ok-print_gap.ensures.text;
        start = subst (λ (r : List ℕ). IsTrue (is_line_start r)) (sym w.report-is) w.in_ok-print_gap.ensures.start;
      }
      | else-amount-gt0 w ↦ record {
        text = w.report-is ∙ was.text
            ∙ ap (λ ls. start ++ text_of_lines ls)
            (sym (skipped names amounts c.requires.len place c.loop-place-test.true w.if-amount-gt0.false));
        start = subst (λ (r : List ℕ). IsTrue (is_line_start r)) (sym w.report-is) was.start;
      }
    ]

pub returns-clause-text : goal.returns-clause-text
returns-clause-text c =
    let names = c.args.names.now in
    let amounts = c.args.amounts.now in
    let all : c.loop-place.place ≡ length amounts = omega (arith, c.loop-place.auto.place-end, c.loop-place-test.false) in
    c.loop-place.invariant.text ∙ ap (λ i. c.args.report.now ++ text_of_lines (lines_before names amounts i)) all
    ∙ ap (λ ls. c.args.report.now ++ text_of_lines ls) (lines_of_all names amounts c.requires.len)
