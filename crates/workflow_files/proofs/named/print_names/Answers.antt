use Rattle.std.proofs.Common.{◌≡◌, ◌∙◌, ◌+◌, ◌++◌, List, ℕ, ap, length, arith}
use Rattle.mp_text.specs.Report.{line_text, text_of_lines}
use Rattle.workflow_files.specs.NamedText.{name_line}
use Rattle.workflow_files.proofs.NamedLines.{lines_before, lines_of_all, printed}
use Rattle.workflow_files.proofs.named.print_names.Goals as goal

pub loop-place-preserved : goal.loop-place-preserved
loop-place-preserved c = record {
  text = printed c.printed_lines.ensures.more c.args.names.now c.loop-place.place c.loop-place-test.true c.args.report.now
      c.loop-place.report c.line.new.self c.loop-place.invariant.text
      (c.in_ok-line.ensures.ok ∙ ap (λ (v : ℕ). c.loop-place.report ++ line_text (name_line (c.loop-place.place + 1, v))) c.from.ensures);
  start = c.in_ok-line.ensures.start;
}

pub returns-clause-ok : goal.returns-clause-ok
returns-clause-ok c =
    let names = c.args.names.now in
    let all : c.loop-place.place ≡ length names = omega (arith, c.loop-place.auto.place-end, c.loop-place-test.false) in
    c.loop-place.invariant.text ∙ ap (λ i. c.args.report.now ++ text_of_lines (lines_before names i)) all
    ∙ ap (λ (ls : List (List (List ℕ))). c.args.report.now ++ text_of_lines ls) (lines_of_all names)
