use Rattle.std.proofs.Common.{◌∙◌, ℕ, List, [], ◌∷◌, ◌++◌, ap, length, decimal, codes}
use Rattle.least_peak.specs.Problem.{system_of}
use Rattle.mp_text.specs.Report.{line_text}
use Rattle.reports.specs.Demo.{postorder_lines}
use Rattle.judging.specs.declared.status.Status.TheVariants as status
use Rattle.reports.proofs.DemoLemmas.{summary-lines}
use Rattle.reports.proofs.commands.demo.summary_page.Goals as goal

pub returns : goal.returns
returns c =
    let made = c.args.made.now in
    let kind = codes "demo" ∷ c.args.kind.now ∷ [] in
    let tasks = λ (n : ℕ). codes "tasks" ∷ decimal n ∷ [] in
    let positions = λ (n : ℕ). codes "positions" ∷ decimal n ∷ [] in
    let many = c.from-tasks.ensures ∙ c.task_count.ensures in
    ap (λ (text : List ℕ). record { status = status.Done; text = text })
    (summary-lines c.printed_lines.ensures.more kind (tasks (length (system_of made.problem).tasks))
    (positions made.positions) (codes "peak" ∷ decimal c.args.peak ∷ [])
    (codes "check" ∷ c.args.check.now ∷ []) (codes "end" ∷ []) (postorder_lines made.postorder)
    c.print_word.new.report c.print_count.new.report c.print_count-2.new.report c.print_count-3.new.report c.print_postorder.new.report
    c.print_word-2.new.report c.print_end.new.report
    (c.in_ok-print_word.ensures.text ∙ ap (λ (text : List ℕ). text ++ line_text kind) c.new-report.ensures)
    (c.in_ok-print_count.ensures.text ∙ ap (λ (n : ℕ). c.print_word.new.report ++ line_text (tasks n)) many)
    (c.in_ok-print_count-2.ensures.text ∙ ap (λ (n : ℕ). c.print_count.new.report ++ line_text (positions n)) c.from.ensures)
    c.in_ok-print_count-3.ensures.text c.in_ok-print_postorder.ensures.text
    c.in_ok-print_word-2.ensures.text c.in_ok-print_end.ensures)
