use Rattle.std.proofs.Common.{ℕ, List, [], ◌∷◌, ◌++◌, ap, ◌∙◌}
use Rattle.std.specs.Prelude.{codes}
use Rattle.std.proofs.lemmas.Result.{on_ok_weaker}
use Rattle.mp_text.specs.Report.{line_text, text_of_lines}
use Rattle.file_frame.specs.Printed.{section_line}
use Rattle.plan_files.specs.Printed.{task_lines}
use Rattle.bounded_plan_files.proofs.PrintingLemmas.{framed-text}
use Rattle.bounded_plan_files.proofs.printing.print_head.Goals as goal

pub returns-clause-ok : goal.returns-clause-ok
returns-clause-ok c =
    let plan = c.args.plan.now in
    let begun = c.line.new.self in
    let listed = c.print_tasks.new.report in
    on_ok_weaker c.print_section.result (λ e.
    framed-text c.args.report.now begun listed c.print_section.new.report
    (codes "plan" ∷ codes "3" ∷ []) (task_lines (codes "order") plan.order) (section_line (codes "peak") plan.peak)
    c.in_ok-line.ensures.ok
    (c.in_ok-print_tasks.ensures.ok
    ∙ ap (λ (tasks : List ℕ). begun ++ text_of_lines (task_lines (codes "order") tasks)) c.order.ensures.value)
    (e ∙ ap (λ (n : ℕ). listed ++ line_text (section_line (codes "peak") n)) c.peak.ensures)) c.print_section.ensures.ok
