use Rattle.std.proofs.Common.{ℕ, ◌++◌, ap, ◌∙◌}
use Rattle.std.proofs.lemmas.Result.{on_ok_weaker}
use Rattle.bounded_plans.specs.declared.evidence.BoundEvidence.{BoundEvidence}
use Rattle.bounded_plan_files.specs.Printed.{head_lines, bound_lines, bound_text}
use Rattle.bounded_plan_files.proofs.PrintingLemmas.{joined-text}
use Rattle.bounded_plan_files.proofs.printing.print_lines.Goals as goal

pub returns-clause-ok : goal.returns-clause-ok
returns-clause-ok c =
    let plan = c.args.plan.now in
    let begun = c.print_head.new.report in
    on_ok_weaker c.print_bound_lines.result (λ e.
    joined-text c.args.report.now begun c.print_bound_lines.new.report (head_lines plan) (bound_lines plan.bound plan.evidence)
    c.in_ok-print_head.ensures.ok
    (e ∙ ap (λ (n : ℕ). begun ++ bound_text n c.evidence.result.now) c.bound.ensures
    ∙ ap (λ (evidence : BoundEvidence). begun ++ bound_text plan.bound evidence) c.evidence.ensures)) c.print_bound_lines.ensures.ok
