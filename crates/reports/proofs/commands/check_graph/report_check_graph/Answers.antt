use Rattle.std.proofs.Common.{◌∙◌, ℕ, List, [], ◌∷◌, refl}
use Rattle.std.specs.Prelude.{codes}
use Rattle.bounded_plan_files.specs.BoundedPlanFile.{RefusesBoundedPlan}
use Rattle.plan_files.specs.Kinds.{word_of as plan_word}
use Rattle.judging.specs.Files.{IsRefusedFile}
use Rattle.judging.specs.Pages.{answer_of}
use Rattle.judging.proofs.StepLemmas.{passed}
use Rattle.requests.specs.Request.{NamedFile, bounded_plan_file, check_graph}
use Rattle.reports.specs.Reports.{IsReport}
use Rattle.reports.proofs.GraphLemmas.{graph_stop, beside_stop, over_two}
use Rattle.reports.proofs.commands.check_graph.report_check_graph.Goals as goal

abbrev plan_at : List ℕ → NamedFile
plan_at name = record { role = bounded_plan_file; name = name }

pub returns-in_err-system-clause-told : goal.returns-in_err-system-clause-told
returns-in_err-system-clause-told g c =
    let e = c.in_err-system.field-0.0 in
    passed c.from_residual.result _ _ e c.from_residual.ensures.1
    (graph_stop (g.F.Files.bytes_of c.args.files.now) (g.F.Files.faults_of c.args.files.now) (g.F.Files.faults_of c.judge.new.files)
    c.args.asked.graph.now (plan_at c.args.asked.plan.now ∷ []) e c.in_err-system.ensures.judged)

pub returns-in_err-plan-clause-told : goal.returns-in_err-plan-clause-told
returns-in_err-plan-clause-told g c =
    let e = c.in_err-plan.field-0.0 in
    passed c.from_residual-in_err-plan.result _ _ e c.from_residual-in_err-plan.ensures.1
    (beside_stop (g.F.Files.bytes_of c.args.files.now) (g.F.Files.bytes_of c.judge.new.files) c.in_ok-system.ensures.same
    (g.F.Files.faults_of c.args.files.now) (g.F.Files.faults_of c.judge.new.files) (g.F.Files.faults_of c.judge-2.new.files)
    c.in_ok-system.ensures.later c.args.asked.graph.now c.in_ok-system.system c.in_ok-system.ensures.judged
    (plan_at c.args.asked.plan.now) (λ (text : List ℕ). IsRefusedFile (codes "plan") plan_word (RefusesBoundedPlan text) text)
    (λ earlier text answer refused. refused) e c.in_err-plan.ensures.judged)

pub returns-clause-told : goal.returns-clause-told
returns-clause-told g c =
    let graph = c.args.asked.graph.now in
    let name = c.args.asked.plan.now in
    let answer = answer_of c.in_ok-verdict_page.field-0 in
    over_two (g.F.Files.bytes_of c.args.files.now) graph (plan_at name)
    (λ texts. IsReport (check_graph graph name c.args.asked.workers) texts answer)
    (λ one two is_one is_two. (
      one,
      two,
      c.in_ok-system.system,
      c.in_ok-plan.plan,
      refl,
      c.in_ok-system.ensures.judged one is_one,
      c.in_ok-plan.ensures.judged two (c.in_ok-system.ensures.same name ∙ is_two),
      (c.in_ok-verdict.verdict, c.in_ok-verdict.ensures.verdict, c.in_ok-verdict_page.ensures),
    ))
