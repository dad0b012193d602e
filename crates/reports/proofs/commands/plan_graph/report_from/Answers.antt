use Rattle.std.proofs.Common.{◌∙◌, ◌⊎◌, ℕ, List, [], ◌∷◌, Some, refl, subst}
use Rattle.std.specs.Prelude.{codes}
use Rattle.matrix_files.specs.OrderFile.{RefusesOrder}
use Rattle.matrix_files.specs.OrderKinds.{order_file_word}
use Rattle.judging.specs.Files.{IsRefusedFile}
use Rattle.requests.specs.RequestViews.{format_view}
use Rattle.judging.specs.Pages.{answer_of}
use Rattle.judging.proofs.StepLemmas.{passed}
use Rattle.requests.specs.Request.{NamedFile, order_file}
use Rattle.reports.specs.PlanGraph.{IsGraphPlanOf, IsGraphPlanTold, IsFaultTold}
use Rattle.reports.proofs.GraphLemmas.{graph_stop, beside_stop, over_two}
use Rattle.reports.proofs.commands.plan_graph.report_from.Goals as goal

abbrev order_at : List ℕ → NamedFile
order_at name = record { role = order_file; name = name }

pub returns-in_err-system-clause-told : goal.returns-in_err-system-clause-told
returns-in_err-system-clause-told g c =
    let e = c.in_err-system.field-0.0 in
    passed c.from_residual.result _ _ e c.from_residual.ensures.1
    (graph_stop (g.F.Files.bytes_of c.args.files.now) (g.F.Files.faults_of c.args.files.now) (g.F.Files.faults_of c.judge.new.files)
    c.args.graph.now (order_at c.args.order.now ∷ []) e c.in_err-system.ensures.judged)

pub returns-in_err-numbers-clause-told : goal.returns-in_err-numbers-clause-told
returns-in_err-numbers-clause-told g c =
    let e = c.in_err-numbers.field-0.0 in
    passed c.from_residual-in_err-numbers.result _ _ e c.from_residual-in_err-numbers.ensures.1
    (beside_stop (g.F.Files.bytes_of c.args.files.now) (g.F.Files.bytes_of c.judge.new.files) c.in_ok-system.ensures.same
    (g.F.Files.faults_of c.args.files.now) (g.F.Files.faults_of c.judge.new.files) (g.F.Files.faults_of c.judge-2.new.files)
    c.in_ok-system.ensures.later c.args.graph.now c.in_ok-system.system c.in_ok-system.ensures.judged
    (order_at c.args.order.now) (λ (text : List ℕ). IsRefusedFile (codes "order") order_file_word (RefusesOrder text) text)
    (λ earlier text answer refused. refused) e c.in_err-numbers.ensures.judged)

pub returns-clause-told : goal.returns-clause-told
returns-clause-told g c =
    let name = c.args.order.now in
    let format = format_view c.args.format in
    let answer = answer_of c.in_ok-from_page.field-0 in
    over_two (g.F.Files.bytes_of c.args.files.now) c.args.graph.now (order_at name) (λ texts. IsGraphPlanOf (Some name) format texts answer)
    (λ one two is_one is_two. (
      one,
      two ∷ [],
      c.in_ok-system.system,
      Some c.in_ok-numbers.numbers.items,
      refl,
      c.in_ok-system.ensures.judged one is_one,
      c.in_ok-numbers.ensures.judged two (c.in_ok-system.ensures.same name ∙ is_two),
      subst (λ (order : List ℕ). IsGraphPlanTold c.in_ok-system.system (Some order) format answer ⊎ IsFaultTold c.in_ok-system.system (Some order) answer)
          c.deref.ensures.value c.in_ok-from_page.ensures,
    ))
