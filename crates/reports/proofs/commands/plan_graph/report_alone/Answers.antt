use Rattle.std.proofs.Common.{[], None, refl, inl}
use Rattle.requests.specs.RequestViews.{format_view}
use Rattle.judging.specs.Pages.{answer_of}
use Rattle.judging.proofs.StepLemmas.{passed, alone_told}
use Rattle.reports.specs.PlanGraph.{IsGraphPlanOf}
use Rattle.reports.proofs.GraphLemmas.{graph_at, graph_stop}
use Rattle.reports.proofs.commands.plan_graph.report_alone.Goals as goal

pub returns-in_err-system-clause-told : goal.returns-in_err-system-clause-told
returns-in_err-system-clause-told g c =
    let e = c.in_err-system.field-0.0 in
    passed c.from_residual.result _ _ e c.from_residual.ensures.1
    (graph_stop (g.F.Files.bytes_of c.args.files.now) (g.F.Files.faults_of c.args.files.now) (g.F.Files.faults_of c.judge.new.files)
    c.args.graph.now [] e c.in_err-system.ensures.judged)

pub returns-clause-told : goal.returns-clause-told
returns-clause-told g c =
    let answer = answer_of c.in_ok-own_page.field-0 in
    alone_told (g.F.Files.bytes_of c.args.files.now) (graph_at c.args.graph.now) (λ texts. IsGraphPlanOf None (format_view c.args.format) texts answer)
    (λ text is. (text, [], c.in_ok-system.system, None, refl, c.in_ok-system.ensures.judged text is, tt, inl c.in_ok-own_page.ensures))
