use Rattle.std.proofs.Common.{ℕ, List, [], ◌∷◌, sym, subst}
use Rattle.std.specs.Prelude.{codes}
use Rattle.matrix_files.specs.OrderFile.{RefusesOrder}
use Rattle.plan_orders.specs.PlanOrder.{RefusesPlanOrder}
use Rattle.judging.specs.Files.{IsRefusedFile}
use Rattle.judging.specs.Judged.{IsStop, IsRefusedSource}
use Rattle.matrix_files.specs.OrderKinds.{order_file_word}
use Rattle.plan_files.specs.Kinds.{word_of as plan_word}
use Rattle.requests.specs.Request.{order_named, plan_named, source_file}
use Rattle.requests.specs.RequestViews.{source_view}
use Rattle.requests.specs.declared.request.OrderSource.{OrderSource}
use Rattle.judging.proofs.StepLemmas.{passed, alone_stop}
use Rattle.judging.proofs.inputs.judge_order.Goals as goal

pub returns-in_err-numbers-in-Order-clause-judged : goal.returns-in_err-numbers-in-Order-clause-judged
returns-in_err-numbers-in-Order-clause-judged g c =
    let told = g.F.Files.bytes_of c.args.files.now in
    let before = g.F.Files.faults_of c.args.files.now in
    let after = g.F.Files.faults_of c.judge.new.files in
    let e = c.in_err-numbers-in-Order.field-0.0 in
    let source = order_named c.in-Order.name.now in
    passed c.from_residual.result _ _ e c.from_residual.ensures.1
    (subst (λ (s : OrderSource). IsStop told before after (source_file (source_view s) ∷ []) (IsRefusedSource (source_view s)) e)
    (sym c.in-Order.is)
    (alone_stop told before after (source_file source)
    (λ (text : List ℕ). IsRefusedFile (codes "order") order_file_word (RefusesOrder text) text)
    (IsRefusedSource source) (λ text answer refused. λ earlier. refused) e c.in_err-numbers-in-Order.ensures.judged))

pub returns-in_err-plan-in-Plan-clause-judged : goal.returns-in_err-plan-in-Plan-clause-judged
returns-in_err-plan-in-Plan-clause-judged g c =
    let told = g.F.Files.bytes_of c.args.files.now in
    let before = g.F.Files.faults_of c.args.files.now in
    let after = g.F.Files.faults_of c.judge-in-Plan.new.files in
    let e = c.in_err-plan-in-Plan.field-0.0 in
    let source = plan_named c.in-Plan.name.now in
    passed c.from_residual-in_err-plan-in-Plan.result _ _ e c.from_residual-in_err-plan-in-Plan.ensures.1
    (subst (λ (s : OrderSource). IsStop told before after (source_file (source_view s) ∷ []) (IsRefusedSource (source_view s)) e)
    (sym c.in-Plan.is)
    (alone_stop told before after (source_file source) (λ (text : List ℕ). IsRefusedFile (codes "plan") plan_word (RefusesPlanOrder text) text)
    (IsRefusedSource source) (λ text answer refused. λ earlier. refused) e c.in_err-plan-in-Plan.ensures.judged))
