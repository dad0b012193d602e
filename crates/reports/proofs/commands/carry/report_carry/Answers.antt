use Rattle.std.proofs.Common.{◌∙◌, ℕ, List, [], ◌∷◌, refl}
use Rattle.requests.specs.Request.{source_file}
use Rattle.requests.specs.RequestViews.{source_view}
use Rattle.judging.specs.Judged.{order_tasks}
use Rattle.judging.specs.Pages.{answer_of}
use Rattle.judging.proofs.StepLemmas.{passed}
use Rattle.reports.specs.Carry.{IsCarryOf}
use Rattle.reports.proofs.CarryLemmas.{order_stop}
use Rattle.reports.proofs.GraphLemmas.{graph_stop, over_two}
use Rattle.reports.proofs.commands.carry.report_carry.Goals as goal

pub returns-in_err-stated-clause-told : goal.returns-in_err-stated-clause-told
returns-in_err-stated-clause-told g c =
    let e = c.in_err-stated.field-0.0 in
    passed c.from_residual.result _ _ e c.from_residual.ensures.1
    (graph_stop (g.F.Files.bytes_of c.args.files.now) (g.F.Files.faults_of c.args.files.now) (g.F.Files.faults_of c.judge.new.files)
    c.args.asked.graph.now (source_file (source_view c.args.asked.source) ∷ []) e c.in_err-stated.ensures.judged)

pub returns-in_err-order-clause-told : goal.returns-in_err-order-clause-told
returns-in_err-order-clause-told g c =
    let e = c.in_err-order.field-0.0 in
    passed c.from_residual-in_err-order.result _ _ e c.from_residual-in_err-order.ensures.1
    (order_stop (g.F.Files.bytes_of c.args.files.now) (g.F.Files.bytes_of c.judge.new.files) c.in_ok-stated.ensures.same
    (g.F.Files.faults_of c.args.files.now) (g.F.Files.faults_of c.judge.new.files) (g.F.Files.faults_of c.judge_order.new.files)
    c.in_ok-stated.ensures.later c.args.asked.graph.now c.in_ok-stated.stated c.in_ok-stated.ensures.judged
    (source_view c.args.asked.source) e c.in_err-order.ensures.judged)

pub returns-clause-told : goal.returns-clause-told
returns-clause-told g c =
    let source = source_view c.args.asked.source in
    let answer = answer_of c.in_ok-either_page.field-0 in
    over_two (g.F.Files.bytes_of c.args.files.now) c.args.asked.graph.now (source_file source) (λ texts. IsCarryOf source texts answer)
    (λ one two is_one is_two. (
      one,
      two,
      c.in_ok-stated.stated,
      order_tasks c.in_ok-order.order,
      refl,
      c.in_ok-stated.ensures.judged one is_one,
      (c.in_ok-order.ensures.judged (two ∷ []) (c.in_ok-stated.ensures.same (source_file source).name ∙ is_two, tt)).0,
      rw (← c.numbers.ensures) c.in_ok-either_page.ensures,
    ))
