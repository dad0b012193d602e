use Rattle.std.proofs.Common.{[], ◌∷◌, arith}
use Rattle.judging.specs.Judged.{IsRefusedSource, AreTasksOf}
use Rattle.requests.specs.Request.{task_files, source_file}
use Rattle.requests.specs.RequestViews.{tasks_view, source_view}
use Rattle.judging.proofs.StepLemmas.{passed, stop_before, stop_after, told_same}
use Rattle.judging.proofs.InputLemmas.{tasks_accepted, source_refused, ordered}
use Rattle.judging.proofs.inputs.judge_ordered_tasks.Goals as goal

pub returns-in_err-tasks-clause-judged : goal.returns-in_err-tasks-clause-judged
returns-in_err-tasks-clause-judged g c =
    let e = c.in_err-tasks.field-0.0 in
    passed c.from_residual.result _ _ e c.from_residual.ensures.1
    (stop_before (g.F.Files.bytes_of c.args.files.now) (g.F.Files.faults_of c.args.files.now) (g.F.Files.faults_of c.judge_tasks.new.files)
    (task_files (tasks_view c.args.tasks)) (source_file (source_view c.args.source) ∷ []) e c.in_err-tasks.ensures.judged)

pub returns-in_err-order-clause-judged : goal.returns-in_err-order-clause-judged
returns-in_err-order-clause-judged g c =
    let e = c.in_err-order.field-0.0 in
    let tasks = tasks_view c.args.tasks in
    let source = source_view c.args.source in
    passed c.from_residual-in_err-order.result _ _ e c.from_residual-in_err-order.ensures.1
    (stop_after (g.F.Files.bytes_of c.args.files.now) (g.F.Files.bytes_of c.judge_tasks.new.files) c.in_ok-tasks.ensures.same
    (g.F.Files.faults_of c.args.files.now) (g.F.Files.faults_of c.judge_tasks.new.files)
    (g.F.Files.faults_of c.judge_order.new.files) c.in_ok-tasks.ensures.later
    (task_files tasks) (λ texts are. tasks_accepted tasks texts c.in_ok-tasks.tasks (c.in_ok-tasks.ensures.judged texts are))
    (source_file source ∷ []) (omega arith) (IsRefusedSource source)
    (λ one two answer are more refused. source_refused source one two answer refused) e
    c.in_err-order.ensures.judged)

pub returns-clause-judged : goal.returns-clause-judged
returns-clause-judged g c =
    let told = g.F.Files.bytes_of c.args.files.now in
    let now = g.F.Files.bytes_of c.judge_tasks.new.files in
    let source = source_view c.args.source in
    let tasks = tasks_view c.args.tasks in
    ordered told (task_files tasks) (AreTasksOf tasks) source c.in_ok-tasks.tasks c.in_ok-order.order
    (λ texts is. tasks_accepted tasks texts c.in_ok-tasks.tasks is) c.in_ok-tasks.ensures.judged
    (λ texts are. c.in_ok-order.ensures.judged texts (told_same told now c.in_ok-tasks.ensures.same (source_file source ∷ []) texts are))
