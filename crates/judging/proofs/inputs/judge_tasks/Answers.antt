use Rattle.std.proofs.Common.{ℕ, List, [], ◌∷◌, inl, sym, subst}
use Rattle.std.specs.Prelude.{codes}
use Rattle.shared_graph_files.specs.EitherVersion.{RefusesSharedGraph}
use Rattle.judging.specs.Files.{IsRefusedFile, IsFirstRefusal}
use Rattle.judging.specs.Judged.{IsStop}
use Rattle.graph_files.specs.Kinds.{word_of as graph_word}
use Rattle.requests.specs.Request.{NamedFile, shared_graph_file, task_files}
use Rattle.requests.specs.RequestViews.{tasks_view}
use Rattle.requests.specs.declared.request.TaskSource.{TaskSource}
use Rattle.judging.proofs.StepLemmas.{passed, alone_stop}
use Rattle.judging.proofs.inputs.judge_tasks.Goals as goal

pub returns-in_err-system-in-Graph-clause-judged : goal.returns-in_err-system-in-Graph-clause-judged
returns-in_err-system-in-Graph-clause-judged g c =
    let told = g.F.Files.bytes_of c.args.files.now in
    let before = g.F.Files.faults_of c.args.files.now in
    let after = g.F.Files.faults_of c.judge.new.files in
    let e = c.in_err-system-in-Graph.field-0.0 in
    let file : NamedFile = record { role = shared_graph_file; name = c.in-Graph.name.now } in
    passed c.from_residual-in_err-system-in-Graph.result _ _ e c.from_residual-in_err-system-in-Graph.ensures.1
    (subst (λ (tasks : TaskSource). IsStop told before after (task_files (tasks_view tasks))
    (IsFirstRefusal (task_files (tasks_view tasks)) []) e) (sym c.in-Graph.is)
    (alone_stop told before after file
    (λ (text : List ℕ). IsRefusedFile (codes "graph") graph_word (RefusesSharedGraph text) text) (IsFirstRefusal (file ∷ []) [])
    (λ text answer refused. inl refused) e c.in_err-system-in-Graph.ensures.judged))
