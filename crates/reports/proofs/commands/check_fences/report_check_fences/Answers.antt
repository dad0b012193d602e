use Rattle.std.proofs.Common.{◌∙◌, ℕ, List, [], ◌∷◌, refl, inl, arith}
use Rattle.std.specs.Prelude.{codes}
use Rattle.fence_files.specs.FenceFile.{RefusesFences}
use Rattle.fence_files.specs.Kinds.{word_of as fence_word}
use Rattle.reports.specs.Reports.{IsReport}
use Rattle.judging.specs.Files.{IsFirstRefusal, IsRefusedFile}
use Rattle.judging.specs.Judged.{system_of_tasks}
use Rattle.judging.specs.Pages.{answer_of}
use Rattle.requests.specs.Request.{NamedFile, fence_file, check_fences, task_files}
use Rattle.requests.specs.RequestViews.{tasks_view}
use Rattle.judging.proofs.StepLemmas.{passed, alone_stop, stop_before, stop_after, over_last}
use Rattle.judging.proofs.InputLemmas.{tasks_accepted, tasks_have_system}
use Rattle.reports.proofs.commands.check_fences.report_check_fences.Goals as goal

abbrev fences_at : List ℕ → NamedFile
fences_at name = record { role = fence_file; name = name }

pub returns-in_err-tasks-clause-told : goal.returns-in_err-tasks-clause-told
returns-in_err-tasks-clause-told g c =
    let e = c.in_err-tasks.field-0.0 in
    passed c.from_residual.result _ _ e c.from_residual.ensures.1
    (stop_before (g.F.Files.bytes_of c.args.files.now) (g.F.Files.faults_of c.args.files.now) (g.F.Files.faults_of c.judge_tasks.new.files)
    (task_files (tasks_view c.args.asked.tasks)) (fences_at c.args.asked.fences.now ∷ []) e c.in_err-tasks.ensures.judged)

pub returns-in_err-certificate-clause-told : goal.returns-in_err-certificate-clause-told
returns-in_err-certificate-clause-told g c =
    let e = c.in_err-certificate.field-0.0 in
    let tasks = tasks_view c.args.asked.tasks in
    let fences = fences_at c.args.asked.fences.now in
    let refuses = λ (text : List ℕ). IsRefusedFile (codes "fences") fence_word (RefusesFences text) text in
    passed c.from_residual-in_err-certificate.result _ _ e c.from_residual-in_err-certificate.ensures.1
    (stop_after (g.F.Files.bytes_of c.args.files.now) (g.F.Files.bytes_of c.judge_tasks.new.files) c.in_ok-tasks.ensures.same
    (g.F.Files.faults_of c.args.files.now) (g.F.Files.faults_of c.judge_tasks.new.files)
    (g.F.Files.faults_of c.judge.new.files) c.in_ok-tasks.ensures.later
    (task_files tasks) (λ texts are. tasks_accepted tasks texts c.in_ok-tasks.tasks (c.in_ok-tasks.ensures.judged texts are))
    (fences ∷ []) (omega arith) (λ texts answer. (earlier : List (List ℕ)) → IsFirstRefusal (fences ∷ []) earlier texts answer)
    (λ one two answer are more refused. refused one) e
    (alone_stop (g.F.Files.bytes_of c.judge_tasks.new.files)
    (g.F.Files.faults_of c.judge_tasks.new.files) (g.F.Files.faults_of c.judge.new.files) fences refuses
    (λ texts answer. (earlier : List (List ℕ)) → IsFirstRefusal (fences ∷ []) earlier texts answer)
    (λ text answer refused. λ earlier. inl refused) e c.in_err-certificate.ensures.judged))

pub returns-clause-told : goal.returns-clause-told
returns-clause-told g c =
    let tasks = tasks_view c.args.asked.tasks in
    let name = c.args.asked.fences.now in
    let answer = answer_of c.in_ok-verdict_page.field-0 in
    over_last (g.F.Files.bytes_of c.args.files.now) (task_files tasks) (fences_at name)
    (λ texts. IsReport (check_fences tasks name) texts answer)
    (λ mine text are is. (
      mine,
      text,
      system_of_tasks c.in_ok-tasks.tasks,
      c.in_ok-certificate.certificate,
      refl,
      tasks_have_system tasks mine c.in_ok-tasks.tasks (c.in_ok-tasks.ensures.judged mine are),
      c.in_ok-certificate.ensures.judged text (c.in_ok-tasks.ensures.same name ∙ is),
      c.in_ok-verdict_page.ensures,
    ))
