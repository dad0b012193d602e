use Rattle.std.proofs.Common.{ℕ, [], ◌∷◌, ◌++◌, subst, length}
use Rattle.judging.specs.Judged.{system_of_tasks, IsStop, IsPriorityOf, IsRefusedRanking}
use Rattle.judging.specs.Pages.{answer_of}
use Rattle.requests.specs.Request.{task_files, source_file, priority_file, priority_files}
use Rattle.requests.specs.RequestViews.{tasks_view, source_view, simulation_view}
use Rattle.judging.proofs.StepLemmas.{passed, stop_before, stop_after, told_same}
use Rattle.reports.proofs.SimulationLemmas.{few_priority, stop_of_all, ranking_refused, simulated}
use Rattle.reports.proofs.commands.simulate.report_simulate.Goals as goal

pub returns-in_err-ordered-clause-told : goal.returns-in_err-ordered-clause-told
returns-in_err-ordered-clause-told g c =
    let e = c.in_err-ordered.field-0.0 in
    let tasks = tasks_view c.args.asked.tasks in
    let source = source_view c.args.asked.source in
    let s = simulation_view c.args.asked in
    let told = g.F.Files.bytes_of c.args.files.now in
    let before = g.F.Files.faults_of c.args.files.now in
    let after = g.F.Files.faults_of c.judge_ordered_tasks.new.files in
    passed c.from_residual.result _ _ e c.from_residual.ensures.1
    (stop_of_all told tasks source s before after e
    (stop_before told before after (task_files tasks ++ source_file source ∷ [])
    (priority_files (priority_file tasks) s.priority) e c.in_err-ordered.ensures.judged))

pub returns-in_err-priority-clause-told : goal.returns-in_err-priority-clause-told
returns-in_err-priority-clause-told g c =
    let e = c.in_err-priority.field-0.0 in
    let tasks = tasks_view c.args.asked.tasks in
    let source = source_view c.args.asked.source in
    let s = simulation_view c.args.asked in
    let told = g.F.Files.bytes_of c.args.files.now in
    let now = g.F.Files.bytes_of c.judge_ordered_tasks.new.files in
    let before = g.F.Files.faults_of c.args.files.now in
    let then = g.F.Files.faults_of c.judge_ordered_tasks.new.files in
    let after = g.F.Files.faults_of c.judge_priority.new.files in
    let ordered = c.in_ok-ordered.ordered in
    let more = priority_files (priority_file tasks) s.priority in
    passed c.from_residual-in_err-priority.result _ _ e c.from_residual-in_err-priority.ensures.1
    (stop_of_all told tasks source s before after e
    (stop_after told now c.in_ok-ordered.ensures.same before then after c.in_ok-ordered.ensures.later
    (task_files tasks ++ source_file source ∷ []) (λ texts are. (c.in_ok-ordered.ensures.judged texts are).accepted) more
    (few_priority (priority_file tasks) s.priority)
    (IsRefusedRanking (length (system_of_tasks ordered.tasks).tasks))
    (λ one two answer are are_more refused.
    ranking_refused told tasks source s ordered s.priority one two answer (c.in_ok-ordered.ensures.judged one are) are_more refused) e
    (subst (λ (n : ℕ). IsStop now then after more (IsRefusedRanking n) e) c.count-count.ensures
    (c.in_err-priority.ensures.judged (priority_file tasks)))))

pub returns-clause-told : goal.returns-clause-told
returns-clause-told g c =
    let tasks = tasks_view c.args.asked.tasks in
    let source = source_view c.args.asked.source in
    let s = simulation_view c.args.asked in
    let told = g.F.Files.bytes_of c.args.files.now in
    let now = g.F.Files.bytes_of c.judge_ordered_tasks.new.files in
    let ordered = c.in_ok-ordered.ordered in
    let priority = c.in_ok-priority.priority in
    let more = priority_files (priority_file tasks) s.priority in
    let answer = answer_of c.in_ok-simulation_page.field-0 in
    simulated told tasks source s ordered c.in_ok-ordered.ensures.judged priority answer
    (λ texts are. subst (λ (n : ℕ). IsPriorityOf s.priority n texts priority) c.count-count.ensures
    (c.in_ok-priority.ensures.judged (priority_file tasks) texts (told_same told now c.in_ok-ordered.ensures.same more texts are)))
    (rw (← c.chosen-priority.ensures.value) c.in_ok-simulation_page.ensures)
