use Rattle.std.proofs.Common.{◌∙◌, ℕ, List, [], ◌∷◌, inl, arith}
use Rattle.std.specs.Prelude.{codes}
use Rattle.plan_files.specs.PlanFile.{RefusesPlan}
use Rattle.reports.specs.Reports.{IsReport}
use Rattle.judging.specs.Files.{IsFirstRefusal, IsRefusedFile}
use Rattle.judging.specs.Pages.{answer_of}
use Rattle.plan_files.specs.Kinds.{word_of as plan_word}
use Rattle.requests.specs.Request.{NamedFile, plan_file, check, input_files}
use Rattle.requests.specs.RequestViews.{input_view}
use Rattle.judging.proofs.StepLemmas.{passed, alone_stop, stop_before, stop_after, over_last}
use Rattle.judging.proofs.InputLemmas.{problem_accepted}
use Rattle.reports.proofs.ReportLemmas.{checked}
use Rattle.reports.proofs.commands.check.report_check.Goals as goal

abbrev plan_at : List ℕ → NamedFile
plan_at name = record { role = plan_file; name = name }

pub returns-in_err-problem-clause-told : goal.returns-in_err-problem-clause-told
returns-in_err-problem-clause-told g c =
    let e = c.in_err-problem.field-0.0 in
    passed c.from_residual.result _ _ e c.from_residual.ensures.1
    (stop_before (g.F.Files.bytes_of c.args.files.now) (g.F.Files.faults_of c.args.files.now) (g.F.Files.faults_of c.judge_input.new.files)
    (input_files (input_view c.args.asked.input)) (plan_at c.args.asked.plan.now ∷ []) e c.in_err-problem.ensures.judged)

pub returns-in_err-plan-clause-told : goal.returns-in_err-plan-clause-told
returns-in_err-plan-clause-told g c =
    let e = c.in_err-plan.field-0.0 in
    let input = input_view c.args.asked.input in
    let plan = plan_at c.args.asked.plan.now in
    let refuses = λ (text : List ℕ). IsRefusedFile (codes "plan") plan_word (RefusesPlan text) text in
    passed c.from_residual-in_err-plan.result _ _ e c.from_residual-in_err-plan.ensures.1
    (stop_after (g.F.Files.bytes_of c.args.files.now) (g.F.Files.bytes_of c.judge_input.new.files) c.in_ok-problem.ensures.same
    (g.F.Files.faults_of c.args.files.now) (g.F.Files.faults_of c.judge_input.new.files)
    (g.F.Files.faults_of c.judge.new.files) c.in_ok-problem.ensures.later
    (input_files input) (λ texts are. problem_accepted input texts c.in_ok-problem.problem (c.in_ok-problem.ensures.judged texts are))
    (plan ∷ []) (omega arith) (λ texts answer. (earlier : List (List ℕ)) → IsFirstRefusal (plan ∷ []) earlier texts answer)
    (λ one two answer are more refused. refused one) e
    (alone_stop (g.F.Files.bytes_of c.judge_input.new.files)
    (g.F.Files.faults_of c.judge_input.new.files) (g.F.Files.faults_of c.judge.new.files) plan refuses
    (λ texts answer. (earlier : List (List ℕ)) → IsFirstRefusal (plan ∷ []) earlier texts answer)
    (λ text answer refused. λ earlier. inl refused) e c.in_err-plan.ensures.judged))

pub returns-clause-told : goal.returns-clause-told
returns-clause-told g c =
    let input = input_view c.args.asked.input in
    let name = c.args.asked.plan.now in
    let answer = answer_of c.in_ok-verdict_page.field-0 in
    let by = c.in_ok-verdict.ensures.verdict in
    over_last (g.F.Files.bytes_of c.args.files.now) (input_files input) (plan_at name)
    (λ texts. IsReport (check input name c.args.asked.workers) texts answer)
    (λ mine text are is. checked input mine text c.in_ok-problem.problem c.in_ok-plan.plan name c.args.asked.workers
    (c.in_ok-problem.ensures.judged mine are) (c.in_ok-plan.ensures.judged text (c.in_ok-problem.ensures.same name ∙ is))
    by.0 c.in_ok-verdict.verdict answer by.1 by.2 c.in_ok-verdict_page.ensures)
