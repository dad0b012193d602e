use Rattle.std.proofs.Common.{ℕ, List, [], ◌∷◌, inl, sym, subst}
use Rattle.std.specs.Prelude.{codes}
use Rattle.workflow_files.specs.WorkflowFile.{RefusesWorkflow}
use Rattle.judging.specs.Files.{IsRefusedFile, IsFirstRefusal}
use Rattle.judging.specs.Judged.{IsStop}
use Rattle.workflow_files.specs.Kinds.{word_of as workflow_word}
use Rattle.requests.specs.Request.{NamedFile, workflow_file, input_files}
use Rattle.requests.specs.RequestViews.{input_view}
use Rattle.requests.specs.declared.request.Input.{Input}
use Rattle.judging.proofs.StepLemmas.{passed, alone_stop}
use Rattle.judging.proofs.inputs.judge_input.Goals as goal

pub returns-in_err-terms-in-Workflow-clause-judged : goal.returns-in_err-terms-in-Workflow-clause-judged
returns-in_err-terms-in-Workflow-clause-judged g c =
    let told = g.F.Files.bytes_of c.args.files.now in
    let before = g.F.Files.faults_of c.args.files.now in
    let after = g.F.Files.faults_of c.judge.new.files in
    let e = c.in_err-terms-in-Workflow.field-0.0 in
    let file : NamedFile = record { role = workflow_file; name = c.in-Workflow.name.now } in
    passed c.from_residual-in_err-terms-in-Workflow.result _ _ e c.from_residual-in_err-terms-in-Workflow.ensures.1
    (subst (λ (input : Input). IsStop told before after (input_files (input_view input))
    (IsFirstRefusal (input_files (input_view input)) []) e) (sym c.in-Workflow.is)
    (alone_stop told before after file
    (λ (text : List ℕ). IsRefusedFile (codes "workflow") workflow_word (RefusesWorkflow text) text) (IsFirstRefusal (file ∷ []) [])
    (λ text answer refused. inl refused) e c.in_err-terms-in-Workflow.ensures.judged))
