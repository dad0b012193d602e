use Rattle.std.proofs.Common.{◌≡◌, [], ◌∷◌, ◌++◌}
use Rattle.mp_text.specs.Ahead.{row}
use Rattle.mp_text.specs.ReadingLaws.{Steps-judge}
use Rattle.workflow_files.specs.WorkflowFile.{workflow_format}
use Rattle.workflow_files.specs.Reader.{workflow_step, took}
use Rattle.workflow_files.proofs.ReaderLaws.{step_follows}
use Rattle.workflow_files.proofs.reader.WorkflowReaderReader.line.Goals as goal

pub returns : goal.returns
returns c before taken passed =
    let s = c.args.self.now in
    let r = row c.args.line.number c.args.line.text.now in
    Steps-judge (workflow_format.line_tests before r)
    (λ next. took next (before ++ r ∷ []) × (workflow_format ≡ workflow_format)) (workflow_step s r) _ _
    (step_follows s before r taken passed) c.take_line.ensures
