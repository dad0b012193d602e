use Rattle.mp_text.specs.ReadingLaws.{Steps-judge}
use Rattle.workflow_files.specs.WorkflowFile.{workflow_format}
use Rattle.workflow_files.specs.Reader.{workflow_end, took}
use Rattle.workflow_files.proofs.ReaderLaws.{end_follows}
use Rattle.workflow_files.proofs.reader.WorkflowReaderReader.end.Goals as goal

pub returns : goal.returns
returns c rows taken passed =
    let s = c.args.self.now in
    Steps-judge (workflow_format.end_tests rows c.args.past) (λ next. took next rows) (workflow_end s c.args.past) _ _
    (end_follows s rows c.args.past taken passed) c.take_end.ensures
