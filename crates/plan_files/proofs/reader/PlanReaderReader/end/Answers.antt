use Rattle.mp_text.specs.ReadingLaws.{Steps-judge}
use Rattle.plan_files.specs.PlanFile.{plan_format}
use Rattle.plan_files.specs.Reader.{plan_end, took}
use Rattle.plan_files.proofs.ReaderLaws.{end_follows}
use Rattle.plan_files.proofs.reader.PlanReaderReader.end.Goals as goal

pub returns : goal.returns
returns c rows taken passed =
    let s = c.args.self.now in
    Steps-judge (plan_format.end_tests rows c.args.past) (λ next. took next rows) (plan_end s c.args.past) _ _
    (end_follows s rows c.args.past taken passed) c.take_end.ensures
