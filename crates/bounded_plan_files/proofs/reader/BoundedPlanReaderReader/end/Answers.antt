use Rattle.mp_text.specs.ReadingLaws.{Steps-judge}
use Rattle.bounded_plan_files.specs.BoundedPlanFile.{bounded_plan_format}
use Rattle.bounded_plan_files.specs.Reader.{plan_end, took}
use Rattle.bounded_plan_files.proofs.ReaderLaws.{end_follows}
use Rattle.bounded_plan_files.proofs.reader.BoundedPlanReaderReader.end.Goals as goal

pub returns : goal.returns
returns c rows taken passed =
    let s = c.args.self.now in
    Steps-judge (bounded_plan_format.end_tests rows c.args.past) (λ next. took next rows) (plan_end s c.args.past) _ _
    (end_follows s rows c.args.past taken passed) c.take_end.ensures
