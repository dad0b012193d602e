use Rattle.std.proofs.Common.{◌≡◌, [], ◌∷◌, ◌++◌}
use Rattle.mp_text.specs.Ahead.{row}
use Rattle.mp_text.specs.ReadingLaws.{Steps-judge}
use Rattle.bounded_plan_files.specs.BoundedPlanFile.{bounded_plan_format}
use Rattle.bounded_plan_files.specs.Reader.{plan_step, took}
use Rattle.bounded_plan_files.proofs.ReaderLaws.{step_follows}
use Rattle.bounded_plan_files.proofs.reader.BoundedPlanReaderReader.line.Goals as goal

pub returns : goal.returns
returns c before taken passed =
    let s = c.args.self.now in
    let r = row c.args.line.number c.args.line.text.now in
    Steps-judge (bounded_plan_format.line_tests before r) (λ next. took next (before ++ r ∷ []) × (bounded_plan_format ≡ bounded_plan_format)) (plan_step s r) _ _
    (step_follows s before r taken passed) c.take_line.ensures
