use Rattle.std.proofs.Common.{◌≡◌, [], ◌∷◌, ◌++◌}
use Rattle.mp_text.specs.Ahead.{row}
use Rattle.mp_text.specs.ReadingLaws.{Steps-judge}
use Rattle.fence_files.specs.FenceFile.{fences_format}
use Rattle.fence_files.specs.Reader.{fences_step, took}
use Rattle.fence_files.proofs.ReaderLaws.{step_follows}
use Rattle.fence_files.proofs.reader.FenceReaderReader.line.Goals as goal

pub returns : goal.returns
returns c before taken passed =
    let s = c.args.self.now in
    let r = row c.args.line.number c.args.line.text.now in
    Steps-judge (fences_format.line_tests before r) (λ next. took next (before ++ r ∷ []) × (fences_format ≡ fences_format)) (fences_step s r) _ _
    (step_follows s before r taken passed) c.take_line.ensures
