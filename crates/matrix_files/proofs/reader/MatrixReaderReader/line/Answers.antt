use Rattle.std.proofs.Common.{◌≡◌, [], ◌∷◌, ◌++◌}
use Rattle.mp_text.specs.Ahead.{row}
use Rattle.mp_text.specs.ReadingLaws.{Steps-judge}
use Rattle.matrix_files.specs.MatrixFile.{matrix_format}
use Rattle.matrix_files.specs.Reader.{matrix_step, took}
use Rattle.matrix_files.proofs.ReaderLaws.{step_follows}
use Rattle.matrix_files.proofs.reader.MatrixReaderReader.line.Goals as goal

pub returns : goal.returns
returns c before taken passed =
    let s = c.args.self.now in
    let r = row c.args.line.number c.args.line.text.now in
    Steps-judge (matrix_format.line_tests before r)
    (λ next. took next (before ++ r ∷ []) × (matrix_format ≡ matrix_format)) (matrix_step s r) _ _
    (step_follows s before r taken passed) c.take_line.ensures
