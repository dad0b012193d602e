use Rattle.mp_text.specs.ReadingLaws.{Steps-judge}
use Rattle.matrix_files.specs.MatrixFile.{matrix_format}
use Rattle.matrix_files.specs.Reader.{matrix_end, took}
use Rattle.matrix_files.proofs.ReaderLaws.{end_follows}
use Rattle.matrix_files.proofs.reader.MatrixReaderReader.end.Goals as goal

pub returns : goal.returns
returns c rows taken passed =
    let s = c.args.self.now in
    Steps-judge (matrix_format.end_tests rows c.args.past) (λ next. took next rows) (matrix_end s c.args.past) _ _
    (end_follows s rows c.args.past taken passed) c.take_end.ensures
