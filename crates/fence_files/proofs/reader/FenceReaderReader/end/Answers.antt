use Rattle.mp_text.specs.ReadingLaws.{Steps-judge}
use Rattle.fence_files.specs.FenceFile.{fences_format}
use Rattle.fence_files.specs.Reader.{fences_end, took}
use Rattle.fence_files.proofs.ReaderLaws.{end_follows}
use Rattle.fence_files.proofs.reader.FenceReaderReader.end.Goals as goal

pub returns : goal.returns
returns c rows taken passed =
    let s = c.args.self.now in
    Steps-judge (fences_format.end_tests rows c.args.past) (λ next. took next rows) (fences_end s c.args.past) _ _
    (end_follows s rows c.args.past taken passed) c.take_end.ensures
