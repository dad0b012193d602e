use Rattle.mp_text.specs.ReadingLaws.{Steps-judge}
use Rattle.tree_files.specs.TreeFile.{tree_format}
use Rattle.tree_files.specs.Reader.{tree_end, took}
use Rattle.tree_files.proofs.ReaderLaws.{end_follows}
use Rattle.tree_files.proofs.reader.TreeReaderReader.end.Goals as goal

pub returns : goal.returns
returns c rows taken passed =
    let s = c.args.self.now in
    Steps-judge (tree_format.end_tests rows c.args.past) (λ next. took next rows) (tree_end s c.args.past) _ _
    (end_follows s rows c.args.past taken passed) c.take_end.ensures
