use Rattle.mp_text.specs.ReadingLaws.{Steps-judge}
use Rattle.shared_graph_files.specs.SharedGraphFile.{second_format}
use Rattle.shared_graph_files.specs.Reader.{second_end, took}
use Rattle.shared_graph_files.proofs.ReaderLaws.{end_follows}
use Rattle.shared_graph_files.proofs.reader.ItemsReaderReader.end.Goals as goal

pub returns : goal.returns
returns c rows taken passed =
    let s = c.args.self.now in
    Steps-judge (second_format.end_tests rows c.args.past) (λ next. took next rows) (second_end s c.args.past) _ _
    (end_follows s rows c.args.past taken passed) c.take_end.ensures
