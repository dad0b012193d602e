use Rattle.mp_text.specs.ReadingLaws.{Steps-judge}
use Rattle.graph_files.specs.GraphFile.{graph_format}
use Rattle.graph_files.specs.Reader.{graph_end, took}
use Rattle.graph_files.proofs.ReaderLaws.{end_follows}
use Rattle.graph_files.proofs.reader.GraphReaderReader.end.Goals as goal

pub returns : goal.returns
returns c rows taken passed =
    let s = c.args.self.now in
    Steps-judge (graph_format.end_tests rows c.args.past) (λ next. took next rows) (graph_end s c.args.past) _ _
    (end_follows s rows c.args.past taken passed) c.take_end.ensures
