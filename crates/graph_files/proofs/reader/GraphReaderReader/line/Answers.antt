use Rattle.std.proofs.Common.{◌≡◌, [], ◌∷◌, ◌++◌}
use Rattle.mp_text.specs.Ahead.{row}
use Rattle.mp_text.specs.ReadingLaws.{Steps-judge}
use Rattle.graph_files.specs.GraphFile.{graph_format}
use Rattle.graph_files.specs.Reader.{graph_step, took}
use Rattle.graph_files.proofs.ReaderLaws.{step_follows}
use Rattle.graph_files.proofs.reader.GraphReaderReader.line.Goals as goal

pub returns : goal.returns
returns c before taken passed =
    let s = c.args.self.now in
    let r = row c.args.line.number c.args.line.text.now in
    Steps-judge (graph_format.line_tests before r)
    (λ next. took next (before ++ r ∷ []) × (graph_format ≡ graph_format)) (graph_step s r) _ _
    (step_follows s before r taken passed) c.take_line.ensures
