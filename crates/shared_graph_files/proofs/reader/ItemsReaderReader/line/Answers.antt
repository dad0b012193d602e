use Rattle.std.proofs.Common.{◌≡◌, [], ◌∷◌, ◌++◌}
use Rattle.mp_text.specs.Ahead.{row}
use Rattle.mp_text.specs.ReadingLaws.{Steps-judge}
use Rattle.shared_graph_files.specs.SharedGraphFile.{second_format}
use Rattle.shared_graph_files.specs.Reader.{second_step, took}
use Rattle.shared_graph_files.proofs.ReaderLaws.{step_follows}
use Rattle.shared_graph_files.proofs.reader.ItemsReaderReader.line.Goals as goal

pub returns : goal.returns
returns c before taken passed =
    let s = c.args.self.now in
    let r = row c.args.line.number c.args.line.text.now in
    Steps-judge (second_format.line_tests before r)
    (λ next. took next (before ++ r ∷ []) × (second_format ≡ second_format)) (second_step s r) _ _
    (step_follows s before r taken passed) c.take_line.ensures
