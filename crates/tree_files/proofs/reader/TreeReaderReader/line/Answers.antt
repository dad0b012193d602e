use Rattle.std.proofs.Common.{◌≡◌, [], ◌∷◌, ◌++◌}
use Rattle.mp_text.specs.Ahead.{row}
use Rattle.mp_text.specs.ReadingLaws.{Steps-judge}
use Rattle.tree_files.specs.TreeFile.{tree_format}
use Rattle.tree_files.specs.Reader.{tree_step, took}
use Rattle.tree_files.proofs.ReaderLaws.{step_follows}
use Rattle.tree_files.proofs.reader.TreeReaderReader.line.Goals as goal

pub returns : goal.returns
returns c before taken passed =
    let s = c.args.self.now in
    let r = row c.args.line.number c.args.line.text.now in
    Steps-judge (tree_format.line_tests before r) (λ next. took next (before ++ r ∷ []) × (tree_format ≡ tree_format)) (tree_step s r) _ _
    (step_follows s before r taken passed) c.take_line.ensures
