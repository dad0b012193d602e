use Rattle.std.proofs.Common.{◌≡◌, [], ◌∷◌, ◌++◌}
use Rattle.mp_text.specs.Ahead.{row}
use Rattle.mp_text.specs.ReadingLaws.{Steps-judge}
use Rattle.matrix_files.specs.OrderFile.{order_format}
use Rattle.matrix_files.specs.OrderReader.{order_step, took_order}
use Rattle.matrix_files.proofs.OrderReaderLaws.{order_follows}
use Rattle.matrix_files.proofs.order_file.OrderReaderReader.line.Goals as goal

pub returns : goal.returns
returns c before taken passed =
    let s = c.args.self.now in
    let r = row c.args.line.number c.args.line.text.now in
    Steps-judge (order_format.line_tests before r)
    (λ next. took_order next (before ++ r ∷ []) × (order_format ≡ order_format)) (order_step s r) _ _
    (order_follows s before r taken passed) c.take_line.ensures
