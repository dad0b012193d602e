use Rattle.mp_text.specs.ReadingLaws.{Steps-judge}
use Rattle.matrix_files.specs.OrderFile.{order_format}
use Rattle.matrix_files.specs.OrderReader.{order_end, took_order}
use Rattle.matrix_files.proofs.OrderReaderLaws.{order_end_follows}
use Rattle.matrix_files.proofs.order_file.OrderReaderReader.end.Goals as goal

pub returns : goal.returns
returns c rows taken passed =
    let s = c.args.self.now in
    Steps-judge (order_format.end_tests rows c.args.past) (λ next. took_order next rows) (order_end s c.args.past) _ _
    (order_end_follows s rows c.args.past taken passed) c.take_end.ensures
