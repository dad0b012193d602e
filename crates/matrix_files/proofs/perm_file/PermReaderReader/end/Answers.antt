use Rattle.mp_text.specs.ReadingLaws.{Steps-judge}
use Rattle.matrix_files.specs.PermFile.{numbering_format}
use Rattle.matrix_files.specs.OrderReader.{perm_end, took_perm}
use Rattle.matrix_files.proofs.OrderReaderLaws.{perm_end_follows}
use Rattle.matrix_files.proofs.perm_file.PermReaderReader.end.Goals as goal

pub returns : goal.returns
returns g c rows taken passed =
    let s = c.args.self.now in
    Steps-judge ((numbering_format g.row.BASE s.n).end_tests rows c.args.past) (λ next. took_perm g.row.BASE next rows)
    (perm_end s c.args.past) _ _
    (perm_end_follows g.row.BASE s rows c.args.past taken passed) c.take_end.ensures
