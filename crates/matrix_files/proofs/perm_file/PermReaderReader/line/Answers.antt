use Rattle.std.proofs.Common.{◌≡◌, [], ◌∷◌, ◌++◌}
use Rattle.mp_text.specs.Ahead.{row}
use Rattle.mp_text.specs.ReadingLaws.{Steps-judge}
use Rattle.matrix_files.specs.PermFile.{numbering_format}
use Rattle.matrix_files.specs.OrderReader.{perm_step, took_perm}
use Rattle.matrix_files.proofs.OrderReaderLaws.{perm_follows}
use Rattle.matrix_files.proofs.perm_file.PermReaderReader.line.Goals as goal

pub returns : goal.returns
returns g c before taken passed =
    let s = c.args.self.now in
    let r = row c.args.line.number c.args.line.text.now in
    Steps-judge ((numbering_format g.row.BASE s.n).line_tests before r)
    (λ next. took_perm g.row.BASE next (before ++ r ∷ []) × (numbering_format g.row.BASE next.n ≡ numbering_format g.row.BASE s.n))
    (perm_step g.row.BASE s r) _ _
    (perm_follows g.row.BASE s before r taken passed) c.take_line.ensures
