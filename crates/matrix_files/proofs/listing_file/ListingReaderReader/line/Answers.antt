use Rattle.std.proofs.Common.{◌≡◌, [], ◌∷◌, ◌++◌}
use Rattle.mp_text.specs.Ahead.{row}
use Rattle.mp_text.specs.ReadingLaws.{Steps-judge}
use Rattle.matrix_files.specs.ListingFile.{listing_format}
use Rattle.matrix_files.specs.ListingReader.{listing_line, took_listing}
use Rattle.matrix_files.proofs.ListingLemmas.{listing_follows}
use Rattle.matrix_files.proofs.listing_file.ListingReaderReader.line.Goals as goal

pub returns : goal.returns
returns g c before taken passed =
    let s = c.args.self.now in
    let r = row c.args.line.number c.args.line.text.now in
    Steps-judge ((listing_format g.row.BASE s.n).line_tests before r)
    (λ next. took_listing g.row.BASE next (before ++ r ∷ []) × (listing_format g.row.BASE next.n ≡ listing_format g.row.BASE s.n))
    (listing_line g.row.BASE s r) _ _
    (listing_follows g.row.BASE s before r taken) c.take_line.ensures
