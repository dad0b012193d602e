use Rattle.std.proofs.Common.{◌≡◌, ap, sym, subst}
use Rattle.std.proofs.lemmas.Result.{err_from_is_err_and}
use Rattle.permutations.specs.Perm.{PermState}
use Rattle.matrix_files.specs.ListingFile.{listing_format}
use Rattle.matrix_files.specs.ListingReader.{ListingState, ReadsListing}
use Rattle.matrix_files.proofs.ListingLemmas.{listing_is_perm, listing_refusal}
use Rattle.matrix_files.proofs.listing_file.read_listing.Given as given
use Rattle.matrix_files.proofs.listing_file.read_listing.Goals as goal
use Rattle.matrix_files.proofs.listing_file.read_listing.Goals.{In_ok-reader}

pub returns-in_err-reader : goal.returns-in_err-reader
returns-in_err-reader g c =
    let p = err_from_is_err_and c.from_residual-in_err-reader.result c.from_residual-in_err-reader.ensures.1 in
    rw (p.1, p.2)
    (listing_refusal g.row.BASE c.args.n c.args.bytes.now c.in_err-reader.field-0.0
    (rw (← ap (λ (s : PermState). s.n) c.in_ok-taken.ensures) c.in_err-reader.ensures.refused))

-- what the reader took is the whole file
reads : (g : given.Over) (c : In_ok-reader g) (s : ListingState) → s ≡ c.in_ok-reader.reader
    → ReadsListing g.row.BASE c.args.n c.args.bytes.now s.places
reads g c s e = subst (λ (t : ListingState). ReadsListing g.row.BASE c.args.n c.args.bytes.now t.places) (sym e) (record {
  form = rw (← ap (λ (t : PermState). listing_format g.row.BASE t.n) c.in_ok-taken.ensures) c.in_ok-reader.ensures.read.0;
  stated = ap (λ (t : ListingState). t.places) c.in_ok-reader.ensures.read.1;
})

pub finish-requires : goal.finish-requires
finish-requires g c =
    let taken = c.reader.inside.taken in
    let perm = listing_is_perm g.row.BASE c.args.n c.args.bytes.now taken.numbers c.requires
    (reads g (goal.at.finish-requires g c).In_ok-reader _ c.reader.view_is) in
    rw perm.len perm

pub returns : goal.returns
returns g c =
    subst (ReadsListing g.row.BASE c.args.n c.args.bytes.now) (sym c.finish.ensures)
    (reads g (goal.at.returns g c).In_ok-reader _ c.reader.view_is)
