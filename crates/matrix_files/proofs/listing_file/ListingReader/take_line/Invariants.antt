use Rattle.std.proofs.Common.{◌≡◌}
use Rattle.mp_text.specs.Text.{tokens_of}
use Rattle.mp_text.specs.Reading.{steps_of_all}
use Rattle.matrix_files.specs.ListingReader.{listing_step}
use Rattle.matrix_files.proofs.listing_file.ListingReader.take_line.Given as goal

abbrev pub invariant-loop-token : goal.invariant-loop-token
invariant-loop-token g l = steps_of_all (listing_step g.row.BASE l.line.number) l.self l.token-iterator
    ≡ steps_of_all (listing_step g.row.BASE l.line.number) l.fn.self (tokens_of l.line.text.now)
