use Rattle.std.proofs.Common.{length}
use Rattle.matrix_files.proofs.InverseFileLemmas.{inverse_tables_of}
use Rattle.matrix_files.proofs.inverse_file.inverse.Goals as goal

pub from_tables-requires-clause-inverse : goal.from_tables-requires-clause-inverse
from_tables-requires-clause-inverse c =
    let places = c.args.places.now in
    rw (c.in_ok-vertices.ensures.places, c.in_ok-table.ensures) (inverse_tables_of (length places) places c.keeps.ensures)
