use Rattle.std.proofs.Common.{sym, subst}
use Rattle.mp_text.specs.declared.layout.Layout.TheVariants.{Banner}
use Rattle.mp_text.specs.Ahead.{rows_of_bytes}
use Rattle.matrix_files.specs.Reader.{MatrixState, took}
use Rattle.matrix_files.proofs.ReadingLemmas.{took_stated}
use Rattle.matrix_files.proofs.reader.read_entries.Goals as goal

pub returns-clause-stated : goal.returns-clause-stated
returns-clause-stated c =
    let read = c.in_ok-reader.ensures.read in
    took_stated c.args.bytes.now _ read.0
    (subst (λ (s : MatrixState). took s (rows_of_bytes Banner c.args.bytes.now)) (sym c.reader.view_is) read.1)
