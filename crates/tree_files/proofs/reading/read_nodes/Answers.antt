use Rattle.std.proofs.Common.{sym, subst}
use Rattle.mp_text.specs.declared.layout.Layout.TheVariants.{Commented}
use Rattle.mp_text.specs.Ahead.{rows_of_bytes}
use Rattle.tree_files.specs.Reader.{ReaderState, took}
use Rattle.tree_files.proofs.StatedLemmas.{took_stated}
use Rattle.tree_files.proofs.reading.read_nodes.Goals as goal

pub returns-clause-stated : goal.returns-clause-stated
returns-clause-stated c =
    let read = c.in_ok-reader.ensures.read in
    took_stated c.args.bytes.now _ read.0
    (subst (λ (s : ReaderState). took s (rows_of_bytes Commented c.args.bytes.now)) (sym c.reader.view_is) read.1)
