use Rattle.std.proofs.Common.{sym, subst}
use Rattle.mp_text.specs.declared.layout.Layout.TheVariants.{Commented}
use Rattle.mp_text.specs.Ahead.{rows_of_bytes}
use Rattle.shared_graph_files.specs.Reader.{ReaderState, took}
use Rattle.shared_graph_files.proofs.StatedLemmas.{took_stated}
use Rattle.shared_graph_files.proofs.reading.read_lines.Goals as goal

pub returns-clause-stated : goal.returns-clause-stated
returns-clause-stated c =
    let read = c.in_ok-reader.ensures.read in
    rw c.finish.ensures
    (took_stated c.args.bytes.now _ read.0
    (subst (λ (s : ReaderState). took s (rows_of_bytes Commented c.args.bytes.now)) (sym c.reader.view_is) read.1))
