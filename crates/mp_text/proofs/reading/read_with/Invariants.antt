use Rattle.std.proofs.Common.{◌≡◌, length}
use Rattle.mp_text.specs.Ahead.{rows_of, past_of, rows_of_bytes, past_of_bytes}
use Rattle.mp_text.proofs.ReadingLemmas.{Stands}
use Rattle.mp_text.proofs.reading.read_with.Given as goal

abbrev pub invariant-loop-line : goal.invariant-loop-line
invariant-loop-line g l = record {
  stands : Stands g.J.Reader.format g.J.Reader.took l.fn.reader l.reader (rows_of_bytes l.fn.layout l.bytes) (rows_of l.lines);
  past : past_of l.lines ≡ past_of_bytes l.bytes;
}

abbrev pub decreases-loop-line : goal.decreases-loop-line
decreases-loop-line g l = length (rows_of l.lines)
