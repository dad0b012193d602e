use Rattle.std.proofs.Common.{refl}
use Rattle.matrix_files.proofs.EntryLemmas.{entry_read}
use Rattle.matrix_files.proofs.lines.entry_indices.Goals as goal

pub returns-then-are_left : goal.returns-then-are_left
returns-then-are_left c =
    entry_read c.args.values _ c.in_ok-i.i c.in_ok-j.j
    (rw (← c.tokens-words.ensures) c.in_ok-i.ensures.number)
    (rw (← c.tokens-words.ensures, ← c.in_ok-i.ensures.rest) c.in_ok-j.ensures.number)
    (rw (← c.tokens-words.ensures, ← c.in_ok-i.ensures.rest, ← c.in_ok-j.ensures.rest, ← c.if-are_left.ensures) refl)
