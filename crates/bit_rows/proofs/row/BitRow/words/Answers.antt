use Rattle.std.proofs.Common.{List, Bool, ◌∙◌, length, sym, ap, arith}
use Rattle.bit_rows.specs.Bits.{word_bit}
use Rattle.bit_rows.proofs.RowBits.{row_length, row_bit}
use Rattle.bit_rows.proofs.row.BitRow.words.Goals as goal

pub returns-clause-len : goal.returns-clause-len
returns-clause-len c =
    let f = c.self.inside in
    let same = ap (λ (row : List Bool). length row) c.self.view_is in
    omega (arith, same, row_length f.len f.words.items, ap length c.deref.ensures.value, c.self.invariant.long)

pub returns-clause-bits : goal.returns-clause-bits
returns-clause-bits c = λ x.
    let f = c.self.inside in
    rw (← c.self.view_is) (ap (λ z. word_bit z x) c.deref.ensures.value ∙ sym (row_bit f.len f.words.items c.self.invariant x))
