use Rattle.std.proofs.Common.{List, Bool, length, sym, ap, ◌∙◌, arith}
use Rattle.bit_rows.specs.Bits.{word_bit}
use Rattle.bit_rows.proofs.RowBits.{row_length, row_bit}
use Rattle.bit_rows.proofs.row.BitRow.has.Goals as goal

pub has_bit-requires : goal.has_bit-requires
has_bit-requires c =
    let f = c.self.inside in
    let same = ap (λ (row : List Bool). length row) c.self.view_is in
    omega (arith, c.requires, same, row_length f.len f.words.items, ap length c.deref.ensures.value, c.self.invariant.long)

pub returns : goal.returns
returns c =
    let f = c.self.inside in
    rw (← c.self.view_is)
    (c.has_bit.ensures ∙ ap (λ z. word_bit z c.args.x) c.deref.ensures.value ∙ sym (row_bit f.len f.words.items c.self.invariant c.args.x))
