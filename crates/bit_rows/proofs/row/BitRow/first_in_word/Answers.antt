use Rattle.std.proofs.Common.{length, ap, arith}
use Rattle.bit_rows.specs.Rows.{IsLowestIn}
use Rattle.bit_rows.proofs.RowBits.{word_stands, word_not_zero, lowest_of_row}
use Rattle.bit_rows.proofs.row.BitRow.first_in_word.Goals as goal

pub lowest_bit-requires-clause-few : goal.lowest_bit-requires-clause-few
lowest_bit-requires-clause-few c = omega (arith, ap length c.deref.ensures.value, c.self.invariant.long, c.self.invariant.small)

pub lowest_bit-requires-clause-within : goal.lowest_bit-requires-clause-within
lowest_bit-requires-clause-within c =
    let f = c.self.inside in
    omega (
      arith,
      ap length c.deref.ensures.value,
      word_stands f.len f.words.items c.self.invariant c.args.word (rw c.self.view_is c.requires),
    )

pub lowest_bit-requires-clause-some : goal.lowest_bit-requires-clause-some
lowest_bit-requires-clause-some c =
    let f = c.self.inside in
    rw c.deref.ensures.value (word_not_zero f.len f.words.items c.self.invariant c.args.word (rw c.self.view_is c.requires))

pub returns : goal.returns
returns c =
    let f = c.self.inside in
    let low : IsLowestIn f.words.items c.args.word c.lowest_bit.result = rw c.deref.ensures.value at c.lowest_bit.ensures in
    rw (← c.self.view_is) (lowest_of_row f.len f.words.items c.self.invariant c.args.word c.lowest_bit.result low)
