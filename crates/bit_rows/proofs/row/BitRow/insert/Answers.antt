use Rattle.std.proofs.Common.{◌≡◌, ◌<◌, List, Bool, true, length, drop, ap, arith}
use Rattle.std.proofs.lemmas.List.{take_at}
use Rattle.bit_rows.proofs.RowBits.{row_length, row_put, put_kept}
use Rattle.bit_rows.proofs.row.BitRow.insert.Goals as goal

pub set_bit-requires : goal.set_bit-requires
set_bit-requires c =
    let f = c.self.inside in
    let same = ap (λ (row : List Bool). length row) c.self.view_is in
    omega (arith, c.requires, same, row_length f.len f.words.items, ap length c.deref_mut.ensures.value, c.self.invariant.long)

pub invariant_of-self : goal.invariant_of-self
invariant_of-self c =
    let f = c.self.inside in
    let same = ap (λ (row : List Bool). length row) c.self.view_is in
    let within : c.args.x < f.len = omega (arith, c.requires, same, row_length f.len f.words.items) in
    let w : length c.set_bit.new.words ≡ f.words.len = omega (arith, c.set_bit.auto.words, c.deref_mut.ensures.len) in
    rw (take_at c.set_bit.new.words (drop (length c.set_bit.new.words) f.words.items) f.words.len w)
    (put_kept f.len f.words.items c.set_bit.new.words c.args.x within c.self.invariant (omega (arith, w))
    (rw c.deref_mut.ensures.value at c.set_bit.ensures.others))

pub returns : goal.returns
returns c =
    let f = c.self.inside in
    let same = ap (λ (row : List Bool). length row) c.self.view_is in
    let within : c.args.x < f.len = omega (arith, c.requires, same, row_length f.len f.words.items) in
    let w : length c.set_bit.new.words ≡ f.words.len = omega (arith, c.set_bit.auto.words, c.deref_mut.ensures.len) in
    rw (← c.self.view_is, take_at c.set_bit.new.words (drop (length c.set_bit.new.words) f.words.items) f.words.len w)
    (row_put f.len f.words.items c.set_bit.new.words c.args.x true within c.set_bit.ensures.set
    (rw c.deref_mut.ensures.value at c.set_bit.ensures.others))
