use Rattle.std.proofs.Common.{◌≡◌, ◌<◌, List, Bool, false, length, drop, ap, arith}
use Rattle.std.proofs.lemmas.List.{take_at}
use Rattle.bit_rows.proofs.RowBits.{row_length, row_put, put_kept}
use Rattle.bit_rows.proofs.row.BitRow.remove.Goals as goal

pub clear_bit-requires : goal.clear_bit-requires
clear_bit-requires c =
    let f = c.self.inside in
    let same = ap (λ (row : List Bool). length row) c.self.view_is in
    omega (arith, c.requires, same, row_length f.len f.words.items, ap length c.deref_mut.ensures.value, c.self.invariant.long)

pub invariant_of-self : goal.invariant_of-self
invariant_of-self c =
    let f = c.self.inside in
    let same = ap (λ (row : List Bool). length row) c.self.view_is in
    let within : c.args.x < f.len = omega (arith, c.requires, same, row_length f.len f.words.items) in
    let w : length c.clear_bit.new.words ≡ f.words.len = omega (arith, c.clear_bit.auto.words, c.deref_mut.ensures.len) in
    rw (take_at c.clear_bit.new.words (drop (length c.clear_bit.new.words) f.words.items) f.words.len w)
    (put_kept f.len f.words.items c.clear_bit.new.words c.args.x within c.self.invariant (omega (arith, w))
    (rw c.deref_mut.ensures.value at c.clear_bit.ensures.others))

pub returns : goal.returns
returns c =
    let f = c.self.inside in
    let same = ap (λ (row : List Bool). length row) c.self.view_is in
    let within : c.args.x < f.len = omega (arith, c.requires, same, row_length f.len f.words.items) in
    let w : length c.clear_bit.new.words ≡ f.words.len = omega (arith, c.clear_bit.auto.words, c.deref_mut.ensures.len) in
    rw (← c.self.view_is, take_at c.clear_bit.new.words (drop (length c.clear_bit.new.words) f.words.items) f.words.len w)
    (row_put f.len f.words.items c.clear_bit.new.words c.args.x false within c.clear_bit.ensures.cleared
    (rw c.deref_mut.ensures.value at c.clear_bit.ensures.others))
