use Rattle.std.proofs.Common.{◌≡◌, ◌∙◌, ◌&&◌, List, Bool, length, ap, ap₂, subst, arith}
use Rattle.std.specs.List.{count_by, range_with_len}
use Rattle.bit_rows.specs.Bits.{word_bit}
use Rattle.bit_rows.specs.Rows.{IsBitRow}
use Rattle.bit_rows.proofs.RowBits.{row_length, count_bits}
use Rattle.bit_rows.proofs.row.BitRow.count_common.Goals as goal

pub count_common_bits-requires-clause-same : goal.count_common_bits-requires-clause-same
count_common_bits-requires-clause-same c =
    let f = c.self.inside in
    let g = c.other.inside in
    let same = ap (λ (row : List Bool). length row) c.self.view_is in
    let same' = ap (λ (row : List Bool). length row) c.other.view_is in
    let lens : f.len ≡ g.len = omega (arith, c.requires, same, same', row_length f.len f.words.items, row_length g.len g.words.items) in
    omega (arith, lens, ap length c.deref.ensures.value, ap length c.deref-2.ensures.value, c.self.invariant.long, c.other.invariant.long)

pub returns : goal.returns
returns c =
    let f = c.self.inside in
    let g = c.other.inside in
    let same = ap (λ (row : List Bool). length row) c.self.view_is in
    let same' = ap (λ (row : List Bool). length row) c.other.view_is in
    let lens : g.len ≡ f.len = omega (arith, c.requires, same, same', row_length f.len f.words.items, row_length g.len g.words.items) in
    let past = c.self.invariant.past in
    let counted = c.count_common_bits.ensures f.len (rw c.deref.ensures.value past) in
    let all =
    count_bits f.len f.words.items g.words.items c.self.invariant (subst (λ n. IsBitRow n g.words.items) lens c.other.invariant) in
    rw (← c.self.view_is, ← c.other.view_is, lens)
    (counted
    ∙ ap₂ (λ a b. count_by (λ x. word_bit a x && word_bit b x) (range_with_len 0 f.len)) c.deref.ensures.value c.deref-2.ensures.value
    ∙ all)
