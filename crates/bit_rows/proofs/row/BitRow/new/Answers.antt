use Rattle.std.proofs.Common.{◌≡◌, ℕ, ◌+◌, ◌/◌, replicate}
use Rattle.std.proofs.lemmas.List.{length-replicate}
use Rattle.bit_rows.proofs.WordBits.{bit_zeros}
use Rattle.bit_rows.proofs.RowBits.{row_none}
use Rattle.bit_rows.proofs.row.BitRow.new.Goals as goal

pub invariant_of-result : goal.invariant_of-result
invariant_of-result c =
    let n = c.args.len in
    let w : c.in_ok-words.words.items ≡ replicate ((n + 63) / 64) 0 = c.in_ok-words.ensures.items_if_clones_equal (λ y h. h) in
    rw w (record {
      small = c.requires;
      long = length-replicate {A = ℕ} ((n + 63) / 64) 0;
      past = λ x le. bit_zeros ((n + 63) / 64) x;
    })

pub returns : goal.returns
returns c =
    let n = c.args.len in
    let w : c.in_ok-words.words.items ≡ replicate ((n + 63) / 64) 0 = c.in_ok-words.ensures.items_if_clones_equal (λ y h. h) in
    rw w (row_none n ((n + 63) / 64))
