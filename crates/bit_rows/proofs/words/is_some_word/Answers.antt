use Rattle.std.proofs.Common.{◌<◌, ◌≢◌, ◌*◌, ◌+◌, ◌^◌, get_or, arith, w64}
use Rattle.std.specs.Int.{trailing_zeros}
use Rattle.std.proofs.lemmas.Bool.{eqb-false, not-true}
use Rattle.bit_rows.proofs.WordBits.{lowest_in}
use Rattle.bit_rows.proofs.words.is_some_word.Goals as goal

pub returns-clause-some : goal.returns-clause-some
returns-clause-some c = λ t.
    let words = c.args.words.now in
    let k = c.args.k in
    let fits = c.type_inv.words k in
    let below : get_or words k 0 < 2 ^ 64 = omega arith in
    let some : get_or words k 0 ≢ 0 = eqb-false (get_or words k 0) 0 (not-true _ t) in
    (64 * k + trailing_zeros w64 (get_or words k 0), lowest_in words k some below)
