use Rattle.std.proofs.Common.{◌<◌, ◌^◌, get_or, arith}
use Rattle.bit_rows.proofs.WordBits.{lowest_in}
use Rattle.bit_rows.proofs.words.lowest_bit.Goals as goal

pub returns : goal.returns
returns c =
    let fits = c.type_inv.words c.args.k in
    let below : get_or c.args.words.now c.args.k 0 < 2 ^ 64 = omega arith in
    lowest_in c.args.words.now c.args.k c.requires.some below
