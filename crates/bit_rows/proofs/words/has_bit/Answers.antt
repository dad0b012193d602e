use Rattle.std.proofs.Common.{ap, sym, ◌∙◌, ◌/◌, ◌%◌, eqb, get_or}
use Rattle.std.proofs.lemmas.Nat.Bits.{shr_and_one}
use Rattle.bit_rows.proofs.WordBits.{bit_is}
use Rattle.bit_rows.proofs.words.has_bit.Goals as goal

pub returns : goal.returns
returns c =
    ap (λ z. eqb z 1) (shr_and_one (get_or c.args.words.now (c.args.x / 64) 0) (c.args.x % 64)) ∙ sym (bit_is c.args.words.now c.args.x)
