use Rattle.std.proofs.Common.{◌∙◌, arith, sym}
use Rattle.mp_text.proofs.DigitLemmas.{spells-more}
use Rattle.mp_text.proofs.numbers.leading_number.Goals as goal

pub loop-len-preserved : goal.loop-len-preserved
loop-len-preserved c =
    let at = c.loop-len.invariant in
    let digit = sym c.is_ascii_digit.ensures.value ∙ c.if-is_ascii_digit.true in
    record {
      within = omega arith;
      spells = rw c.from.ensures (spells-more c.args.text.now c.loop-len.len c.loop-len.value c.loop-len-test.true digit at.spells);
    }
