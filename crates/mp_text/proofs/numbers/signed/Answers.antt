use Rattle.std.proofs.Common.{◌∙◌, ap, sym}
use Rattle.std.specs.Option.{option_and_then}
use Rattle.mp_text.specs.Text.{positive_of, negative_of}
use Rattle.mp_text.proofs.TextLemmas.{and_then-value, signed_of-minus, signed_of-plain}
use Rattle.mp_text.proofs.numbers.signed.Goals as goal

pub returns-in-Some : goal.returns-in-Some
returns-in-Some c =
    let minus = c.in-Some.ensures.cases in
    and_then-value negative_of c.number.result c.and_then.result c.and_then.ensures
    ∙ ap (option_and_then negative_of) c.number.ensures
    ∙ sym (signed_of-minus c.args.token.now c.in-Some.digits.now minus.0 minus.1)

pub returns-in-None : goal.returns-in-None
returns-in-None c =
    and_then-value positive_of c.number-in-None.result c.and_then-in-None.result c.and_then-in-None.ensures
    ∙ ap (option_and_then positive_of) c.number-in-None.ensures
    ∙ sym (signed_of-plain c.args.token.now c.in-None.ensures.cases)
