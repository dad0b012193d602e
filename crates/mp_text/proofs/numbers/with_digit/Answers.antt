use Rattle.std.proofs.Common.{arith, sym}
use Rattle.mp_text.proofs.TextLemmas.{number_from-other, number_from-overflow, number_from-more}
use Rattle.mp_text.proofs.numbers.with_digit.Goals as goal

pub returns-in_err-checked_mul : goal.returns-in_err-checked_mul
returns-in_err-checked_mul c = rw c.from_residual.ensures
    (λ bs.
    number_from-overflow c.args.value c.args.byte bs (sym c.if-is_ascii_digit.ensures.value) (omega (arith, c.in_err-checked_mul.ensures)))

pub returns-in_ok-checked_mul : goal.returns-in_ok-checked_mul
returns-in_ok-checked_mul c = number_from-more c.args.value c.args.byte c.in_ok-checked_mul.field-0 c.from-digit.result
    c.checked_add.result (sym c.if-is_ascii_digit.ensures.value) c.in_ok-checked_mul.ensures.1 c.from-digit.ensures c.checked_add.ensures

pub returns-else-is_ascii_digit : goal.returns-else-is_ascii_digit
returns-else-is_ascii_digit c = λ bs. number_from-other c.args.value c.args.byte bs (sym c.if-is_ascii_digit.ensures.value)
