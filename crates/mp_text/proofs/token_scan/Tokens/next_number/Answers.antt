use Rattle.std.proofs.Common.{[], refl, sym, ◌∙◌}
use Rattle.mp_text.proofs.TextLemmas.{number_of-empty}
use Rattle.mp_text.proofs.token_scan.Tokens.next_number.Goals as goal

pub returns-in_err-token-clause-number : goal.returns-in_err-token-clause-number
returns-in_err-token-clause-number c =
    let none = sym c.in_default.ensures.none ∙ c.in_err-token.ensures.steps.0 in
    rw (c.from_residual.ensures, none) (sym (number_of-empty [] refl))
