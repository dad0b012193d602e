use Rattle.std.proofs.Common.{◌≡◌, ◌∙◌, ◌-◌, length, drop, arith, sym, ap, subst, Some, List, ℕ, get_or, []}
use Rattle.std.specs.List.{position_or_len}
use Rattle.std.proofs.lemmas.Bool.{eqb-true}
use Rattle.std.proofs.lemmas.List.{take_all, length-drop}
use Rattle.mp_text.specs.Text.{is_blank, tokens_of, number_of}
use Rattle.mp_text.proofs.DigitLemmas.{short-number, short-rest}
use Rattle.mp_text.proofs.token_scan.Tokens.short_number.Goals as goal

pub returns-clause-some : goal.returns-clause-some
returns-clause-some c =
    let line = c.self.inside.rest.now in
    let text = c.after_blanks-text.result.now in
    let len = c.leading_number-value.result.1 in
    let value = c.leading_number-value.result.0 in
    let e = c.leading_number-value.ensures in
    let whole = take_all (length text - len) (drop len text) (omega (arith, length-drop len text)) in
    let ends : position_or_len is_blank (drop len text) ≡ 0 =
    ap (position_or_len is_blank) (sym whole) ∙ eqb-true _ 0 (sym c.ends_token.ensures ∙ c.if-not-ends_token.false) in
    let number = short-number line text c.after_blanks-text.ensures len value e.within c.if-len-eq0.false (omega arith) e.spells ends in
    let rest = short-rest line text c.after_blanks-text.ensures len value e.within c.if-len-eq0.false (omega arith) e.spells ends in (
      subst (λ (tokens : List (List ℕ)). Some value ≡ number_of (get_or tokens 0 [])) c.self.view_is number,
      ap tokens_of whole ∙ rest ∙ ap (drop 1) c.self.view_is,
    )
