-- Digits at the head of a text, and the token that they are.
use Rattle.std.proofs.Common.{◌≡◌, ◌≢◌, ℕ, zero, suc, ◌+◌, ◌*◌, ◌-◌, ◌^◌, ◌<◌, ◌≤◌, true, false, List, [], ◌∷◌, ◌++◌, length}
use Rattle.std.proofs.Common.{take, drop, get_or, Some, refl, sym, ap, ◌∙◌, arith, inl, inr, append_assoc, append-nil}
use Rattle.std.specs.List.{position_or_len, prefix_len}
use Rattle.std.proofs.lemmas.Bool.Decides.{nat_tests}
use Rattle.std.proofs.lemmas.List.{take_more, length-take-le}
use Rattle.mp_text.specs.Text.{is_blank, is_digit, tokens_of, number_from, number_of}
use Rattle.mp_text.proofs.TextLemmas.{number_from-digit, number_from-other, number_from-nil, number_of-filled, token_cut}
use Rattle.lists.proofs.Bools.{true_or_false as bool_cases}

-- the first bytes of a text spell a number, whatever follows them
abbrev pub Spells : List ℕ → ℕ → ℕ → Type 0
Spells text len value = (rest : List ℕ) → number_from 0 (take len text ++ rest) ≡ number_from value rest

pub spells-none : (text : List ℕ) → Spells text 0 0
spells-none text rest = refl

pub spells-more : (text : List ℕ) (len value : ℕ) → len < length text → is_digit (get_or text len 0) ≡ true → Spells text len value
    → Spells text (len + 1) (10 * value + (get_or text len 0 - 48))
spells-more text len value lt digit spells rest =
    let byte = get_or text len 0 in
    ap (λ (t : List ℕ). number_from 0 (t ++ rest)) (take_more text len 0 lt)
    ∙ ap (number_from 0) (append_assoc (take len text) (byte ∷ []) rest)
    ∙ spells (byte ∷ rest)
    ∙ number_from-digit value byte rest digit

pub spells-alone : (text : List ℕ) (len value : ℕ) → value < 2 ^ 64 → Spells text len value → number_from 0 (take len text) ≡ Some value
spells-alone text len value fits spells =
    ap (number_from 0) (sym (append-nil (take len text))) ∙ spells [] ∙ number_from-nil value fits

-- a digit is no blank
digit-plain : (b : ℕ) → is_digit b ≡ true → is_blank b ≡ false
digit-plain b digit = grind (arith, nat_tests)

-- a token that is digits ends where it is said to
digits-end : (n len v : ℕ) (text : List ℕ) → number_from n (take len text) ≡ Some v → len ≤ length text
    → position_or_len is_blank (drop len text) ≡ 0 → position_or_len is_blank text ≡ len
digits-end n zero v text spelled within ends = ends
digits-end n (suc len) v [] spelled within ends = absurd (omega arith)
digits-end n (suc len) v (b ∷ bs) spelled within ends =
    elim (bool_cases (is_digit b)) [
      | inl digit ↦ (
          let more =
          digits-end (10 * n + (b - 48)) len v bs (sym (number_from-digit n b (take len bs) digit) ∙ spelled) (omega arith) ends in
          let one : 1 + len ≡ suc len = omega arith in
          rw (digit-plain b digit) (ap (λ (k : ℕ). 1 + k) more ∙ one)
          )
      | inr other ↦ absurd (let none = number_from-other n b (take len bs) other in cc)
    ]

module _ (line text : List ℕ) (text_is : text ≡ drop (prefix_len is_blank line) line)
    (len value : ℕ) (within : len ≤ length text) (some : len ≢ 0)
    (fits : value < 2 ^ 64) (spells : Spells text len value) (ends : position_or_len is_blank (drop len text) ≡ 0) where
  cut : tokens_of line ≡ take len text ∷ tokens_of (drop len text)
  cut =
      let at = digits-end 0 len value text (spells-alone text len value fits spells) within ends in
      rw at at (token_cut line text text (prefix_len is_blank line) refl text_is (omega arith))

  pub short-number : Some value ≡ number_of (get_or (tokens_of line) 0 [])
  short-number =
      let filled : 0 < length (take len text) = omega (arith, length-take-le len text within) in
      rw cut (sym (number_of-filled (take len text) filled ∙ spells-alone text len value fits spells))

  pub short-rest : tokens_of (drop len text) ≡ drop 1 (tokens_of line)
  short-rest = rw cut refl
