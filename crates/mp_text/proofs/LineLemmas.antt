-- Where a line ends, and what its first byte says of it.
use Rattle.std.proofs.Common.{◌≡◌, ◌≢◌, ℕ, ◌<◌, ◌≤◌, ◌||◌, Bool, true, false, eqb, List, [], ◌∷◌, length, take}
use Rattle.std.proofs.Common.{drop, get_or, Option, Some, None, unwrap_or, refl, sym, ap, ◌∙◌, arith}
use Rattle.std.specs.List.{position_or_len, prefix_len}
use denote.Enum.Bare.{sameb}
use Rattle.std.proofs.lemmas.Bool.{false_from_ne_true, ne_eqb}
use Rattle.std.proofs.lemmas.List.{length-drop}
use Rattle.std.proofs.lemmas.List.Sums.{position_or_len_is}
use Rattle.memchr.specs.Find.{IsFirstByte, is_byte}
use Rattle.mp_text.specs.contracts.layout.Layout.{the_type}
use Rattle.mp_text.specs.declared.layout.Layout.{Layout}
use Rattle.mp_text.specs.declared.layout.Layout.TheVariants.{Commented, Banner}
use Rattle.mp_text.specs.Text.{is_blank, is_feed, tokens_of, says_nothing}
use Rattle.mp_text.proofs.TextLemmas.{before_first-no, not_blank_after, no_token, token_cut}

-- where the search for a line feed stops
pub feed-at : (bytes : List ℕ) (found : Option ℕ) → IsFirstByte (is_byte 10) bytes found
    → unwrap_or found (length bytes) ≡ position_or_len is_feed bytes
feed-at bytes None nowhere =
    sym (position_or_len_is is_feed bytes (length bytes) 0 (omega arith)
    (λ k lt. false_from_ne_true (is_feed (get_or bytes k 0)) (nowhere k (omega arith) lt)) (λ lt. absurd (omega arith)))
feed-at bytes (Some at) (first, here) =
    sym (position_or_len_is is_feed bytes at 0 (let high = first.high in omega arith)
    (λ k lt. false_from_ne_true (is_feed (get_or bytes k 0)) (first.before k (omega arith) lt)) (λ lt. here))

-- whether a token that begins with this byte begins a comment
abbrev pub marks_comment : Layout → ℕ → Bool
marks_comment Commented b = eqb b 37 || eqb b 35
marks_comment Banner b = eqb b 37

module _ (line text : List ℕ) (text_is : text ≡ drop (prefix_len is_blank line) line) where
  pub blank-line : (layout : Layout) → length text < 1 → true ≡ says_nothing layout (tokens_of line)
  blank-line layout none = rw (no_token line text text (prefix_len is_blank line) refl text_is (omega arith)) refl

  first_byte : (layout : Layout) (xs : List ℕ) → 1 ≤ length xs → is_blank (get_or xs 0 0) ≡ false →
      says_nothing layout (take (position_or_len is_blank xs) xs ∷ tokens_of (drop (position_or_len is_blank xs) xs))
      ≡ marks_comment layout (get_or xs 0 0)
  first_byte layout [] some plain = absurd (omega arith)
  first_byte Commented (b ∷ bs) some plain = rw (before_first-no is_blank b bs plain) refl
  first_byte Banner (b ∷ bs) some plain = rw (before_first-no is_blank b bs plain) refl

  begins : (layout : Layout) → 1 ≤ length text → says_nothing layout (tokens_of line) ≡ marks_comment layout (get_or text 0 0)
  begins layout some =
      let within : prefix_len is_blank line < length line = omega (arith, ap length text_is, length-drop (prefix_len is_blank line) line) in
      let plain : is_blank (get_or text 0 0) ≡ false = rw text_is (not_blank_after line within) in
      ap (says_nothing layout) (token_cut line text text (prefix_len is_blank line) refl text_is some) ∙ first_byte layout text some plain

  pub percent-line : (layout : Layout) → 1 ≤ length text → get_or text 0 0 ≡ 37 → true ≡ says_nothing layout (tokens_of line)
  percent-line Commented some is = sym (begins Commented some ∙ rw is refl)
  percent-line Banner some is = sym (begins Banner some ∙ rw is refl)

  pub hash-line : (layout : Layout) → 1 ≤ length text → get_or text 0 0 ≡ 35
      → sameb the_type layout Commented ≡ says_nothing layout (tokens_of line)
  hash-line Commented some is = sym (begins Commented some ∙ rw is refl)
  hash-line Banner some is = sym (begins Banner some ∙ rw is refl)

  pub other-line : (layout : Layout) → 1 ≤ length text → get_or text 0 0 ≢ 37
      → get_or text 0 0 ≢ 35 → false ≡ says_nothing layout (tokens_of line)
  other-line Commented some one two =
      sym (begins Commented some ∙ rw (ne_eqb (get_or text 0 0) 37 one, ne_eqb (get_or text 0 0) 35 two) refl)
  other-line Banner some one two = sym (begins Banner some ∙ ne_eqb (get_or text 0 0) 37 one)
