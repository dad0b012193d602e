-- What the laws of printed numbers and files say, for proofs that a printed file is read as it was.
use Rattle.std.proofs.Common.{◌≡◌, ℕ, ◌+◌, ◌^◌, ◌<◌, true, List, [], ◌∷◌, ◌++◌, length, map, refl, Some, ℤ}
use Rattle.std.specs.Bool.{IsTrue}
use Rattle.std.specs.Fmt.{decimal, signed_decimal}
use Rattle.std.specs.Prelude.{FitsSigned}
use Rattle.std.specs.Int.{w64}
use Rattle.std.specs.List.{All, list_all}
use Rattle.std.proofs.lemmas.Bool.{and_from}
use Rattle.std.proofs.lemmas.List.Elements.{All-head, All-tail}
use Rattle.mp_text.specs.declared.layout.Layout.{Layout}
use Rattle.mp_text.specs.Text.{number_of, numbers_of, signed_of}
use Rattle.mp_text.specs.Ahead.{rows_of_bytes}
use Rattle.mp_text.specs.Report.{is_token, is_counted, numbered_from, text_of_lines}

-- numbers that are printed
abbrev pub IsSmall : ℕ → Type 0
IsSmall n = n < 2 ^ 64

abbrev pub AreSmall : List ℕ → Type 0
AreSmall = All IsSmall

pub record AreLaws : Type 0 where
  pub token : (n : ℕ) → n < 2 ^ 64 → IsTrue (is_token (decimal n))
  pub value : (n : ℕ) → n < 2 ^ 64 → number_of (decimal n) ≡ Some n
  pub values : (ns : List ℕ) → All (λ n. n < 2 ^ 64) ns → numbers_of (map decimal ns) ≡ Some ns
  pub signed_token : (n : ℤ) → FitsSigned w64 n → IsTrue (is_token (signed_decimal n))
  pub signed_value : (n : ℤ) → FitsSigned w64 n → signed_of (signed_decimal n) ≡ Some n
  pub counted : (layout : Layout) (n : ℕ) (tokens : List (List ℕ)) → n < 2 ^ 64 → IsTrue (list_all is_token tokens)
      → IsTrue (is_counted layout (decimal n ∷ tokens))
  pub rows : (layout : Layout) (lines : List (List (List ℕ))) → IsTrue (list_all (is_counted layout) lines)
      → rows_of_bytes layout (text_of_lines lines) ≡ numbered_from 1 lines
  pub parts : (n : ℕ) (xs ys : List (List (List ℕ)))
      → numbered_from n (xs ++ ys) ≡ numbered_from n xs ++ numbered_from (n + length xs) ys
  pub count : (n : ℕ) (lines : List (List (List ℕ))) → length (numbered_from n lines) ≡ length lines

pub all_tokens : AreLaws → (ns : List ℕ) → AreSmall ns → list_all is_token (map decimal ns) ≡ true
all_tokens laws [] small = refl
all_tokens laws (n ∷ ns) small =
    and_from _ _ (laws.token n (All-head IsSmall n ns small)) (all_tokens laws ns (All-tail IsSmall n ns small))

-- a line of numbers counts
pub numbers_counted : AreLaws → (layout : Layout) (n : ℕ) (ns : List ℕ) → AreSmall (n ∷ ns)
    → is_counted layout (map decimal (n ∷ ns)) ≡ true
numbers_counted laws layout n ns small =
    laws.counted layout n (map decimal ns) (All-head IsSmall n ns small) (all_tokens laws ns (All-tail IsSmall n ns small))
