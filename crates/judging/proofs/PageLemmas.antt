-- Lines of a report.
use Rattle.std.proofs.Common.{◌≡◌, ◌∙◌, ◌+◌, ◌<◌, ℕ, true, List, [], ◌∷◌, ◌++◌, length}
use Rattle.std.proofs.Common.{map, take, get_or, refl, sym, ap, append_assoc, decimal}
use Rattle.std.specs.List.{list_all}
use Rattle.std.proofs.lemmas.Bool.{and_from}
use Rattle.std.proofs.lemmas.List.{take_more, map-append}
use Rattle.std.proofs.lemmas.List.Folds.{list_all-append}
use Rattle.mp_text.specs.Report.{is_token, line_text, text_of_lines, with_token, with_tokens}
use Rattle.mp_text.proofs.ReportLemmas.{with_tokens-push}

-- two lines, many, and a last one
pub page-lines : ((text : List ℕ) (lines : List (List (List ℕ))) (line : List (List ℕ))
    → (text ++ text_of_lines lines) ++ line_text line ≡ text ++ text_of_lines (lines ++ line ∷ []))
    → (one two last : List (List ℕ)) (lines : List (List (List ℕ))) (a b c d : List ℕ)
    → a ≡ line_text one → b ≡ a ++ line_text two → c ≡ b ++ text_of_lines lines → d ≡ c ++ line_text last
    → d ≡ text_of_lines (one ∷ two ∷ lines ++ last ∷ [])
page-lines more one two last lines a b c d ea eb ec ed =
    ed ∙ ap (λ (t : List ℕ). t ++ line_text last) ec ∙ more b lines last
    ∙ ap (λ (t : List ℕ). t ++ text_of_lines (lines ++ last ∷ [])) (eb ∙ ap (λ (t : List ℕ). t ++ line_text two) ea)
    ∙ append_assoc (line_text one) (line_text two) (text_of_lines (lines ++ last ∷ []))

-- four lines, many, and a last one
pub trace-lines : ((text : List ℕ) (lines : List (List (List ℕ))) (line : List (List ℕ))
    → (text ++ text_of_lines lines) ++ line_text line ≡ text ++ text_of_lines (lines ++ line ∷ []))
    → (one two three four last : List (List ℕ)) (lines : List (List (List ℕ))) (a b c d e f : List ℕ)
    → a ≡ line_text one → b ≡ a ++ line_text two → c ≡ b ++ line_text three
    → d ≡ c ++ line_text four → e ≡ d ++ text_of_lines lines → f ≡ e ++ line_text last
    → f ≡ text_of_lines (one ∷ two ∷ three ∷ four ∷ lines ++ last ∷ [])
trace-lines more one two three four last lines a b c d e f ea eb ec ed ee ef =
    let rest = text_of_lines (lines ++ last ∷ []) in
    ef ∙ ap (λ (t : List ℕ). t ++ line_text last) ee ∙ more d lines last
    ∙ ap (λ (t : List ℕ). t ++ rest) (ed ∙ ap (λ (t : List ℕ). t ++ line_text four)
    (ec ∙ ap (λ (t : List ℕ). t ++ line_text three) (eb ∙ ap (λ (t : List ℕ). t ++ line_text two) ea)))
    ∙ append_assoc ((line_text one ++ line_text two) ++ line_text three) (line_text four) rest
    ∙ append_assoc (line_text one ++ line_text two) (line_text three) (line_text four ++ rest)
    ∙ append_assoc (line_text one) (line_text two) (line_text three ++ (line_text four ++ rest))

-- ---- numbers on one line

module _ (numbers : List ℕ) (i : ℕ) (lt : i < length numbers) (n : ℕ) (is : n ≡ get_or numbers i 0) where
  one_more : map decimal (take (i + 1) numbers) ≡ map decimal (take i numbers) ++ decimal n ∷ []
  one_more =
      ap (map decimal) (take_more numbers i 0 lt ∙ ap (λ (x : ℕ). take i numbers ++ x ∷ []) (sym is))
      ∙ map-append decimal (take i numbers) (n ∷ [])

  -- a loop appends one more
  pub token_more : (start old new : List ℕ) → old ≡ with_tokens start (map decimal (take i numbers)) → new ≡ with_token old (decimal n)
      → new ≡ with_tokens start (map decimal (take (i + 1) numbers))
  token_more start old new before one =
      one ∙ ap (λ (t : List ℕ). with_token t (decimal n)) before ∙ sym (with_tokens-push start (map decimal (take i numbers)) (decimal n))
      ∙ ap (with_tokens start) (sym one_more)

  pub tokens_more : list_all is_token (map decimal (take i numbers)) ≡ true → is_token (decimal n) ≡ true
      → list_all is_token (map decimal (take (i + 1) numbers)) ≡ true
  tokens_more before one =
      ap (list_all is_token) one_more ∙ list_all-append is_token (map decimal (take i numbers)) (decimal n ∷ [])
      ∙ and_from (list_all is_token (map decimal (take i numbers))) (list_all is_token (decimal n ∷ [])) before
      (and_from (is_token (decimal n)) true one refl)
