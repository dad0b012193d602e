-- How a report grows: numbers on a line, one after the other, and the parts of a file.
use Rattle.std.proofs.Common.{◌≡◌, ◌∙◌, ◌+◌, ◌<◌, ℕ, true, List, [], ◌∷◌, ◌++◌, length, map, take, get_or, refl, sym, ap, append_assoc, append-nil}
use Rattle.std.proofs.Common.{decimal}
use Rattle.std.specs.List.{list_all}
use Rattle.std.proofs.lemmas.Bool.{and_from}
use Rattle.std.proofs.lemmas.List.{take_more, map-append}
use Rattle.std.proofs.lemmas.List.Folds.{list_all-append}
use Rattle.mp_text.specs.Report.{is_token, line_text, text_of_lines, with_token, with_tokens}
use Rattle.mp_text.proofs.ReportLemmas.{with_tokens-push, text_of_lines-append}

-- ---- an item's line, with some of its readers

abbrev pub numbers_up_to : ℕ → ℕ → List ℕ → ℕ → List (List ℕ)
numbers_up_to size from readers i = map decimal (size ∷ from ∷ take i readers)

module _ (size from : ℕ) (readers : List ℕ) (i : ℕ) (lt : i < length readers) (n : ℕ) (is : n ≡ get_or readers i 0) where
  one_more : numbers_up_to size from readers (i + 1) ≡ numbers_up_to size from readers i ++ decimal n ∷ []
  one_more =
      ap (λ (ns : List ℕ). map decimal (size ∷ from ∷ ns))
      (take_more readers i 0 lt ∙ ap (λ (x : ℕ). take i readers ++ x ∷ []) (sym is))
      ∙ map-append decimal (size ∷ from ∷ take i readers) (n ∷ [])

  pub token_more : (start old new : List ℕ) → old ≡ with_tokens start (numbers_up_to size from readers i) → new ≡ with_token old (decimal n)
      → new ≡ with_tokens start (numbers_up_to size from readers (i + 1))
  token_more start old new before one =
      one ∙ ap (λ (t : List ℕ). with_token t (decimal n)) before
      ∙ sym (with_tokens-push start (numbers_up_to size from readers i) (decimal n)) ∙ ap (with_tokens start) (sym one_more)

  pub tokens_more : list_all is_token (numbers_up_to size from readers i) ≡ true → is_token (decimal n) ≡ true
      → list_all is_token (numbers_up_to size from readers (i + 1)) ≡ true
  tokens_more before one =
      ap (list_all is_token) one_more ∙ list_all-append is_token (numbers_up_to size from readers i) (decimal n ∷ [])
      ∙ and_from (list_all is_token (numbers_up_to size from readers i)) (list_all is_token (decimal n ∷ [])) before
      (and_from (is_token (decimal n)) true one refl)

-- ---- all lines

-- two lines, many, one, many, and a last one
pub whole_text : (one two three last : List (List ℕ)) (xs ys : List (List (List ℕ))) (start a b c d e f : List ℕ)
    → a ≡ start ++ line_text one → b ≡ a ++ line_text two → c ≡ b ++ text_of_lines xs → d ≡ c ++ line_text three
    → e ≡ d ++ text_of_lines ys → f ≡ e ++ line_text last
    → f ≡ start ++ text_of_lines (one ∷ two ∷ (xs ++ three ∷ (ys ++ last ∷ [])))
whole_text one two three last xs ys start a b c d e f ea eb ec ed ee ef =
    let grown : f
    ≡ (((((start ++ line_text one) ++ line_text two) ++ text_of_lines xs) ++ line_text three) ++ text_of_lines ys) ++ line_text last =
    ef ∙ ap (λ (t : List ℕ). t ++ line_text last) (ee ∙ ap (λ (t : List ℕ). t ++ text_of_lines ys)
    (ed ∙ ap (λ (t : List ℕ). t ++ line_text three) (ec ∙ ap (λ (t : List ℕ). t ++ text_of_lines xs)
    (eb ∙ ap (λ (t : List ℕ). t ++ line_text two) ea)))) in
    let end : text_of_lines (ys ++ last ∷ []) ≡ text_of_lines ys ++ line_text last =
    text_of_lines-append ys (last ∷ []) ∙ ap (λ (t : List ℕ). text_of_lines ys ++ t) (append-nil (line_text last)) in
    let parts : text_of_lines (xs ++ three ∷ (ys ++ last ∷ []))
    ≡ text_of_lines xs ++ (line_text three ++ (text_of_lines ys ++ line_text last)) =
    text_of_lines-append xs (three ∷ (ys ++ last ∷ []))
    ∙ ap (λ (t : List ℕ). text_of_lines xs ++ (line_text three ++ t)) end in
    grown ∙ flat start (line_text one) (line_text two) (text_of_lines xs) (line_text three) (text_of_lines ys) (line_text last)
    ∙ sym (ap (λ (t : List ℕ). start ++ (line_text one ++ (line_text two ++ t))) parts)
  where
    flat : (s a b c d e f : List ℕ) → (((((s ++ a) ++ b) ++ c) ++ d) ++ e) ++ f ≡ s ++ (a ++ (b ++ (c ++ (d ++ (e ++ f)))))
    flat s a b c d e f = simp append_assoc
