-- Texts of lines that are printed one after another.
use Rattle.std.proofs.Common.{◌≡◌, ℕ, List, [], ◌∷◌, ◌++◌, sym, ap, ◌∙◌, append_assoc, append-nil}
use Rattle.std.proofs.lemmas.Grind.{flat_map-append}
use Rattle.mp_text.specs.Report.{line_text, text_of_lines}

pub joined-text : (old one two : List ℕ) (xs ys : List (List (List ℕ))) → one ≡ old ++ text_of_lines xs → two ≡ one ++ text_of_lines ys
    → two ≡ old ++ text_of_lines (xs ++ ys)
joined-text old one two xs ys e f =
    f ∙ ap (λ (text : List ℕ). text ++ text_of_lines ys) e ∙ append_assoc old (text_of_lines xs) (text_of_lines ys)
    ∙ ap (λ (text : List ℕ). old ++ text) (sym (flat_map-append line_text xs ys))

-- a line, some lines, and a line
pub framed-text : (old one two three : List ℕ) (first : List (List ℕ)) (lines : List (List (List ℕ))) (last : List (List ℕ))
    → one ≡ old ++ line_text first → two ≡ one ++ text_of_lines lines → three ≡ two ++ line_text last
    → three ≡ old ++ text_of_lines (first ∷ (lines ++ last ∷ []))
framed-text old one two three first lines last e f g =
    let begun : one ≡ old ++ text_of_lines (first ∷ []) = e ∙ ap (λ (text : List ℕ). old ++ text) (sym (append-nil (line_text first))) in
    let ended : three ≡ two ++ text_of_lines (last ∷ []) = g ∙ ap (λ (text : List ℕ). two ++ text) (sym (append-nil (line_text last))) in
    joined-text old one three (first ∷ []) (lines ++ last ∷ []) begun (joined-text one two three lines (last ∷ []) f ended)
