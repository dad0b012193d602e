-- Rows that a scan of lines has before it, from some row on.
use Rattle.std.proofs.Common.{◌≡◌, ℕ, ◌+◌, List, [], ◌∷◌, get_or, drop, Option, Some, None, sym, ap, ◌∙◌, arith}
use Rattle.std.specs.Option.{MatchOption, IfNone}
use Rattle.std.proofs.lemmas.List.{drop-drop, get_or-drop}
use Rattle.mp_text.specs.Text.{Row}

-- one row more is taken, or none is left
next_rows : {L : Type 0} (found : Option L) (row_of : L → Row) (old new : List Row)
    → MatchOption found (old ≡ []) (λ line. old ≡ row_of line ∷ new)
    → IfNone found (new ≡ []) → new ≡ drop 1 old
next_rows None row_of old new none empty = empty ∙ sym (ap (drop 1) none)
next_rows (Some line) row_of old new some empty = sym (ap (drop 1) some)

pub rows_from_next : {L : Type 0} (found : Option L) (row_of : L → Row) (rows old new : List Row) (i : ℕ) → old ≡ drop i rows
    → MatchOption found (old ≡ []) (λ line. old ≡ row_of line ∷ new) → IfNone found (new ≡ []) → new ≡ drop (i + 1) rows
rows_from_next found row_of rows old new i before next none =
    next_rows found row_of old new next none ∙ ap (drop 1) before ∙ drop-drop 1 i rows

-- the row at the head of these
pub row_ahead : (rows ahead : List Row) (i : ℕ) (d : Row) → ahead ≡ drop i rows → get_or rows i d ≡ get_or ahead 0 d
row_ahead rows ahead i d is =
    let here : i + 0 ≡ i = omega arith in
    sym (ap (λ (l : List Row). get_or l 0 d) is ∙ get_or-drop i rows 0 d ∙ ap (λ (k : ℕ). get_or rows k d) here)
