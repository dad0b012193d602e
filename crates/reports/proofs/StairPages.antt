-- The lines that `segments` prints, token by token and row by row.
use Rattle.std.proofs.Common.{◌≡◌, ◌∙◌, ℕ, ◌+◌, ◌-◌, ◌<◌, true, List, [], ◌∷◌, ◌++◌, length, map}
use Rattle.std.proofs.Common.{take, get_or, decimal, refl, sym, ap, ap₂, arith, append_assoc}
use Rattle.std.specs.List.{enumerate_from, flat_map, list_all}
use Rattle.std.proofs.lemmas.Grind.{flat_map-append}
use Rattle.std.proofs.lemmas.List.{append-nil, take_more, take_all, map-append, get_or-map, length-map}
use Rattle.std.proofs.lemmas.List.Folds.{list_all-append}
use Rattle.std.proofs.lemmas.List.FromFn.{length-enumerate_from, get_or-enumerate_from}
use Rattle.hill_valley.specs.declared.steps.Step.{Step}
use Rattle.mp_text.specs.Report.{is_token, with_token, with_tokens, line_text, text_of_lines}
use Rattle.sp_terms.specs.declared.position.Position.{Position}
use Rattle.sp_terms.specs.declared.position.Values.{Values}
use Rattle.sp_terms.specs.Values.{values_of, term_at}
use Rattle.sp_cuts.specs.Stairs.{BothSteps, both_of, all_of}
use Rattle.sp_cuts.specs.declared.reaching.Stairs.{Stairs}
use Rattle.reports.specs.Segments.{no_steps, report_row_at, report_rows, row_lines, both_lines, side_line, step_tokens}

-- ---- the tokens of a line

abbrev step_pair : Step → List (List ℕ)
step_pair s = decimal s.bound ∷ decimal s.level ∷ []

tokens-append : (text : List ℕ) (xs ys : List (List ℕ)) → with_tokens text (xs ++ ys) ≡ with_tokens (with_tokens text xs) ys
tokens-append text [] ys = refl
tokens-append text (x ∷ xs) ys = tokens-append (with_token text x) xs ys

-- of the first steps of a side
abbrev pub side_up_to : ℕ → List ℕ → ℕ → List Step → ℕ → List (List ℕ)
side_up_to number direction start steps i = side_line number direction start (take i steps)

module _ (number : ℕ) (direction : List ℕ) (start : ℕ) (steps : List Step) where
  side_more : (i : ℕ) (d : Step) → i < length steps
      → side_up_to number direction start steps (i + 1) ≡ side_up_to number direction start steps i ++ step_pair (get_or steps i d)
  side_more i d h =
      ap (λ (tokens : List (List ℕ)). decimal number ∷ direction ∷ decimal start ∷ tokens)
      (ap step_tokens (take_more steps i d h) ∙ flat_map-append step_pair (take i steps) (get_or steps i d ∷ []))

  -- a loop appends one step more
  pub step_printed : (i : ℕ) (d : Step) → i < length steps → (old before one after : List ℕ)
      → before ≡ with_tokens old (side_up_to number direction start steps i)
      → one ≡ with_token before (decimal (get_or steps i d).bound) → after ≡ with_token one (decimal (get_or steps i d).level)
      → after ≡ with_tokens old (side_up_to number direction start steps (i + 1))
  step_printed i d h old before one after was bound level =
      level ∙ ap (λ (t : List ℕ). with_token t (decimal (get_or steps i d).level)) bound
      ∙ ap (λ (t : List ℕ). with_tokens t (step_pair (get_or steps i d))) was
      ∙ sym (ap (with_tokens old) (side_more i d h)
      ∙ tokens-append old (side_up_to number direction start steps i) (step_pair (get_or steps i d)))

  pub step_tokens_are : (i : ℕ) (d : Step) → i < length steps → list_all is_token (side_up_to number direction start steps i) ≡ true
      → is_token (decimal (get_or steps i d).bound) ≡ true → is_token (decimal (get_or steps i d).level) ≡ true
      → list_all is_token (side_up_to number direction start steps (i + 1)) ≡ true
  step_tokens_are i d h before bound level =
      ap (list_all is_token) (side_more i d h)
      ∙ list_all-append is_token (side_up_to number direction start steps i) (step_pair (get_or steps i d))
      ∙ rw (before, bound, level) refl

-- ---- lines

-- two lines
pub two_lines : (one two : List (List ℕ)) (a b c : List ℕ) → b ≡ a ++ line_text one
    → c ≡ b ++ line_text two → c ≡ a ++ text_of_lines (one ∷ two ∷ [])
two_lines one two a b c eb ec =
    ec ∙ ap (λ (t : List ℕ). t ++ line_text two) eb ∙ append_assoc a (line_text one) (line_text two)
    ∙ ap (λ (t : List ℕ). a ++ (line_text one ++ t)) (sym (append-nil (line_text two)))

-- a line, many, and a last one
pub framed_lines : ((text : List ℕ) (lines : List (List (List ℕ))) (line : List (List ℕ))
    → (text ++ text_of_lines lines) ++ line_text line ≡ text ++ text_of_lines (lines ++ line ∷ []))
    → (one last : List (List ℕ)) (lines : List (List (List ℕ))) (a b c : List ℕ)
    → a ≡ line_text one → b ≡ a ++ text_of_lines lines → c ≡ b ++ line_text last
    → c ≡ text_of_lines (one ∷ lines ++ last ∷ [])
framed_lines more one last lines a b c ea eb ec =
    ec ∙ ap (λ (t : List ℕ). t ++ line_text last) eb ∙ more a lines last
    ∙ ap (λ (t : List ℕ). t ++ text_of_lines (lines ++ last ∷ [])) ea

-- ---- the rows

pub length-rows : (ps : List Position) (all : List BothSteps) (numbered : List ℕ) → length (report_rows ps all numbered) ≡ length numbered
length-rows ps all numbered = length-map (enumerate_from 1 numbered) (report_row_at ps all) ∙ length-enumerate_from 1 numbered

-- of the first numbers
abbrev pub rows_before : List Position → List BothSteps → List ℕ → ℕ → List (List (List ℕ))
rows_before ps all numbered i = flat_map row_lines (map (report_row_at ps all) (take i (enumerate_from 1 numbered)))

pub rows_of_all : (ps : List Position) (all : List BothSteps) (numbered : List ℕ)
    → rows_before ps all numbered (length numbered) ≡ flat_map row_lines (report_rows ps all numbered)
rows_of_all ps all numbered =
    ap (λ (xs : List (ℕ × ℕ)). flat_map row_lines (map (report_row_at ps all) xs))
    (take_all (length numbered) (enumerate_from 1 numbered) (omega (arith, length-enumerate_from 1 numbered)))

module _ (ps : List Position) (stairs : List Stairs) (numbered : List ℕ) (i : ℕ) (h : i < length numbered) where
  one_row : rows_before ps (all_of stairs) numbered (i + 1)
      ≡ rows_before ps (all_of stairs) numbered i ++ row_lines (report_row_at ps (all_of stairs) (i + 1, get_or numbered i 0))
  one_row =
      let all = all_of stairs in
      let listed = enumerate_from 1 numbered in
      let here : get_or listed i (0, 0) ≡ (i + 1, get_or numbered i 0) =
      get_or-enumerate_from 1 numbered i (0, 0) h ∙ ap (λ (n : ℕ). (n, get_or numbered i 0)) (omega arith) in
      ap (λ (xs : List (ℕ × ℕ)). flat_map row_lines (map (report_row_at ps all) xs))
      (take_more listed i (0, 0) (omega (arith, h, length-enumerate_from 1 numbered)))
      ∙ ap (flat_map row_lines) (map-append (report_row_at ps all) (take i listed) (get_or listed i (0, 0) ∷ []))
      ∙ flat_map-append row_lines (map (report_row_at ps all) (take i listed)) (report_row_at ps all (get_or listed i (0, 0)) ∷ [])
      ∙ ap (λ (lines : List (List (List ℕ))). rows_before ps all numbered i ++ lines)
      (append-nil (row_lines (report_row_at ps all (get_or listed i (0, 0)))) ∙ ap (λ (p : ℕ × ℕ). row_lines (report_row_at ps all p)) here)

  -- a loop prints one row more
  pub row_printed : ((xs ys : List (List (List ℕ))) → text_of_lines (xs ++ ys) ≡ text_of_lines xs ++ text_of_lines ys)
      → (v : Values) (s d : Stairs) → get_or numbered i 0 - 1 < length stairs
      → v ≡ values_of (term_at ps (get_or numbered i 0 - 1)) → s ≡ get_or stairs (get_or numbered i 0 - 1) d
      → (old before after : List ℕ) → before ≡ old ++ text_of_lines (rows_before ps (all_of stairs) numbered i)
      → after ≡ before ++ text_of_lines (both_lines (i + 1) v.initial v.fin (both_of s))
      → after ≡ old ++ text_of_lines (rows_before ps (all_of stairs) numbered (i + 1))
  row_printed parts v s d few v_is s_is old before after was is =
      let all = all_of stairs in
      let k = get_or numbered i 0 in
      let row = report_row_at ps all (i + 1, k) in
      let steps : both_of s ≡ get_or all (k - 1) no_steps = ap both_of s_is ∙ sym (get_or-map both_of stairs (k - 1) d no_steps few) in
      let lines : both_lines (i + 1) v.initial v.fin (both_of s) ≡ row_lines row =
      ap₂ (λ (w : Values) (b : BothSteps). both_lines (i + 1) w.initial w.fin b) v_is steps in
      is ∙ ap₂ (λ (t : List ℕ) (ls : List (List (List ℕ))). t ++ text_of_lines ls) was lines
      ∙ append_assoc old (text_of_lines (rows_before ps all numbered i)) (text_of_lines (row_lines row))
      ∙ ap (λ (t : List ℕ). old ++ t) (sym (ap text_of_lines one_row ∙ parts (rows_before ps all numbered i) (row_lines row)))
