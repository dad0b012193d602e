-- Of files whose tokens are tested one after another: what holds after all of them, and which refusals there are not.
use Rattle.std.proofs.Common.{◌≡◌, ◌≢◌, ℕ, List, [], ◌∷◌, ◌++◌, Option, Some, None, inl, inr, refl, sym, subst, ◌∙◌, append_assoc}
use Rattle.std.proofs.Common.{append-nil}
use Rattle.std.specs.Option.{option_or}
use Rattle.limits.specs.declared.name.LimitName.{LimitName}
use Rattle.mp_text.specs.declared.layout.Layout.TheVariants.{Commented}
use Rattle.mp_text.specs.declared.refusals.Refusal.{Refusal}
use Rattle.mp_text.specs.declared.refusals.Refusal.TheVariants as refusals
use Rattle.mp_text.specs.Text.{Row}
use Rattle.mp_text.specs.Ahead.{rows_of_bytes, past_of_bytes}
use Rattle.mp_text.specs.Grammar.{Test, Format, first_failure, tests_of_all}
use Rattle.mp_text.specs.Reading.{IsRefusal}
use Rattle.mp_text.specs.ReadingLaws.{first_failure-append}
use Rattle.matrix_files.specs.OrderFile.{tokens_of_rows}
use Rattle.matrix_files.specs.OrderReader.{IsFormatRefusal}
use Rattle.matrix_files.specs.declared.perm_file.PermKind.{PermKind}
use Rattle.matrix_files.proofs.OrderReaderLaws.{tokens-push}

-- ---- what each token that passes keeps

both_pass : {K : Type 0} (xs ys : List (Test K)) → first_failure (xs ++ ys) ≡ None → (first_failure xs ≡ None) × (first_failure ys ≡ None)
both_pass {K} xs ys none = go (first_failure xs) refl where
  same : (first : Option (Refusal K)) → first_failure xs ≡ first → option_or first (first_failure ys) ≡ None
  same first e = rw (← e) (sym (first_failure-append xs ys) ∙ none)

  go : (first : Option (Refusal K)) → first_failure xs ≡ first → (first_failure xs ≡ None) × (first_failure ys ≡ None)
  go None e = (e, same None e)
  go (Some r) e = absurd (let some = same (Some r) e in cc)

tokens_keep : {K : Type 0} (tests : List (List ℕ) → List ℕ → List (Test K)) (P : List (List ℕ) → Type 0)
    → ((earlier : List (List ℕ)) (token : List ℕ) → P earlier → first_failure (tests earlier token) ≡ None → P (earlier ++ token ∷ []))
    → (earlier tokens : List (List ℕ)) → P earlier → first_failure (tests_of_all tests earlier tokens) ≡ None → P (earlier ++ tokens)
tokens_keep tests P each earlier [] here none = subst P (sym (append-nil earlier)) here
tokens_keep tests P each earlier (token ∷ tokens) here none =
    let both = both_pass (tests earlier token) (tests_of_all tests (earlier ++ token ∷ []) tokens) none in
    subst P (append_assoc earlier (token ∷ []) tokens)
    (tokens_keep tests P each (earlier ++ token ∷ []) tokens (each earlier token here both.0) both.1)

-- the tests of a token have the number of its line
pub rows_keep : {K : Type 0} (tests : ℕ → List (List ℕ) → List ℕ → List (Test K)) (P : List (List ℕ) → Type 0)
    → ((line : ℕ) (earlier : List (List ℕ)) (token : List ℕ) → P earlier → first_failure (tests line earlier token) ≡ None
    → P (earlier ++ token ∷ []))
    → (all before rest : List Row) → all ≡ before ++ rest
    → ((some more : List Row) (row : Row) → all ≡ some ++ row ∷ more
    → first_failure (tests_of_all (tests row.number) (tokens_of_rows some) row.tokens) ≡ None)
    → P (tokens_of_rows before) → P (tokens_of_rows all)
rows_keep tests P each all before [] e passed here = subst (λ (rows : List Row). P (tokens_of_rows rows)) (sym (e ∙ append-nil before)) here
rows_keep tests P each all before (row ∷ rest) e passed here =
    rows_keep tests P each all (before ++ row ∷ []) rest (e ∙ sym (append_assoc before (row ∷ []) rest)) passed
    (subst P (sym (tokens-push before row))
    (tokens_keep (tests row.number) P (each row.number) (tokens_of_rows before) row.tokens here (passed before rest row e)))

-- ---- no limit

never_both : {K : Type 0} (xs ys : List (Test K)) (r : Refusal K) → first_failure xs ≢ Some r → first_failure ys ≢ Some r
    → first_failure (xs ++ ys) ≢ Some r
never_both {K} xs ys r first second e = go (first_failure xs) refl where
  go : (one : Option (Refusal K)) → first_failure xs ≡ one → ⊥
  go None is = second (let both = rw is at (first_failure-append xs ys) in sym both ∙ e)
  go (Some s) is = first (let both = rw is at (first_failure-append xs ys) in is ∙ sym both ∙ e)

tokens_never : {K : Type 0} (tests : List (List ℕ) → List ℕ → List (Test K)) (r : Refusal K)
    → ((earlier : List (List ℕ)) (token : List ℕ) → first_failure (tests earlier token) ≢ Some r)
    → (earlier tokens : List (List ℕ)) → first_failure (tests_of_all tests earlier tokens) ≢ Some r
tokens_never tests r none earlier [] e = cc
tokens_never tests r none earlier (token ∷ tokens) e =
    never_both (tests earlier token) (tests_of_all tests (earlier ++ token ∷ []) tokens) r
    (none earlier token) (tokens_never tests r none (earlier ++ token ∷ []) tokens) e

-- a format that tests tokens, and none of whose tests is a limit, refuses with none
pub no_limit : (format : Format PermKind) (tests : ℕ → List (List ℕ) → List ℕ → List (Test PermKind)) (bytes : List ℕ)
    → ((before : List Row) (row : Row) → format.line_tests before row ≡ tests_of_all (tests row.number) (tokens_of_rows before) row.tokens)
    → ((l : LimitName) (line : ℕ) (earlier : List (List ℕ)) (token : List ℕ) →
    first_failure (tests line earlier token) ≢ Some (refusals.Limit l))
    → ((l : LimitName) → first_failure (format.end_tests (rows_of_bytes Commented bytes) (past_of_bytes bytes)) ≢ Some (refusals.Limit l))
    → (r : Refusal PermKind) → IsRefusal format (rows_of_bytes Commented bytes) (past_of_bytes bytes) r → IsFormatRefusal format bytes r
no_limit format tests bytes are none last refusals.NoMemory refused = tt
no_limit format tests bytes are none last (refusals.Format f) refused = refused
no_limit format tests bytes are none last (refusals.Limit l) (inl at) =
    tokens_never (tests at.row.number) (refusals.Limit l) (none l at.row.number) (tokens_of_rows at.before) at.row.tokens
    (rw (← are at.before at.row) at.fails)
no_limit format tests bytes are none last (refusals.Limit l) (inr end) = last l end.fails
