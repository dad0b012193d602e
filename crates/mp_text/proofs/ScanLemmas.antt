-- A scan of lines: what it passed over, and what it gives.
use Rattle.std.proofs.Common.{◌≡◌, ℕ, suc, ◌+◌, true, false, List, [], ◌∷◌, ◌++◌, length, length-append}
use Rattle.std.proofs.Common.{refl, sym, ap, subst, ◌∙◌, arith, append_assoc, append-nil}
use Rattle.std.proofs.lemmas.Bool.{and_parts, and_from}
use Rattle.mp_text.specs.declared.layout.Layout.{Layout}
use Rattle.mp_text.specs.Text.{tokens_of, is_passed, are_passed, rows_from}
use Rattle.mp_text.specs.Ahead.{Ahead, IsNextLine, rows_of, past_of, row}

-- ---- lines that are passed over

module _ (layout : Layout) where
  passes : (m n : ℕ) (line : List ℕ) → m ≡ n → is_passed layout m (tokens_of line) ≡ true → is_passed layout n (tokens_of line) ≡ true
  passes m n line same passed = subst (λ (k : ℕ). is_passed layout k (tokens_of line) ≡ true) same passed

  are_passed-push : (n : ℕ) (lines : List (List ℕ)) (line : List ℕ)
      → are_passed layout n lines ≡ true → is_passed layout (n + length lines) (tokens_of line) ≡ true
      → are_passed layout n (lines ++ line ∷ []) ≡ true
  are_passed-push n [] line all last = and_from _ _ (passes (n + 0) n line (omega arith) last) refl
  are_passed-push n (first ∷ lines) line all last =
      let parts = and_parts (is_passed layout n (tokens_of first)) (are_passed layout (n + 1) lines) all in
      and_from _ _ parts.0
      (are_passed-push (n + 1) lines line parts.1 (passes (n + suc (length lines)) (n + 1 + length lines) line (omega arith) last))

  rows_from-passed : (n : ℕ) (lines rest : List (List ℕ)) → are_passed layout n lines ≡ true
      → rows_from layout n (lines ++ rest) ≡ rows_from layout (n + length lines) rest
  unfolding rows_from
  rows_from-passed n [] rest all = let e : n ≡ n + 0 = omega arith in ap (λ (m : ℕ). rows_from layout m rest) e
  rows_from-passed n (line ∷ lines) rest all =
      let parts = and_parts (is_passed layout n (tokens_of line)) (are_passed layout (n + 1) lines) all in
      let e : n + 1 + length lines ≡ n + suc (length lines) = omega arith in
      rw parts.0 (rows_from-passed (n + 1) lines rest parts.1 ∙ ap (λ (m : ℕ). rows_from layout m rest) e)

  rows_from-counts : (n : ℕ) (line : List ℕ) (rest : List (List ℕ)) → is_passed layout n (tokens_of line) ≡ false
      → rows_from layout n (line ∷ rest) ≡ row n line ∷ rows_from layout (n + 1) rest
  unfolding rows_from
  rows_from-counts n line rest counts = rw counts refl

  pub rows_from-nil : (n : ℕ) → rows_from layout n [] ≡ []
  unfolding rows_from
  rows_from-nil n = refl

-- ---- where a scan is

-- it passed over some lines
pub record IsPast (old at : Ahead) : Type 0 where
  pub skipped : List (List ℕ)
  pub lines : old.lines ≡ skipped ++ at.lines
  pub passed : are_passed old.layout old.number skipped ≡ true
  pub number : at.number ≡ old.number + length skipped
  pub layout : at.layout ≡ old.layout

pub past-none : (a : Ahead) → IsPast a a
past-none a = record { skipped = []; lines = refl; passed = refl; number = omega arith; layout = refl }

-- a scan takes a line more
module _ (old at new : Ahead) (number : ℕ) (text : List ℕ) (past : IsPast old at)
    (number_is : number ≡ at.number) (lines : at.lines ≡ text ∷ new.lines) (next : new.number ≡ at.number + 1) where
  whole : old.lines ≡ past.skipped ++ text ∷ new.lines
  whole = past.lines ∙ ap (λ (ls : List (List ℕ)). past.skipped ++ ls) lines

  pub past-more : new.layout ≡ at.layout → is_passed old.layout number (tokens_of text) ≡ true → IsPast old new
  past-more same passed = record {
    skipped = past.skipped ++ text ∷ [];
    lines = whole ∙ sym (append_assoc past.skipped (text ∷ []) new.lines);
    passed = are_passed-push old.layout old.number past.skipped text past.passed
        (passes old.layout number (old.number + length past.skipped) text (number_is ∙ past.number) passed);
    number = omega (arith, past.number, length-append past.skipped (text ∷ []));
    layout = same ∙ past.layout;
  }

  pub past-line : is_passed old.layout number (tokens_of text) ≡ false → IsNextLine old number text new
  past-line counts = record {
    skipped = past.skipped;
    lines = whole;
    passed = past.passed;
    counts = counts;
    number_is = number_is ∙ past.number;
    next = next ∙ ap (λ (n : ℕ). n + 1) (sym number_is);
  }

-- what follows from the line that it gives
module _ (old new : Ahead) (number : ℕ) (text : List ℕ) (line : IsNextLine old number text new) where
  pub line-rows : new.layout ≡ old.layout → rows_of old ≡ row number text ∷ rows_of new
  line-rows same =
      ap (rows_from old.layout old.number) line.lines ∙ rows_from-passed old.layout old.number line.skipped (text ∷ new.lines) line.passed
      ∙ rw (← line.number_is, rows_from-counts old.layout number text new.lines line.counts, line.next, same) refl

  pub line-past : past_of new ≡ past_of old
  line-past = omega (arith, line.number_is, line.next, ap length line.lines, length-append line.skipped (text ∷ new.lines))

-- what follows at the end
module _ (old at : Ahead) (past : IsPast old at) (none : at.lines ≡ []) where
  all_skipped : past.skipped ≡ old.lines
  all_skipped = sym (past.lines ∙ ap (λ (ls : List (List ℕ)). past.skipped ++ ls) none ∙ append-nil past.skipped)

  pub end-passed : are_passed old.layout old.number old.lines ≡ true
  end-passed = rw (← all_skipped) past.passed

  pub end-rows : rows_of old ≡ []
  end-rows =
      ap (rows_from old.layout old.number) past.lines ∙ rows_from-passed old.layout old.number past.skipped at.lines past.passed
      ∙ rw (none) (rows_from-nil old.layout (old.number + length past.skipped))

  pub end-past : past_of at ≡ past_of old
  end-past = omega (arith, past.number, ap length past.lines, length-append past.skipped at.lines)

pub no_rows : (a : Ahead) → a.lines ≡ [] → rows_of a ≡ []
no_rows a none = rw none (rows_from-nil a.layout a.number)
