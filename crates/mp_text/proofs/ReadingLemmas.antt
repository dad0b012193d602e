-- Where a reader stands in a file, and what a step of it makes of that.
use Rattle.std.proofs.Common.{◌≡◌, ℕ, List, [], ◌∷◌, ◌++◌, Some, Result, Ok, Err, inl, inr, refl, sym, ap, ◌∙◌, append_assoc, append-nil}
use Rattle.mp_text.specs.declared.refusals.Refusal.{Refusal}
use Rattle.mp_text.specs.declared.refusals.Refusal.TheVariants as refusals
use Rattle.mp_text.specs.Text.{Row}
use Rattle.mp_text.specs.Grammar.{Test, Format, first_failure, ArePassed, IsWellFormed, Refuses}
use Rattle.mp_text.proofs.GrammarLemmas.{passed-none, passed-more}
use Rattle.mp_text.specs.Reading.{IsFirst, Judges, IsRefusal}

-- ---- refusals

-- the first test that fails is a refusal of the file, where these tests are some of its tests
pub refusal-of : {K : Type 0} (format : Format K) (rows : List Row) (past : ℕ) (tests : List (Test K)) (answer : Refusal K)
    → ((r : Refusal K) → first_failure tests ≡ Some r → Refuses format rows past r)
    → IsFirst tests answer → IsRefusal format rows past answer
refusal-of format rows past tests refusals.NoMemory means first = tt
refusal-of format rows past tests (refusals.Format f) means first = means _ first
refusal-of format rows past tests (refusals.Limit l) means first = means _ first

-- ---- where a reader stands

module _ {K R : Type 0} (format : R → Format K) (has_taken : R → List Row → Type 0) where
  abbrev pub Answer : Type 0
  Answer = Result (Unit {0}) (Refusal K)

  -- the reader took some lines, which passed, and these lines are ahead
  pub record Stands (start reader : R) (all ahead : List Row) : Type 0 where
    pub before : List Row
    pub split : all ≡ before ++ ahead
    pub passed : ArePassed (format start) before
    pub took : has_taken reader before
    pub same : format reader ≡ format start

  pub stands-first : (start : R) (all : List Row) → has_taken start [] → Stands start start all all
  stands-first start all none = record { before = []; split = refl; passed = passed-none (format start); took = none; same = refl }

  module _ (start reader : R) (all ahead rest : List Row) (row : Row)
      (ahead_is : ahead ≡ row ∷ rest) (at : Stands start reader all ahead) where
    -- the line is judged, whatever lines were before it
    abbrev pub LineJudged : Answer → R → Type 0
    LineJudged answer next = (before : List Row) → has_taken reader before → ArePassed (format reader) before →
        Judges ((format reader).line_tests before row) (λ r. has_taken r (before ++ row ∷ []) × (format r ≡ format reader)) answer next

    here : (answer : Answer) (next : R) → LineJudged answer next →
        Judges ((format start).line_tests at.before row) (λ r. has_taken r (at.before ++ row ∷ []) × (format r ≡ format start)) answer next
    here answer next judged = rw (← at.same) (judged at.before at.took (rw at.same at.passed))

    split : all ≡ at.before ++ row ∷ rest
    split = at.split ∙ ap (λ (l : List Row). at.before ++ l) ahead_is

    pub stands-next : (next : R) → LineJudged (Ok tt) next → Stands start next all rest
    stands-next next judged =
        let (none, taken) = here (Ok tt) next judged in
        record {
          before = at.before ++ row ∷ [];
          split = split ∙ sym (append_assoc at.before (row ∷ []) rest);
          passed = passed-more (format start) at.before row at.passed none;
          took = taken.0;
          same = taken.1;
        }

    pub line-refused : (past : ℕ) (answer : Refusal K) → LineJudged (Err answer) reader →
        IsRefusal (format start) all past answer
    line-refused past answer judged =
        refusal-of (format start) all past ((format start).line_tests at.before row) answer
        (λ r fails. inl (record { before = at.before; row = row; after = rest; split = split; passed = at.passed; fails = fails }))
        (here (Err answer) reader judged)

  module _ (start reader : R) (all ahead : List Row) (past : ℕ) (ahead_is : ahead ≡ []) (at : Stands start reader all ahead) where
    abbrev pub EndJudged : Answer → R → Type 0
    EndJudged answer next = (rows : List Row) → has_taken reader rows → ArePassed (format reader) rows →
        Judges ((format reader).end_tests rows past) (λ r. has_taken r rows) answer next

    all_taken : at.before ≡ all
    all_taken = sym (at.split ∙ ap (λ (l : List Row). at.before ++ l) ahead_is ∙ append-nil at.before)

    passed : ArePassed (format start) all
    passed = rw (← all_taken) at.passed

    the_end : (answer : Answer) (next : R) → EndJudged answer next →
        Judges ((format start).end_tests all past) (λ r. has_taken r all) answer next
    the_end answer next judged = rw (← all_taken, ← at.same) (judged at.before at.took (rw at.same at.passed))

    pub end-read : (done : R) → EndJudged (Ok tt) done → IsWellFormed (format start) all past × has_taken done all
    end-read done judged = let (none, took) = the_end (Ok tt) done judged in (record { lines = passed; end = none }, took)

    pub end-refused : (answer : Refusal K) → EndJudged (Err answer) reader → IsRefusal (format start) all past answer
    end-refused answer judged =
        refusal-of (format start) all past ((format start).end_tests all past) answer
        (λ r fails. inr (record { passed = passed; fails = fails }))
        (the_end (Err answer) reader judged)
