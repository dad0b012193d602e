-- Formats of files. A format is a table: the tests of a line, given the lines before it, and the tests of the end of
-- the file. A file is read where every test holds, and refused with the first test that fails.
use Rattle.std.specs.Prelude.{◌≡◌, ℕ, List, [], ◌∷◌, ◌++◌, Bool, if◌then◌else◌, Option, Some, None, ◌⊎◌, slice_index_or}
use Rattle.mp_text.specs.declared.refusals.Refusal.{Refusal}
use Rattle.mp_text.specs.declared.refusals.Refusal.TheVariants as refusals
use Rattle.mp_text.specs.Text.{Row}

-- what a file is refused with for a line, and for a row
abbrev pub fault_at : {K : Type 0} → ℕ → K → Refusal K
fault_at line kind = refusals.Format (record { line = line; kind = kind })

abbrev pub fault : {K : Type 0} → K → Row → Refusal K
fault kind row = fault_at row.number kind

-- the token of a row at a place, counted from 0
abbrev pub token_at : ℕ → Row → List ℕ
token_at place row = slice_index_or row.tokens place []

-- a test, and what the file is refused with where it fails
pub record Test (K : Type 0) : Type 0 where
  pub holds : Bool
  pub refusal : Refusal K

abbrev pub test : {K : Type 0} → Bool → Refusal K → Test K
test b r = record { holds = b; refusal = r }

-- the refusal of the first test that fails, if one does
abbrev pub first_failure : {K : Type 0} → List (Test K) → Option (Refusal K)
first_failure [] = None
first_failure (t ∷ ts) = if t.holds then first_failure ts else Some t.refusal

-- the tests of elements that are taken one after another, each given those before it
abbrev pub tests_of_all : {K X : Type 0} → (List X → X → List (Test K)) → List X → List X → List (Test K)
tests_of_all tests before [] = []
tests_of_all tests before (x ∷ xs) = tests before x ++ tests_of_all tests (before ++ x ∷ []) xs

-- the tests of a line, given the lines before it, and those of the end, given all lines and the number of the line past
-- the last; each list is in the order in which its tests are made
pub record Format (K : Type 0) : Type 0 where
  pub line_tests : List Row → Row → List (Test K)
  pub end_tests : List Row → ℕ → List (Test K)

-- every line passes its tests
abbrev pub ArePassed : {K : Type 0} → Format K → List Row → Type 0
ArePassed format rows =
    (before after : List Row) (row : Row) → rows ≡ before ++ row ∷ after → first_failure (format.line_tests before row) ≡ None

-- every line passes its tests, and so does the end
pub record IsWellFormed {K : Type 0} (format : Format K) (rows : List Row) (past : ℕ) : Type 0 where
  pub lines : ArePassed format rows
  pub end : first_failure (format.end_tests rows past) ≡ None

-- some line fails after lines that pass, and its first test that fails has this refusal
pub record RefusesLine {K : Type 0} (format : Format K) (rows : List Row) (refusal : Refusal K) : Type 0 where
  pub before : List Row
  pub row : Row
  pub after : List Row
  pub split : rows ≡ before ++ row ∷ after
  pub passed : ArePassed format before
  pub fails : first_failure (format.line_tests before row) ≡ Some refusal

-- all lines pass and the end fails, and its first test that fails has this refusal
pub record RefusesEnd {K : Type 0} (format : Format K) (rows : List Row) (past : ℕ) (refusal : Refusal K) : Type 0 where
  pub passed : ArePassed format rows
  pub fails : first_failure (format.end_tests rows past) ≡ Some refusal

abbrev pub Refuses : {K : Type 0} → Format K → List Row → ℕ → Refusal K → Type 0
Refuses format rows past refusal = RefusesLine format rows refusal ⊎ RefusesEnd format rows past refusal
