-- No public clause names this.
-- What the reader of matrix files does with a line, from what it keeps of the lines before.
use Rattle.std.specs.Prelude.{◌≡◌, ◌==◌, ℕ, List, [], ◌∷◌, ◌++◌, length, map, Result, Err}
use Rattle.mp_text.specs.declared.refusals.Refusal.{Refusal}
use Rattle.mp_text.specs.Text.{Row}
use Rattle.mp_text.specs.Grammar.{test, fault_at}
use Rattle.mp_text.specs.Reading.{tested}
use Rattle.matrix_files.specs.MatrixFile.{banner_tests, values_stated, size_tests, size_of, entry_tests, pair_of}
use Rattle.matrix_files.specs.declared.kind.MatrixKind.{MatrixKind}
use Rattle.matrix_files.specs.declared.kind.MatrixKind.TheVariants as kinds
use Rattle.matrix_files.specs.declared.stage.Stage.{Stage}
use Rattle.matrix_files.specs.declared.stage.Stage.TheVariants as stages

-- what the reader keeps: what comes next, how many values an entry has, the stated order and number of entries, and the pairs of
-- the entries so far
pub record MatrixState : Type 0 where
  pub stage : Stage
  pub values : ℕ
  pub order : ℕ
  pub entries : ℕ
  pub pairs : List (ℕ × ℕ)

abbrev pub start : MatrixState
start = record { stage = stages.Banner; values = 0; order = 0; entries = 0; pairs = [] }

abbrev pub staged_step : Stage → MatrixState → Row → Result MatrixState (Refusal MatrixKind)
staged_step stages.Banner s row = tested (banner_tests row) (record s { stage = stages.Size; values = values_stated row })
staged_step stages.Size s row =
    tested (size_tests row) (record s { stage = stages.Entries; order = (size_of row).rows; entries = (size_of row).entries })
staged_step stages.Entries s row =
    tested (entry_tests s.values s.order s.entries (length s.pairs) row) (record s { pairs = s.pairs ++ pair_of s.values row ∷ [] })

unfoldable pub matrix_step : MatrixState → Row → Result MatrixState (Refusal MatrixKind)
matrix_step s row = staged_step s.stage s row

abbrev pub staged_end : Stage → MatrixState → ℕ → Result MatrixState (Refusal MatrixKind)
staged_end stages.Banner s past = Err (fault_at past kinds.Banner)
staged_end stages.Size s past = Err (fault_at past kinds.SizeLine)
staged_end stages.Entries s past = tested (test (length s.pairs == s.entries) (fault_at past kinds.TooFew) ∷ []) s

unfoldable pub matrix_end : MatrixState → ℕ → Result MatrixState (Refusal MatrixKind)
matrix_end s past = staged_end s.stage s past

pub record TookBanner (s : MatrixState) (rows : List Row) : Type 0 where
  pub banner : Row
  pub rows_are : rows ≡ banner ∷ []
  pub values : s.values ≡ values_stated banner
  pub pairs : s.pairs ≡ []

pub record TookEntries (s : MatrixState) (rows : List Row) : Type 0 where
  pub banner : Row
  pub size : Row
  pub entry_rows : List Row
  pub rows_are : rows ≡ banner ∷ size ∷ entry_rows
  pub values : s.values ≡ values_stated banner
  pub order : s.order ≡ (size_of size).rows
  pub entries : s.entries ≡ (size_of size).entries
  pub pairs : s.pairs ≡ map (pair_of (values_stated banner)) entry_rows

-- the reader stands after these lines
abbrev pub staged_took : Stage → MatrixState → List Row → Type 0
staged_took stages.Banner s rows = (rows ≡ []) × (s.pairs ≡ [])
staged_took stages.Size s rows = TookBanner s rows
staged_took stages.Entries s rows = TookEntries s rows

abbrev pub took : MatrixState → List Row → Type 0
took s rows = staged_took s.stage s rows
