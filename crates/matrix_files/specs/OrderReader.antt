-- No public clause names this.
-- What the readers of order files and of permutation files do with a line, from what they keep of the lines before.
use Rattle.std.specs.Prelude.{◌≡◌, ◌==◌, ℕ, ◌+◌, ◌≤◌, Bool, true, false, if◌then◌else◌, List, [], ◌∷◌, ◌++◌, length, map, take}
use Rattle.std.specs.Prelude.{Result, Ok, Err}
use Rattle.mp_text.specs.declared.layout.Layout.TheVariants.{Commented}
use Rattle.mp_text.specs.declared.refusals.Refusal.{Refusal}
use Rattle.mp_text.specs.declared.refusals.Refusal.TheVariants as refusals
use Rattle.mp_text.specs.Text.{Row}
use Rattle.mp_text.specs.Ahead.{rows_of_bytes, past_of_bytes}
use Rattle.mp_text.specs.Grammar.{test, Format, IsWellFormed, Refuses, fault, fault_at}
use Rattle.mp_text.specs.Reading.{tested, steps_of_all}
use Rattle.file_frame.specs.Frame.{is_end}
use Rattle.matrix_files.specs.OrderFile.{value_of, tokens_of_rows, order_token_tests, is_report, peak_tests, count_on, count_tests}
use Rattle.matrix_files.specs.OrderFile.{listed_tests}
use Rattle.permutations.specs.Perm.{PermState}
use Rattle.matrix_files.specs.PermFile.{counted, perm_token_tests, perm_count_tests, numbering_format}
use Rattle.matrix_files.specs.declared.order_file.OrderFileKind.{OrderFileKind}
use Rattle.matrix_files.specs.declared.order_file.OrderFileKind.TheVariants.{Count, NoEnd}
use Rattle.matrix_files.specs.declared.stage.OrderStage.{OrderStage}
use Rattle.matrix_files.specs.declared.stage.OrderStage.TheVariants as stages
use Rattle.matrix_files.specs.declared.perm_file.PermKind.{PermKind}

-- ---- order files

-- what comes next, how many numbers there are to be in a report, and the numbers so far
pub record OrderState : Type 0 where
  pub stage : OrderStage
  pub count : ℕ
  pub numbers : List ℕ

abbrev pub no_order : OrderState
no_order = record { stage = stages.Start; count = 0; numbers = [] }

abbrev pub with_task : OrderState → List ℕ → OrderState
with_task s token = record s { numbers = s.numbers ++ value_of token ∷ [] }

unfoldable pub number_step : ℕ → OrderState → List ℕ → Result OrderState (Refusal OrderFileKind)
number_step line s token = tested (order_token_tests line (length s.numbers) token) (with_task s token)

unfoldable pub listed_step : ℕ → OrderState → List ℕ → Result OrderState (Refusal OrderFileKind)
listed_step line s token = tested (listed_tests s.count line (length s.numbers) token) (with_task s token)

abbrev pub numbers_step : OrderState → Row → Result OrderState (Refusal OrderFileKind)
numbers_step s row = steps_of_all (number_step row.number) s row.tokens

abbrev pub start_step : OrderState → Row → Result OrderState (Refusal OrderFileKind)
start_step s row =
    if is_report (row ∷ [])
    then tested (peak_tests row) (record s { stage = stages.Count })
    else numbers_step (record s { stage = stages.Plain }) row

abbrev pub list_step : OrderState → Row → Result OrderState (Refusal OrderFileKind)
list_step s row =
    if is_end row
    then tested (test (length s.numbers == s.count) (fault Count row) ∷ []) (record s { stage = stages.Ended })
    else steps_of_all (listed_step row.number) s row.tokens

abbrev pub staged_order : OrderStage → OrderState → Row → Result OrderState (Refusal OrderFileKind)
staged_order stages.Start s row = start_step s row
staged_order stages.Plain s row = numbers_step s row
staged_order stages.Count s row = tested (count_tests row) (record s { stage = stages.Listed; count = count_on row })
staged_order stages.Listed s row = list_step s row
staged_order stages.Ended s row = Err (fault Count row)

unfoldable pub order_step : OrderState → Row → Result OrderState (Refusal OrderFileKind)
order_step s row = staged_order s.stage s row

-- at the end of the file a report has ended
abbrev pub may_end : OrderStage → Bool
may_end stages.Count = false
may_end stages.Listed = false
may_end _ = true

unfoldable pub order_end : OrderState → ℕ → Result OrderState (Refusal OrderFileKind)
order_end s past = if may_end s.stage then Ok s else Err (fault_at past NoEnd)

pub record TookPlain (s : OrderState) (rows : List Row) : Type 0 where
  pub first : Row
  pub more : List Row
  pub rows_are : rows ≡ first ∷ more
  pub plain : is_report (first ∷ []) ≡ false
  pub numbers : s.numbers ≡ map value_of (tokens_of_rows rows)

pub record TookPeak (s : OrderState) (rows : List Row) : Type 0 where
  pub peak : Row
  pub rows_are : rows ≡ peak ∷ []
  pub report : is_report (peak ∷ []) ≡ true
  pub numbers : s.numbers ≡ []

pub record TookListed (s : OrderState) (rows : List Row) : Type 0 where
  pub peak : Row
  pub order : Row
  pub body : List Row
  pub rows_are : rows ≡ peak ∷ order ∷ body
  pub report : is_report (peak ∷ []) ≡ true
  pub count : s.count ≡ count_on order
  pub numbers : s.numbers ≡ map value_of (tokens_of_rows body)
  pub few : length s.numbers ≤ s.count

pub record TookEnd (s : OrderState) (rows : List Row) : Type 0 where
  pub peak : Row
  pub order : Row
  pub body : List Row
  pub rows_are : rows ≡ peak ∷ order ∷ body
  pub report : is_report (peak ∷ []) ≡ true
  pub count : s.count ≡ count_on order
  pub numbers : s.numbers ≡ take s.count (map value_of (tokens_of_rows body))
  pub long : length (tokens_of_rows body) ≡ s.count + 1

-- the reader stands after these lines
abbrev pub staged_took : OrderStage → OrderState → List Row → Type 0
staged_took stages.Start s rows = (rows ≡ []) × (s.numbers ≡ [])
staged_took stages.Plain s rows = TookPlain s rows
staged_took stages.Count s rows = TookPeak s rows
staged_took stages.Listed s rows = TookListed s rows
staged_took stages.Ended s rows = TookEnd s rows

abbrev pub took_order : OrderState → List Row → Type 0
took_order s rows = staged_took s.stage s rows

-- ---- permutation files, and those of places, from a base on: the numbers so far, counted from 1

unfoldable pub vertex_step : ℕ → ℕ → PermState → List ℕ → Result PermState (Refusal PermKind)
vertex_step base line s token =
    tested (perm_token_tests base s.n line s.numbers token) (record s { numbers = s.numbers ++ counted base token ∷ [] })

abbrev pub perm_step : ℕ → PermState → Row → Result PermState (Refusal PermKind)
perm_step base s row = steps_of_all (vertex_step base row.number) s row.tokens

abbrev pub perm_end : PermState → ℕ → Result PermState (Refusal PermKind)
perm_end s past = tested (perm_count_tests s.n (length s.numbers) past) s

abbrev pub took_perm : ℕ → PermState → List Row → Type 0
took_perm base s rows = s.numbers ≡ map (counted base) (tokens_of_rows rows)

-- every token passes, none is missing, and the numbers are those stated
pub record ReadsNumbering (base n : ℕ) (bytes numbers : List ℕ) : Type 0 where
  pub form : IsWellFormed (numbering_format base n) (rows_of_bytes Commented bytes) (past_of_bytes bytes)
  pub stated : numbers ≡ map (counted base) (tokens_of_rows (rows_of_bytes Commented bytes))

-- an answer that is no numbers: a refusal by a format, which is never a limit, or memory ran out
abbrev pub IsFormatRefusal : Format PermKind → List ℕ → Refusal PermKind → Type 0
IsFormatRefusal format bytes refusals.NoMemory = Unit {0}
IsFormatRefusal format bytes (refusals.Format f) = Refuses format (rows_of_bytes Commented bytes) (past_of_bytes bytes) (refusals.Format f)
IsFormatRefusal format bytes (refusals.Limit l) = ⊥
