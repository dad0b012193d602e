-- Order files: task numbers, the tokens of all lines in order, or a report that states an order, as `post` prints it. What a file reads as,
-- and what it is refused with.
use Rattle.std.specs.Prelude.{◌≡◌, ◌==◌, ℕ, ◌+◌, ◌^◌, Bool, false, ◌&&◌, nat_lt, nat_le, is_some, unwrap_or, if◌then◌else◌}
use Rattle.std.specs.Prelude.{Option, List, [], ◌∷◌, ◌++◌, length, map, take, codes}
use Rattle.std.specs.Option.{option_and_then}
use Rattle.std.specs.List.{flat_map}
use Rattle.std.specs.Str.{bytes_eq}
use Rattle.limits.specs.declared.name.LimitName.TheVariants as limits
use Rattle.limits.specs.Limits.{most_tasks}
use Rattle.mp_text.specs.declared.layout.Layout.TheVariants.{Commented}
use Rattle.mp_text.specs.declared.refusals.Refusal.{Refusal}
use Rattle.mp_text.specs.declared.refusals.Refusal.TheVariants as refusals
use Rattle.mp_text.specs.Text.{Row, number_of}
use Rattle.mp_text.specs.Ahead.{rows_of_bytes, past_of_bytes}
use Rattle.mp_text.specs.Grammar.{Test, test, tests_of_all, Format, IsWellFormed, Refuses, fault, fault_at, token_at}
use Rattle.mp_text.specs.Reading.{IsRefusal}
use Rattle.file_frame.specs.Words.{after_word}
use Rattle.file_frame.specs.Frame.{is_end}
use Rattle.matrix_files.specs.declared.order_file.OrderFileKind.{OrderFileKind}
use Rattle.matrix_files.specs.declared.order_file.OrderFileKind.TheVariants.{Number, Header, Count, NoEnd}

-- the number that a token spells, or 0
abbrev pub value_of : List ℕ → ℕ
value_of token = unwrap_or (number_of token) 0

-- the tokens of all lines, in order
abbrev pub tokens_of_rows : List Row → List (List ℕ)
tokens_of_rows rows = flat_map (λ row. row.tokens) rows

-- a number below 2^32
abbrev pub is_task_number : List ℕ → Bool
is_task_number token = is_some (number_of token) && nat_lt (value_of token) (2 ^ 32)

-- ---- numbers alone

-- a number below 2^32, and not too many of them; after so many others
abbrev pub order_token_tests : ℕ → ℕ → List ℕ → List (Test OrderFileKind)
order_token_tests line taken token =
    test (is_task_number token) (fault_at line Number) ∷ test (nat_lt taken most_tasks) (refusals.Limit limits.Tasks) ∷ []

abbrev pub plain_tests : List Row → Row → List (Test OrderFileKind)
plain_tests before row =
    tests_of_all (λ earlier token. order_token_tests row.number (length earlier) token) (tokens_of_rows before) row.tokens

-- the numbers that the lines state
abbrev pub numbers_stated : List Row → List ℕ
numbers_stated rows = map value_of (tokens_of_rows rows)

-- ---- a report: `peak P`, `order N`, N numbers, `end`

-- the number after a word, where the line has nothing else
abbrev pub number_after : List ℕ → List (List ℕ) → Option ℕ
number_after word tokens = option_and_then number_of (after_word word tokens)

abbrev pub peak_tests : Row → List (Test OrderFileKind)
peak_tests row = test (is_some (number_after (codes "peak") row.tokens)) (fault Header row) ∷ []

-- how many numbers the second line states
abbrev pub count_on : Row → ℕ
count_on row = unwrap_or (number_after (codes "order") row.tokens) 0

abbrev pub count_tests : Row → List (Test OrderFileKind)
count_tests row =
    test (is_some (number_after (codes "order") row.tokens)) (fault Header row)
    ∷ test (nat_le (count_on row) most_tasks) (refusals.Limit limits.Tasks)
    ∷ []

-- not one number more than there are to be, each below 2^32; after so many tokens
abbrev pub listed_tests : ℕ → ℕ → ℕ → List ℕ → List (Test OrderFileKind)
listed_tests count line taken token =
    test (nat_lt taken count) (fault_at line Count) ∷ test (is_task_number token) (fault_at line Number) ∷ []

-- a line of numbers, or `end` where there are as many as stated
abbrev pub list_tests : ℕ → List Row → Row → List (Test OrderFileKind)
list_tests count before row =
    if is_end row
    then test (length (tokens_of_rows before) == count) (fault Count row) ∷ []
    else tests_of_all (λ earlier token. listed_tests count row.number (length earlier) token) (tokens_of_rows before) row.tokens

-- a line after the second; after `end`, which is a token more than the numbers, there is none
abbrev pub body_tests : ℕ → List Row → Row → List (Test OrderFileKind)
body_tests count before row =
    if nat_le (length (tokens_of_rows before)) count then list_tests count before row else test false (fault Count row) ∷ []

abbrev pub report_tests : List Row → Row → List (Test OrderFileKind)
report_tests [] row = peak_tests row
report_tests (peak ∷ []) row = count_tests row
report_tests (peak ∷ count ∷ rows) row = body_tests (count_on count) rows row

-- whether the lines have all numbers, and `end`
abbrev pub is_ended : List Row → Bool
is_ended (peak ∷ count ∷ rows) = length (tokens_of_rows rows) == count_on count + 1
is_ended _ = false

-- the numbers that a report states
abbrev pub numbers_listed : List Row → List ℕ
numbers_listed (peak ∷ count ∷ rows) = take (count_on count) (numbers_stated rows)
numbers_listed _ = []

-- ---- either, as the first token tells

abbrev pub is_report : List Row → Bool
is_report [] = false
is_report (row ∷ rows) = bytes_eq (token_at 0 row) (codes "peak")

abbrev pub order_format : Format OrderFileKind
order_format = record {
  line_tests = λ before row. if is_report (before ++ row ∷ []) then report_tests before row else plain_tests before row;
  end_tests = λ rows past. if is_report rows then test (is_ended rows) (fault_at past NoEnd) ∷ [] else [];
}

-- the numbers of the tasks that the lines state
abbrev pub tasks_stated : List Row → List ℕ
tasks_stated rows = if is_report rows then numbers_listed rows else numbers_stated rows

-- every line passes, and the numbers are those stated
pub record ReadsOrder (bytes : List ℕ) (numbers : List ℕ) : Type 0 where
  pub form : IsWellFormed order_format (rows_of_bytes Commented bytes) (past_of_bytes bytes)
  pub stated : numbers ≡ tasks_stated (rows_of_bytes Commented bytes)

abbrev pub RefusesOrder : List ℕ → Refusal OrderFileKind → Type 0
RefusesOrder bytes refusal = Refuses order_format (rows_of_bytes Commented bytes) (past_of_bytes bytes) refusal

-- an answer that is no order: a refusal of the file, or memory ran out
abbrev pub IsOrderFileRefusal : List ℕ → Refusal OrderFileKind → Type 0
IsOrderFileRefusal bytes refusal = IsRefusal order_format (rows_of_bytes Commented bytes) (past_of_bytes bytes) refusal
