-- Fence files: what a file reads as, and what it is refused with. They are this project's own format.
use Rattle.std.specs.Prelude.{◌≡◌, ◌==◌, ℕ, Bool, true, false, ◌&&◌, ◌||◌, not, nat_lt, nat_le, is_some, unwrap_or}
use Rattle.std.specs.Prelude.{Option, Some, None, List, [], ◌∷◌, ◌++◌, length, map, take, drop, codes, if◌then◌else◌}
use Rattle.limits.specs.Limits.{most_tasks, most_positions, most_workers}
use Rattle.limits.specs.declared.name.LimitName.TheVariants as limits
use Rattle.mp_text.specs.declared.layout.Layout.TheVariants.{Commented}
use Rattle.mp_text.specs.declared.refusals.Refusal.{Refusal}
use Rattle.mp_text.specs.Text.{Row, numbers_of}
use Rattle.mp_text.specs.Ahead.{rows_of_bytes, past_of_bytes}
use Rattle.mp_text.specs.Grammar.{Test, test, Format, IsWellFormed, Refuses, fault}
use Rattle.mp_text.specs.Reading.{IsRefusal}
use Rattle.file_frame.specs.declared.version.Version.TheVariants.{One}
use Rattle.file_frame.specs.Frame.{header_tests, stated_on, section_tests, count_tests, last_tests, further_tests, end_tests}
use Rattle.fences.specs.declared.fenced.Fence.{Fence}
use Rattle.fences.specs.declared.certificate.Workers.{Workers}
use Rattle.fences.specs.declared.certificate.Workers.TheVariants as workers
use Rattle.fences.specs.Certificates.{Certificate}
use Rattle.fence_files.specs.declared.kind.FenceKind.{FenceKind}
use Rattle.fence_files.specs.declared.kind.FenceKind.TheVariants as kinds
use Rattle.fence_files.specs.declared.stage.Stage.{Stage}
use Rattle.fence_files.specs.declared.stage.Stage.TheVariants as stages

-- the greatest number of a task or a join, and the greatest place of an item
abbrev pub most_number : ℕ
most_number = 4294967295

-- ---- line 1: `fences 1`

abbrev pub fences_header_tests : Row → List (Test FenceKind)
fences_header_tests row = header_tests (codes "fences") One kinds.Header row

-- ---- a line of a word and a number: `bound B`, `workers W`, `room L`, `joins J`, `fences K`, `amounts N`

abbrev pub bound_tests : Row → List (Test FenceKind)
bound_tests row = section_tests (codes "bound") kinds.Section kinds.Number row

-- 0 stands for any number of workers
abbrev pub workers_tests : Row → List (Test FenceKind)
workers_tests row =
    section_tests (codes "workers") kinds.Section kinds.Number row
    ++ test (nat_le (stated_on (codes "workers") row) most_workers) (fault kinds.Workers row) ∷ []

-- with the number of workers; nothing is set aside where that is any
abbrev pub room_tests : ℕ → Row → List (Test FenceKind)
room_tests count row =
    section_tests (codes "room") kinds.Section kinds.Number row
    ++ test (not (count == 0) || (stated_on (codes "room") row == 0)) (fault kinds.Workers row) ∷ []

abbrev pub joins_section_tests : Row → List (Test FenceKind)
joins_section_tests row = count_tests (codes "joins") kinds.Section kinds.Number most_tasks limits.Tasks row

abbrev pub fences_section_tests : Row → List (Test FenceKind)
fences_section_tests row = count_tests (codes "fences") kinds.Section kinds.Number most_positions limits.Positions row

abbrev pub amounts_section_tests : Row → List (Test FenceKind)
amounts_section_tests row = count_tests (codes "amounts") kinds.Section kinds.Number most_positions limits.Positions row

-- ---- a line within a section

-- a line of one number
abbrev pub only_number : Option (List ℕ) → Option ℕ
only_number (Some (n ∷ [])) = Some n
only_number _ = None

abbrev pub one_stated : Row → Option ℕ
one_stated row = only_number (numbers_of row.tokens)

-- the number of a line, 0 where it has not one
abbrev pub one_on : Row → ℕ
one_on row = unwrap_or (one_stated row) 0

abbrev pub join_tests : Row → List (Test FenceKind)
join_tests row =
    test (is_some (one_stated row)) (fault kinds.Join row)
    ∷ test (nat_le 1 (one_on row) && nat_le (one_on row) most_number) (fault kinds.Number row)
    ∷ []

-- a line of two numbers
abbrev pub fence_of_numbers : Option (List ℕ) → Option Fence
fence_of_numbers (Some (from ∷ to ∷ [])) = Some (record { from = from; to = to })
fence_of_numbers _ = None

abbrev pub fence_stated : Row → Option Fence
fence_stated row = fence_of_numbers (numbers_of row.tokens)

abbrev pub fence_on : Row → Fence
fence_on row = unwrap_or (fence_stated row) (record { from = 0; to = 0 })

abbrev pub fence_tests : Row → List (Test FenceKind)
fence_tests row =
    test (is_some (fence_stated row)) (fault kinds.Fence row)
    ∷ test (nat_le (fence_on row).from most_number && nat_le (fence_on row).to most_number) (fault kinds.Number row)
    ∷ []

abbrev pub amount_tests : Row → List (Test FenceKind)
amount_tests row = test (is_some (one_stated row)) (fault kinds.Amount row) ∷ []

-- ---- what some lines of a file state, section by section

-- which line comes next, how many lines the section at hand has, and what the lines say
pub record Stated : Type 0 where
  pub stage : Stage
  pub count : ℕ
  pub bound : ℕ
  pub workers : ℕ
  pub room : ℕ
  pub joins : List ℕ
  pub fences : List Fence
  pub amounts : List ℕ

abbrev pub nothing : Stated
nothing = record { stage = stages.Header; count = 0; bound = 0; workers = 0; room = 0; joins = []; fences = []; amounts = [] }

-- the lines after all amounts
abbrev pub with_end : Stated → List Row → Stated
with_end s [] = s
with_end s (last ∷ rows) = record s { stage = stages.Ended }

-- the lines from `amounts N` on
abbrev pub with_amounts : Stated → List Row → Stated
with_amounts s [] = s
with_amounts s (section ∷ rows) =
    let count = stated_on (codes "amounts") section in
    with_end (record s { stage = stages.Amounts; count = count; amounts = map one_on (take count rows) }) (drop count rows)

-- the lines from `fences K` on
abbrev pub with_fences : Stated → List Row → Stated
with_fences s [] = s
with_fences s (section ∷ rows) =
    let count = stated_on (codes "fences") section in
    with_amounts (record s { stage = stages.Fences; count = count; fences = map fence_on (take count rows) }) (drop count rows)

-- the lines from `joins J` on
abbrev pub with_joins : Stated → List Row → Stated
with_joins s [] = s
with_joins s (section ∷ rows) =
    let count = stated_on (codes "joins") section in
    with_fences (record s { stage = stages.Joins; count = count; joins = map one_on (take count rows) }) (drop count rows)

-- the lines from `room L` on
abbrev pub with_room : Stated → List Row → Stated
with_room s [] = s
with_room s (line ∷ rows) = with_joins (record s { stage = stages.JoinsSection; room = stated_on (codes "room") line }) rows

-- the lines from `workers W` on
abbrev pub with_workers : Stated → List Row → Stated
with_workers s [] = s
with_workers s (line ∷ rows) = with_room (record s { stage = stages.Room; workers = stated_on (codes "workers") line }) rows

-- the lines after the header
abbrev pub with_bound : Stated → List Row → Stated
with_bound s [] = s
with_bound s (line ∷ rows) = with_workers (record s { stage = stages.Workers; bound = stated_on (codes "bound") line }) rows

unfoldable pub stated : List Row → Stated
stated [] = nothing
stated (header ∷ rows) = with_bound (record nothing { stage = stages.Bound }) rows

-- ---- the tests of a line after lines that state this

abbrev pub staged_tests : Stage → Stated → Row → List (Test FenceKind)
staged_tests stages.Header s row = fences_header_tests row
staged_tests stages.Bound s row = bound_tests row
staged_tests stages.Workers s row = workers_tests row
staged_tests stages.Room s row = room_tests s.workers row
staged_tests stages.JoinsSection s row = joins_section_tests row
staged_tests stages.Joins s row = if nat_lt (length s.joins) s.count then join_tests row else fences_section_tests row
staged_tests stages.Fences s row = if nat_lt (length s.fences) s.count then fence_tests row else amounts_section_tests row
staged_tests stages.Amounts s row = if nat_lt (length s.amounts) s.count then amount_tests row else last_tests kinds.NoEnd row
staged_tests stages.Ended s row = further_tests kinds.NoEnd row

abbrev pub tests_after : Stated → Row → List (Test FenceKind)
tests_after s row = staged_tests s.stage s row

-- whether `end` was there
abbrev pub is_ended : Stage → Bool
is_ended stages.Ended = true
is_ended _ = false

abbrev pub end_tests_after : Stated → ℕ → List (Test FenceKind)
end_tests_after s past = end_tests (is_ended s.stage) kinds.NoEnd past

abbrev pub fences_format : Format FenceKind
fences_format = record {
  line_tests = λ before row. tests_after (stated before) row;
  end_tests = λ rows past. end_tests_after (stated rows) past;
}

-- ---- the whole file

abbrev pub workers_stated : ℕ → ℕ → Workers
workers_stated count room = if count == 0 then workers.Any else workers.AtMost count room

abbrev pub certificate_stated : Stated → Certificate
certificate_stated s =
    record { bound = s.bound; workers = workers_stated s.workers s.room; joins = s.joins; fences = s.fences; amounts = s.amounts }

-- every line passes, and the certificate is the one stated
pub record ReadsFences (bytes : List ℕ) (certificate : Certificate) : Type 0 where
  pub form : IsWellFormed fences_format (rows_of_bytes Commented bytes) (past_of_bytes bytes)
  pub stated : certificate ≡ certificate_stated (stated (rows_of_bytes Commented bytes))

abbrev pub RefusesFences : List ℕ → Refusal FenceKind → Type 0
RefusesFences bytes refusal = Refuses fences_format (rows_of_bytes Commented bytes) (past_of_bytes bytes) refusal

-- an answer that is no certificate: a refusal of the file, or memory ran out
abbrev pub IsFenceFileRefusal : List ℕ → Refusal FenceKind → Type 0
IsFenceFileRefusal bytes refusal = IsRefusal fences_format (rows_of_bytes Commented bytes) (past_of_bytes bytes) refusal
