-- Plan files of version 1, and of version 2, which have a priority: what a file reads as, and what it is refused with. They are this
-- project's own format.
use Rattle.std.specs.Prelude.{◌≡◌, ◌==◌, ℕ, ◌-◌, Bool, true, false, ◌&&◌, ◌||◌, nat_lt, nat_le, is_some, unwrap_or, ℤ, pos, unsigned_abs}
use Rattle.std.specs.Prelude.{Option, Some, None, List, [], ◌∷◌, ◌++◌, length, map, take, drop, codes, if◌then◌else◌, slice_index_or}
use Rattle.std.specs.Str.{bytes_eq}
use Rattle.limits.specs.Limits.{most_tasks, most_positions, most_total}
use Rattle.limits.specs.declared.name.LimitName.TheVariants as limits
use Rattle.mp_text.specs.declared.layout.Layout.TheVariants.{Commented}
use Rattle.mp_text.specs.declared.refusals.Refusal.{Refusal}
use Rattle.file_frame.specs.declared.version.Version.{Version}
use Rattle.file_frame.specs.declared.version.Version.TheVariants.{One, Two}
use Rattle.mp_text.specs.Text.{Row, number_of, signed_of}
use Rattle.mp_text.specs.Ahead.{rows_of_bytes, past_of_bytes}
use Rattle.mp_text.specs.Grammar.{Test, test, Format, IsWellFormed, Refuses, fault, token_at}
use Rattle.mp_text.specs.Reading.{IsRefusal}
use Rattle.permutations.specs.Perm.{times}
use Rattle.plans.specs.Plan.{PlanValue, most_number}
use Rattle.plans.specs.declared.claim.Claim.{Claim}
use Rattle.plans.specs.declared.claim.Direction.{Direction}
use Rattle.plans.specs.declared.claim.Direction.TheVariants.{Forward, Backward}
use Rattle.plan_files.specs.declared.kind.PlanKind.{PlanKind}
use Rattle.plan_files.specs.declared.kind.PlanKind.TheVariants as kinds
use Rattle.plan_files.specs.declared.stage.Stage.{Stage}
use Rattle.plan_files.specs.declared.stage.Stage.TheVariants as stages
use Rattle.file_frame.specs.Frame.{header_tests, version_stated, stated_on, section_tests, count_tests, last_tests, further_tests, end_tests}

-- the number that a token spells, 0 where it spells none
abbrev pub value_of : List ℕ → ℕ
value_of token = unwrap_or (number_of token) 0

abbrev pub is_number_up_to : ℕ → List ℕ → Bool
is_number_up_to most token = is_some (number_of token) && nat_le (value_of token) most

-- ---- line 1: `plan 1` or `plan 2`

abbrev pub plan_header_tests : Row → List (Test PlanKind)
plan_header_tests row = header_tests (codes "plan") Two kinds.Header row

abbrev pub plan_version : Row → Version
plan_version header = version_stated (codes "plan") Two header

-- ---- a line that begins a section: `order N`, `priority M`, `peak P`, `claims C`

abbrev pub order_section_tests : Row → List (Test PlanKind)
order_section_tests row = count_tests (codes "order") kinds.Section kinds.Number most_tasks limits.Tasks row

-- the priority ranks all tasks of the order, or is left out
abbrev pub priority_section_tests : ℕ → Row → List (Test PlanKind)
priority_section_tests tasks row =
    let count = stated_on (codes "priority") row in
    section_tests (codes "priority") kinds.Section kinds.Number row ++ test ((count == 0) || (count == tasks)) (fault kinds.Priority row) ∷ []

abbrev pub peak_tests : Row → List (Test PlanKind)
peak_tests row =
    section_tests (codes "peak") kinds.Section kinds.Number row
    ++ test (nat_le (stated_on (codes "peak") row) most_total) (fault kinds.Number row) ∷ []

abbrev pub claims_section_tests : Row → List (Test PlanKind)
claims_section_tests row = count_tests (codes "claims") kinds.Section kinds.Number most_positions limits.Positions row

-- ---- a line within a section

-- the task of an order line or a priority line
abbrev pub task_on : Row → ℕ
task_on row = value_of (token_at 0 row)

abbrev pub order_tests : Row → List (Test PlanKind)
order_tests row =
    test (length row.tokens == 1) (fault kinds.Order row)
    ∷ test (is_number_up_to most_number (token_at 0 row)) (fault kinds.Number row)
    ∷ []

-- with the number of tasks, and the tasks of the priority lines before
abbrev pub priority_tests : ℕ → List ℕ → Row → List (Test PlanKind)
priority_tests tasks before row =
    test (length row.tokens == 1) (fault kinds.Priority row)
    ∷ test (is_some (number_of (token_at 0 row))) (fault kinds.Number row)
    ∷ test (nat_le 1 (task_on row) && nat_le (task_on row) tasks && (times before (task_on row) == 0)) (fault kinds.Priority row)
    ∷ []

-- a claim line: `position F bound rest` or `position R bound rest`

unfoldable pub dir_named : List ℕ → Option Direction
dir_named token = if bytes_eq token (codes "F") then Some Forward else (if bytes_eq token (codes "R") then Some Backward else None)

-- the signed number that a token spells, 0 where it spells none
abbrev pub bound_of : List ℕ → ℤ
bound_of token = unwrap_or (signed_of token) (pos 0)

-- from -2^60 to 2^60
abbrev pub is_bound : List ℕ → Bool
is_bound token = is_some (signed_of token) && nat_le (unsigned_abs (bound_of token)) most_total

abbrev pub claim_on : Row → Claim
claim_on row = record {
  position = value_of (token_at 0 row);
  dir = unwrap_or (dir_named (token_at 1 row)) Forward;
  bound = bound_of (token_at 2 row);
  rest = value_of (token_at 3 row);
}

-- the position of the last claim, 0 where there is none
abbrev pub last_position : List Claim → ℕ
last_position claims =
    (slice_index_or claims (length claims - 1) (record { position = 0; dir = Forward; bound = pos 0; rest = 0 })).position

-- the tokens of a claim line
abbrev pub claim_form : Row → List (Test PlanKind)
claim_form row =
    test ((length row.tokens == 4) && is_some (dir_named (token_at 1 row))) (fault kinds.Claim row)
    ∷ test (is_number_up_to most_number (token_at 0 row) && is_bound (token_at 2 row) && is_number_up_to most_total (token_at 3 row))
    (fault kinds.Number row)
    ∷ []

-- with the claims of the lines before
abbrev pub claim_tests : List Claim → Row → List (Test PlanKind)
claim_tests before row =
    claim_form row ++ test (nat_lt (last_position before) (claim_on row).position) (fault kinds.Claim row) ∷ []

-- ---- what some lines of a file state, section by section

-- which line comes next, the version, how many lines the section at hand has, how many tasks the priority ranks, and what the lines say
pub record Stated : Type 0 where
  pub stage : Stage
  pub version : Version
  pub count : ℕ
  pub tasks : ℕ
  pub order : List ℕ
  pub priority : List ℕ
  pub peak : ℕ
  pub claims : List Claim

abbrev pub nothing : Stated
nothing = record { stage = stages.Header; version = One; count = 0; tasks = 0; order = []; priority = []; peak = 0; claims = [] }

-- the lines after all claims
abbrev pub with_end : Stated → List Row → Stated
with_end s [] = s
with_end s (last ∷ rows) = record s { stage = stages.Ended }

-- the lines after `peak P`
abbrev pub with_claims : Stated → List Row → Stated
with_claims s [] = s
with_claims s (section ∷ rows) =
    let count = stated_on (codes "claims") section in
    with_end (record s { stage = stages.Claims; count = count; claims = map claim_on (take count rows) }) (drop count rows)

-- the lines from `peak P` on
abbrev pub with_peak : Stated → List Row → Stated
with_peak s [] = s
with_peak s (section ∷ rows) = with_claims (record s { stage = stages.ClaimsSection; peak = stated_on (codes "peak") section }) rows

-- the lines from `priority M` on
abbrev pub with_ranks : Stated → List Row → Stated
with_ranks s [] = s
with_ranks s (section ∷ rows) =
    let count = stated_on (codes "priority") section in
    with_peak (record s { stage = stages.Priority; tasks = s.count; count = count; priority = map task_on (take count rows) })
    (drop count rows)

-- the lines after the order lines
abbrev pub after_order_in : Version → Stated → List Row → Stated
after_order_in One s rows = with_peak s rows
after_order_in Two s rows = with_ranks s rows

-- the lines after the header
abbrev pub with_order : Stated → List Row → Stated
with_order s [] = s
with_order s (section ∷ rows) =
    let count = stated_on (codes "order") section in
    after_order_in s.version (record s { stage = stages.Order; count = count; order = map task_on (take count rows) }) (drop count rows)

unfoldable pub stated : List Row → Stated
stated [] = nothing
stated (header ∷ rows) = with_order (record nothing { stage = stages.OrderSection; version = plan_version header }) rows

-- ---- the tests of a line after lines that state this

-- after the order lines
abbrev pub tests_after_order : Version → Stated → Row → List (Test PlanKind)
tests_after_order One s row = peak_tests row
tests_after_order Two s row = priority_section_tests s.count row

abbrev pub staged_tests : Stage → Stated → Row → List (Test PlanKind)
staged_tests stages.Header s row = plan_header_tests row
staged_tests stages.OrderSection s row = order_section_tests row
staged_tests stages.Order s row = if nat_lt (length s.order) s.count then order_tests row else tests_after_order s.version s row
staged_tests stages.Priority s row = if nat_lt (length s.priority) s.count then priority_tests s.tasks s.priority row else peak_tests row
staged_tests stages.ClaimsSection s row = claims_section_tests row
staged_tests stages.Claims s row = if nat_lt (length s.claims) s.count then claim_tests s.claims row else last_tests kinds.NoEnd row
staged_tests stages.Ended s row = further_tests kinds.NoEnd row

abbrev pub tests_after : Stated → Row → List (Test PlanKind)
tests_after s row = staged_tests s.stage s row

-- whether `end` was there
abbrev pub is_ended : Stage → Bool
is_ended stages.Ended = true
is_ended _ = false

abbrev pub end_tests_after : Stated → ℕ → List (Test PlanKind)
end_tests_after s past = end_tests (is_ended s.stage) kinds.NoEnd past

abbrev pub plan_format : Format PlanKind
plan_format = record {
  line_tests = λ before row. tests_after (stated before) row;
  end_tests = λ rows past. end_tests_after (stated rows) past;
}

-- ---- the whole file

abbrev pub plan_stated : Stated → PlanValue
plan_stated s = record { order = s.order; peak = s.peak; claims = s.claims; priority = s.priority }

-- every line passes, and the plan is the one stated
pub record ReadsPlan (bytes : List ℕ) (plan : PlanValue) : Type 0 where
  pub form : IsWellFormed plan_format (rows_of_bytes Commented bytes) (past_of_bytes bytes)
  pub stated : plan ≡ plan_stated (stated (rows_of_bytes Commented bytes))

abbrev pub RefusesPlan : List ℕ → Refusal PlanKind → Type 0
RefusesPlan bytes refusal = Refuses plan_format (rows_of_bytes Commented bytes) (past_of_bytes bytes) refusal

-- an answer that is no plan: a refusal of the file, or memory ran out
abbrev pub IsPlanRefusal : List ℕ → Refusal PlanKind → Type 0
IsPlanRefusal bytes refusal = IsRefusal plan_format (rows_of_bytes Commented bytes) (past_of_bytes bytes) refusal
