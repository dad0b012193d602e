-- Plan files of version 3, which have a bound and evidence for it: what a file reads as, and what it is refused with. They are this project's
-- own format. The lines of tasks, of the peak and of claims are those of versions 1 and 2, in `plan_files`.
use Rattle.std.specs.Prelude.{◌≡◌, ◌==◌, ℕ, suc, zero, ◌+◌, ◌-◌, Bool, true, false, ◌&&◌, nat_lt, nat_le, is_some, unwrap_or, pos}
use Rattle.std.specs.Prelude.{Option, Some, None, List, [], ◌∷◌, ◌++◌, length, map, take, drop, codes, if◌then◌else◌, slice_index_or, find}
use Rattle.std.specs.Str.{bytes_eq}
use Rattle.limits.specs.Limits.{most_tasks, most_positions, most_total}
use Rattle.limits.specs.declared.name.LimitName.TheVariants as limits
use Rattle.mp_text.specs.declared.layout.Layout.TheVariants.{Commented}
use Rattle.mp_text.specs.declared.refusals.Refusal.{Refusal}
use Rattle.mp_text.specs.declared.refusals.Refusal.TheVariants as refusals
use Rattle.mp_text.specs.Text.{Row, number_of}
use Rattle.mp_text.specs.Ahead.{rows_of_bytes, past_of_bytes}
use Rattle.mp_text.specs.Grammar.{Test, test, Format, IsWellFormed, Refuses, fault, token_at}
use Rattle.mp_text.specs.Reading.{IsRefusal}
use Rattle.file_frame.specs.Words.{after_word}
use Rattle.file_frame.specs.Frame.{stated_on, section_tests, count_tests, last_tests, further_tests, end_tests}
use Rattle.plans.specs.Plan.{most_number}
use Rattle.plans.specs.declared.claim.Claim.{Claim}
use Rattle.plan_files.specs.declared.kind.PlanKind.{PlanKind}
use Rattle.plan_files.specs.declared.kind.PlanKind.TheVariants as kinds
use Rattle.plan_files.specs.PlanFile.{value_of, is_number_up_to, bound_of, is_bound, order_section_tests, peak_tests, claims_section_tests}
use Rattle.plan_files.specs.PlanFile.{task_on, order_tests, claim_on, claim_tests}
use Rattle.peak_bounds.specs.declared.step.Event.{Event}
use Rattle.peak_bounds.specs.declared.step.Event.TheVariants as events
use Rattle.peak_bounds.specs.declared.evidence.Amount.{Amount}
use Rattle.peak_bounds.specs.declared.evidence.Evidence.{Evidence}
use Rattle.peak_bounds.specs.declared.evidence.Evidence.TheVariants as evidence
use Rattle.peak_bounds.specs.EventSets.{BlockerValue, EventSetValue}
use Rattle.bounded_plans.specs.BoundedPlan.{BoundedPlanValue}
use Rattle.bounded_plans.specs.declared.evidence.BoundEvidence.{BoundEvidence}
use Rattle.bounded_plans.specs.declared.evidence.BoundEvidence.TheVariants.{Sums, Claims, States}
use Rattle.bounded_plan_files.specs.declared.sort.Sort.{Sort}
use Rattle.bounded_plan_files.specs.declared.sort.Sort.TheVariants as sorts
use Rattle.bounded_plan_files.specs.declared.stage.Stage.{Stage}
use Rattle.bounded_plan_files.specs.declared.stage.Stage.TheVariants as stages

-- ---- line 1: `plan 3`

abbrev pub is_three : Option (List ℕ) → Bool
is_three None = false
is_three (Some word) = bytes_eq word (codes "3")

-- whether a line says version 3
abbrev pub says_third : Row → Bool
says_third row = is_three (after_word (codes "plan") row.tokens)

abbrev pub third_header_tests : Row → List (Test PlanKind)
third_header_tests row = test (says_third row) (fault kinds.Header row) ∷ []

-- ---- `bound L`

abbrev pub bound_tests : Row → List (Test PlanKind)
bound_tests row =
    section_tests (codes "bound") kinds.Section kinds.Number row
    ++ test (nat_le (stated_on (codes "bound") row) most_total) (fault kinds.Number row) ∷ []

-- ---- the line of the evidence: `need T`, `first B`, `last B`, `claims C` or `states K`

abbrev pub sort_word : Sort → List ℕ
sort_word sorts.Need = codes "need"
sort_word sorts.First = codes "first"
sort_word sorts.Last = codes "last"
sort_word sorts.Claims = codes "claims"
sort_word sorts.States = codes "states"

abbrev pub all_sorts : List Sort
all_sorts = sorts.Need ∷ sorts.First ∷ sorts.Last ∷ sorts.Claims ∷ sorts.States ∷ []

-- the sort whose word begins a line of two tokens
unfoldable pub sort_named : List (List ℕ) → Option Sort
sort_named tokens = find (λ sort. is_some (after_word (sort_word sort) tokens)) all_sorts

-- where the line names none, it does not begin with `need` either, which its tests then say
abbrev pub sort_on : Row → Sort
sort_on row = unwrap_or (sort_named row.tokens) sorts.Need

-- the number behind the word: a task, or 0 for none; how many blockers or claims there are; or how many states are looked at, at most
abbrev pub sort_tests : Sort → Row → List (Test PlanKind)
sort_tests sorts.Need row =
    section_tests (codes "need") kinds.Section kinds.Number row
    ++ test (nat_le (stated_on (codes "need") row) most_number) (fault kinds.Number row) ∷ []
sort_tests sorts.First row = count_tests (codes "first") kinds.Section kinds.Number most_tasks limits.Tasks row
sort_tests sorts.Last row = count_tests (codes "last") kinds.Section kinds.Number most_tasks limits.Tasks row
sort_tests sorts.Claims row = claims_section_tests row
sort_tests sorts.States row =
    section_tests (codes "states") kinds.Section kinds.Number row
    ++ test (nat_le (stated_on (codes "states") row) most_number) (fault kinds.Number row) ∷ []

abbrev pub evidence_tests : Row → List (Test PlanKind)
evidence_tests row = sort_tests (sort_on row) row

-- ---- `base K` and `blocker T D`, each with lines of amounts

abbrev pub base_tests : Row → List (Test PlanKind)
base_tests row = count_tests (codes "base") kinds.Section kinds.Number most_positions limits.Positions row

-- a blocker's task, and how many amounts of its own it has
abbrev pub blocker_task : Row → ℕ
blocker_task row = value_of (token_at 1 row)

abbrev pub own_stated : Row → ℕ
own_stated row = value_of (token_at 2 row)

-- with the number of amounts of the base and of the blockers before
abbrev pub blocker_tests : ℕ → Row → List (Test PlanKind)
blocker_tests uses row =
    test ((length row.tokens == 3) && bytes_eq (token_at 0 row) (codes "blocker")) (fault kinds.Section row)
    ∷ test (is_number_up_to most_number (token_at 1 row) && is_some (number_of (token_at 2 row))) (fault kinds.Number row)
    ∷ test (nat_le (uses + own_stated row) most_positions) (refusals.Limit limits.Positions)
    ∷ []

-- ---- a line of an amount: `place amount`

abbrev pub amount_on : Row → Amount
amount_on row = record { place = value_of (token_at 0 row); amount = bound_of (token_at 1 row) }

-- the place of the last amount, 0 where there is none
abbrev pub last_place : List Amount → ℕ
last_place amounts = (slice_index_or amounts (length amounts - 1) (record { place = 0; amount = pos 0 })).place

-- with the amounts of the lines before, of the same base or blocker
abbrev pub amount_tests : List Amount → Row → List (Test PlanKind)
amount_tests before row =
    test (length row.tokens == 2) (fault kinds.Amount row)
    ∷ test (is_number_up_to most_number (token_at 0 row) && is_bound (token_at 1 row)) (fault kinds.Number row)
    ∷ test (nat_lt (last_place before) (amount_on row).place) (fault kinds.Amount row)
    ∷ []

-- ---- what some lines of a file state, section by section

-- which line comes next, how many lines the section at hand has, how many blockers are to come, how many amounts were stated, and what the
-- lines say: `task` is that of `need T` or of the blocker at hand, `own` are its amounts, `blockers` those before it, and `states` is the number
-- of `states K`
pub record Stated : Type 0 where
  pub stage : Stage
  pub count : ℕ
  pub left : ℕ
  pub uses : ℕ
  pub order : List ℕ
  pub peak : ℕ
  pub bound : ℕ
  pub sort : Sort
  pub task : ℕ
  pub states : ℕ
  pub claims : List Claim
  pub base : List Amount
  pub own : List Amount
  pub blockers : List BlockerValue

abbrev pub nothing : Stated
nothing = record {
  stage = stages.Header;
  count = 0;
  left = 0;
  uses = 0;
  order = [];
  peak = 0;
  bound = 0;
  sort = sorts.Need;
  task = 0;
  states = 0;
  claims = [];
  base = [];
  own = [];
  blockers = [];
}

-- the blockers so far, that at hand among them
abbrev pub blockers_at : Stage → Stated → List BlockerValue
blockers_at stages.Own s = s.blockers ++ record { task = s.task; amounts = s.own } ∷ []
blockers_at _ s = s.blockers

-- the lines after all evidence
abbrev pub with_end : Stated → List Row → Stated
with_end s [] = s
with_end s (last ∷ rows) = record s { stage = stages.Ended }

-- the lines after `claims C`, which begins a section of so many
abbrev pub with_claims : ℕ → Stated → List Row → Stated
with_claims count s rows =
    with_end (record s { stage = stages.Claims; count = count; claims = map claim_on (take count rows) }) (drop count rows)

-- a blocker's line, and its amounts
abbrev pub with_blocker : Stated → Row → List Amount → Stated
with_blocker s line own = record s {
  stage = stages.Own;
  count = own_stated line;
  left = s.left - 1;
  uses = s.uses + own_stated line;
  task = blocker_task line;
  own = own;
  blockers = blockers_at s.stage s;
}

-- the lines after a base or a blocker, where so many blockers are to come
abbrev pub with_blockers : ℕ → Stated → List Row → Stated
with_blockers zero s [] = s
with_blockers zero s (last ∷ rows) = record s { stage = stages.Ended; own = []; blockers = blockers_at s.stage s }
with_blockers (suc more) s [] = s
with_blockers (suc more) s (line ∷ rows) =
    with_blockers more (with_blocker s line (map amount_on (take (own_stated line) rows))) (drop (own_stated line) rows)

-- the lines from `base K` on
abbrev pub with_base : Stated → List Row → Stated
with_base s [] = s
with_base s (section ∷ rows) =
    let count = stated_on (codes "base") section in
    with_blockers s.left (record s { stage = stages.Base; count = count; uses = count; base = map amount_on (take count rows) })
    (drop count rows)

-- the lines after the line of the evidence
abbrev pub with_sort : Sort → Stated → Row → List Row → Stated
with_sort sorts.Need s line rows = with_end (record s { stage = stages.End; sort = sorts.Need; task = stated_on (codes "need") line }) rows
with_sort sorts.First s line rows =
    with_base (record s { stage = stages.BaseSection; sort = sorts.First; left = stated_on (codes "first") line }) rows
with_sort sorts.Last s line rows =
    with_base (record s { stage = stages.BaseSection; sort = sorts.Last; left = stated_on (codes "last") line }) rows
with_sort sorts.Claims s line rows = with_claims (stated_on (codes "claims") line) (record s { sort = sorts.Claims }) rows
with_sort sorts.States s line rows =
    with_end (record s { stage = stages.End; sort = sorts.States; states = stated_on (codes "states") line }) rows

-- the lines after `bound L`
abbrev pub with_evidence : Stated → List Row → Stated
with_evidence s [] = s
with_evidence s (line ∷ rows) = with_sort (sort_on line) s line rows

-- the lines after `peak P`
abbrev pub with_bound : Stated → List Row → Stated
with_bound s [] = s
with_bound s (section ∷ rows) = with_evidence (record s { stage = stages.Evidence; bound = stated_on (codes "bound") section }) rows

-- the lines from `peak P` on
abbrev pub with_peak : Stated → List Row → Stated
with_peak s [] = s
with_peak s (section ∷ rows) = with_bound (record s { stage = stages.Bound; peak = stated_on (codes "peak") section }) rows

-- the lines after the header
abbrev pub with_order : Stated → List Row → Stated
with_order s [] = s
with_order s (section ∷ rows) =
    let count = stated_on (codes "order") section in
    with_peak (record s { stage = stages.Order; count = count; order = map task_on (take count rows) }) (drop count rows)

unfoldable pub stated : List Row → Stated
stated [] = nothing
stated (header ∷ rows) = with_order (record nothing { stage = stages.OrderSection }) rows

-- ---- the tests of a line after lines that state this

-- after all amounts of the base or of a blocker
abbrev pub tests_after_amounts : Stated → Row → List (Test PlanKind)
tests_after_amounts s row = if s.left == 0 then last_tests kinds.NoEnd row else blocker_tests s.uses row

abbrev pub staged_tests : Stage → Stated → Row → List (Test PlanKind)
staged_tests stages.Header s row = third_header_tests row
staged_tests stages.OrderSection s row = order_section_tests row
staged_tests stages.Order s row = if nat_lt (length s.order) s.count then order_tests row else peak_tests row
staged_tests stages.Bound s row = bound_tests row
staged_tests stages.Evidence s row = evidence_tests row
staged_tests stages.Claims s row = if nat_lt (length s.claims) s.count then claim_tests s.claims row else last_tests kinds.NoEnd row
staged_tests stages.BaseSection s row = base_tests row
staged_tests stages.Base s row = if nat_lt (length s.base) s.count then amount_tests s.base row else tests_after_amounts s row
staged_tests stages.Own s row = if nat_lt (length s.own) s.count then amount_tests s.own row else tests_after_amounts s row
staged_tests stages.End s row = last_tests kinds.NoEnd row
staged_tests stages.Ended s row = further_tests kinds.NoEnd row

abbrev pub tests_after : Stated → Row → List (Test PlanKind)
tests_after s row = staged_tests s.stage s row

-- whether `end` was there
abbrev pub is_ended : Stage → Bool
is_ended stages.Ended = true
is_ended _ = false

abbrev pub end_tests_after : Stated → ℕ → List (Test PlanKind)
end_tests_after s past = end_tests (is_ended s.stage) kinds.NoEnd past

abbrev pub bounded_plan_format : Format PlanKind
bounded_plan_format = record {
  line_tests = λ before row. tests_after (stated before) row;
  end_tests = λ rows past. end_tests_after (stated rows) past;
}

-- ---- the whole file

abbrev pub set_stated : Event → Stated → EventSetValue
set_stated event s = record { event = event; base = s.base; blockers = s.blockers }

-- what `need T` says: the need of a task; task 0 is no task, and then what is there before any task has run
abbrev pub need_stated : ℕ → Evidence
need_stated task = if task == 0 then evidence.Start else evidence.Need task

abbrev pub evidence_stated : Sort → Stated → BoundEvidence
evidence_stated sorts.Need s = Sums (need_stated s.task)
evidence_stated sorts.First s = Sums (evidence.Set (set_stated events.First s))
evidence_stated sorts.Last s = Sums (evidence.Set (set_stated events.Last s))
evidence_stated sorts.Claims s = Claims s.claims
evidence_stated sorts.States s = States s.states

abbrev pub plan_stated : Stated → BoundedPlanValue
plan_stated s = record { order = s.order; peak = s.peak; bound = s.bound; evidence = evidence_stated s.sort s }

-- every line passes, and the plan is the one stated
pub record ReadsBoundedPlan (bytes : List ℕ) (plan : BoundedPlanValue) : Type 0 where
  pub form : IsWellFormed bounded_plan_format (rows_of_bytes Commented bytes) (past_of_bytes bytes)
  pub stated : plan ≡ plan_stated (stated (rows_of_bytes Commented bytes))

abbrev pub RefusesBoundedPlan : List ℕ → Refusal PlanKind → Type 0
RefusesBoundedPlan bytes refusal = Refuses bounded_plan_format (rows_of_bytes Commented bytes) (past_of_bytes bytes) refusal

-- an answer that is no plan: a refusal of the file, or memory ran out
abbrev pub IsBoundedPlanRefusal : List ℕ → Refusal PlanKind → Type 0
IsBoundedPlanRefusal bytes refusal = IsRefusal bounded_plan_format (rows_of_bytes Commented bytes) (past_of_bytes bytes) refusal
