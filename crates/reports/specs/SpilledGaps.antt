-- `spill` of a task graph: what must go to disk in the gaps between the uses of its items. Amounts of the gaps are printed; what is printed
-- is a spill plan of which none has a lower volume.
use Rattle.std.specs.Prelude.{◌≡◌, ℕ, ◌+◌, ◌≤◌, nat_lt, List, [], ◌∷◌, ◌++◌, length, map, sum, Some, codes, unwrap_or}
use Rattle.std.specs.Prelude.{decimal, ◌⊎◌}
use Rattle.std.specs.List.{filter, zip}
use Rattle.mp_text.specs.Report.{text_of_lines}
use Rattle.mp_system.specs.declared.system.OrderKind.{OrderKind}
use Rattle.shared_systems.specs.Shared.{SharedTaskSystem, SharedItem}
use Rattle.shared_systems.specs.SharedTraversal.{IsSharedTraversal, first_shared_fault}
use Rattle.spill_plan.specs.Gaps.{Gap, gaps_of, gaps_of_item, IsGapPlan, IsLeastGapSpill, IsGapWorkingSet, gap_plan_by_amounts, gap_volume}
use Rattle.reports.specs.declared.commands.gap_report.GapName.{GapName}
use Rattle.requests.specs.Request.{TaskSource, input_tasks, graph_tasks, OrderSource}
use Rattle.judging.specs.declared.status.Status.TheVariants as status
use Rattle.judging.specs.Files.{IsTaskSystemOf, order_refused, IsOrderFrom, Answer}
use Rattle.least_peak.specs.Problem.{system_of}
use Rattle.judging.specs.declared.inputs.Tasks.{Tasks}
use Rattle.judging.specs.declared.inputs.Tasks.TheVariants as read
use Rattle.reports.specs.Spill.{working_set_refused, IsSpillAnswer, IsItemSpillOf, IsSpilled}

-- a gap by the number of its item and the task that reads it at the gap's end, or 0 without one
abbrev pub name_of_gap : ℕ → Gap → GapName
name_of_gap number gap = record { item = number; reader = unwrap_or gap.reader 0 }

-- the gaps of all items, whose numbers rise from this one
abbrev pub gap_names : ℕ → List SharedItem → List GapName
gap_names number [] = []
gap_names number (x ∷ xs) = map (name_of_gap number) (gaps_of_item x) ++ gap_names (number + 1) xs

-- those in which some is spilled, each with its amount
abbrev pub spilled_gaps : List GapName → List ℕ → List (GapName × ℕ)
spilled_gaps names amounts = filter (λ gap. nat_lt 0 gap.1) (zip names amounts)

-- `ITEM READER AMOUNT`
abbrev pub gap_line : GapName × ℕ → List (List ℕ)
gap_line gap = decimal gap.0.item ∷ decimal gap.0.reader ∷ decimal gap.1 ∷ []

-- `volume V`, `gaps K`, the gaps, `end`
abbrev pub gap_lines : ℕ → List GapName → List ℕ → List (List (List ℕ))
gap_lines volume names amounts =
    (codes "volume" ∷ decimal volume ∷ [])
    ∷ (codes "gaps" ∷ decimal (length (spilled_gaps names amounts)) ∷ [])
    ∷ map gap_line (spilled_gaps names amounts) ++ (codes "end" ∷ []) ∷ []

abbrev pub gap_answer : SharedTaskSystem → ℕ → List ℕ → Answer
gap_answer system volume amounts =
    record { status = status.Done; text = text_of_lines (gap_lines volume (gap_names 1 system.items) amounts) }

-- the order is no traversal, and its first fault is told; or the first step is told whose inputs and need alone pass the bound;
-- or the amounts of a spill plan of least volume are told, whichever it is, with their sum
abbrev pub IsGapAnswer : SharedTaskSystem → List ℕ → ℕ → Answer → Type 0
IsGapAnswer system order bound answer =
    ((place : ℕ) × (kind : OrderKind) × (first_shared_fault system order ≡ Some (place, kind)) × (answer ≡ order_refused place kind))
    ⊎ (((step : ℕ) × (need : ℕ) × IsSharedTraversal system order × IsGapWorkingSet system order bound step need
    × (answer ≡ working_set_refused step need bound))
    ⊎ ((volume : ℕ) × (amounts : List ℕ) × IsSharedTraversal system order × IsLeastGapSpill system order bound amounts volume
    × (answer ≡ gap_answer system volume amounts)))

-- a spill of tasks: the texts of their files, and that of the order
abbrev pub IsGapSpillOf : TaskSource → OrderSource → ℕ → List (List ℕ) → Answer → Type 0
IsGapSpillOf tasks source bound texts answer =
    (mine : List (List ℕ)) × (text : List ℕ) × (system : SharedTaskSystem) × (numbers : List ℕ)
    × (texts ≡ mine ++ text ∷ []) × IsTaskSystemOf tasks mine system × IsOrderFrom source text numbers
    × IsGapAnswer system numbers bound answer

-- an amount for each gap between the uses of an item was printed, and the volume. The plan that has a gap's amount on disk at each step
-- that the gap is across is a spill plan of the tasks, the order and the bound; its volume is the printed one, which is the sum of the
-- amounts; and no spill plan of these has a lower one. The texts are those of the tasks' files, and that of the order or the plan
pub record IsGapSpilled (tasks : TaskSource) (source : OrderSource) (bound : ℕ) (texts : List (List ℕ)) (printed : List ℕ) : Type 0 where
  pub mine : List (List ℕ)
  pub text : List ℕ
  pub texts_are : texts ≡ mine ++ text ∷ []
  pub system : SharedTaskSystem
  pub is_system : IsTaskSystemOf tasks mine system
  pub order : List ℕ
  pub is_order : IsOrderFrom source text order
  pub traversal : IsSharedTraversal system order
  pub volume : ℕ
  pub amounts : List ℕ
  pub len : length amounts ≡ length (gaps_of system)
  pub plan : IsGapPlan system order bound (gap_plan_by_amounts system order amounts)
  pub volume_is : gap_volume system order (gap_plan_by_amounts system order amounts) ≡ volume
  pub sum_is : sum amounts ≡ volume
  pub least : (other : ℕ → ℕ → ℕ) → IsGapPlan system order bound other → volume ≤ gap_volume system order other
  pub printed_is : printed ≡ (gap_answer system volume amounts).text

-- ---- either

-- what is told of tasks that were read
abbrev pub IsSpillAnswerOf : Tasks → List ℕ → ℕ → Answer → Type 0
IsSpillAnswerOf (read.Problem problem) order bound answer = IsSpillAnswer (system_of problem) order bound answer
IsSpillAnswerOf (read.Graph system) order bound answer = IsGapAnswer system order bound answer

-- a spill: of an input by its items, of a task graph by the gaps between the uses of its items
abbrev pub IsSpillOf : TaskSource → OrderSource → ℕ → List (List ℕ) → Answer → Type 0
IsSpillOf (input_tasks input) source bound texts answer = IsItemSpillOf input source bound texts answer
IsSpillOf (graph_tasks name) source bound texts answer = IsGapSpillOf (graph_tasks name) source bound texts answer

abbrev pub AreSpilled : TaskSource → OrderSource → ℕ → List (List ℕ) → List ℕ → Type 0
AreSpilled (input_tasks input) source bound texts printed = IsSpilled input source bound texts printed
AreSpilled (graph_tasks name) source bound texts printed = IsGapSpilled (graph_tasks name) source bound texts printed
