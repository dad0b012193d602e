-- `check` of a plan with a bound on a task graph: the verdict; and what a yes says, whoever made the plan.
use Rattle.std.specs.Prelude.{◌≡◌, ◌<◌, ◌≤◌, ◌⊎◌, ℕ, List, [], ◌∷◌, codes, decimal}
use Rattle.mp_text.specs.Report.{line_text}
use Rattle.mp_system.specs.Refusal.{word_of as order_word}
use Rattle.shared_systems.specs.Shared.{SharedTaskSystem}
use Rattle.shared_systems.specs.SharedMemory.{shared_peak_of}
use Rattle.shared_systems.specs.SharedTraversal.{IsSharedTraversal, IsLeastShared}
use Rattle.claim_check.specs.Shapes.{word_of as shape_word}
use Rattle.peak_bounds.specs.declared.evidence.BlockerTest.{BlockerTest}
use Rattle.peak_bounds.specs.declared.evidence.BlockerTest.TheVariants as tests
use Rattle.peak_bounds.specs.declared.evidence.Objection.{Objection}
use Rattle.peak_bounds.specs.declared.evidence.Objection.TheVariants as objections
use Rattle.state_search.specs.declared.judging.StatesObjection.{StatesObjection}
use Rattle.state_search.specs.declared.judging.StatesObjection.TheVariants as states
use Rattle.bounded_plans.specs.BoundedPlan.{BoundedPlanValue}
use Rattle.bound_check.specs.declared.objection.BoundObjection.{BoundObjection}
use Rattle.bound_check.specs.declared.objection.BoundObjection.TheVariants as against
use Rattle.bound_check.specs.declared.verdict.BoundVerdict.{BoundVerdict}
use Rattle.bound_check.specs.declared.verdict.BoundVerdict.TheVariants as verdicts
use Rattle.bound_check.specs.Accepted.{IsBoundVerdict}
use Rattle.judging.specs.declared.status.Status.TheVariants as status
use Rattle.judging.specs.Files.{Answer, IsSharedGraphFile, IsBoundedPlanFile}

-- the word for a test of a blocker
abbrev pub test_word : BlockerTest → List ℕ
test_word tests.Task = codes "task"
test_word tests.Rising = codes "rising"
test_word tests.Amounts = codes "amounts"
test_word tests.Sizes = codes "sizes"
test_word tests.Open = codes "open"
test_word tests.Level = codes "level"

-- `no need task`, `no need low`, `no set empty`, `no set base` or `no blocker PLACE TEST`
abbrev pub evidence_line : Objection → List (List ℕ)
evidence_line objections.NoTask = codes "no" ∷ codes "need" ∷ codes "task" ∷ []
evidence_line objections.Low = codes "no" ∷ codes "need" ∷ codes "low" ∷ []
evidence_line objections.Empty = codes "no" ∷ codes "set" ∷ codes "empty" ∷ []
evidence_line objections.Base = codes "no" ∷ codes "set" ∷ codes "base" ∷ []
evidence_line (objections.Blocker test place) = codes "no" ∷ codes "blocker" ∷ decimal place ∷ test_word test ∷ []

-- `no states room`, `no states order` or `no states many`
abbrev pub states_line : StatesObjection → List (List ℕ)
states_line states.Room = codes "no" ∷ codes "states" ∷ codes "room" ∷ []
states_line states.Order = codes "no" ∷ codes "states" ∷ codes "order" ∷ []
states_line states.Many = codes "no" ∷ codes "states" ∷ codes "many" ∷ []

-- `no order PLACE KIND`, `no peak REPLAYED PRINTED`, what is said of sums or of states, `no term`, `no root LAST` or
-- `no claim POSITION SHAPE`
abbrev pub against_line : BoundObjection → List (List ℕ)
against_line (against.Order fault) = codes "no" ∷ codes "order" ∷ decimal fault.place ∷ order_word fault.kind ∷ []
against_line (against.Peak replayed printed) = codes "no" ∷ codes "peak" ∷ decimal replayed ∷ decimal printed ∷ []
against_line (against.Sums objection) = evidence_line objection
against_line (against.States objection) = states_line objection
against_line against.NoTerm = codes "no" ∷ codes "term" ∷ []
against_line (against.Root last) = codes "no" ∷ codes "root" ∷ decimal last ∷ []
against_line (against.Claim position shape) = codes "no" ∷ codes "claim" ∷ decimal position ∷ shape_word shape ∷ []

-- `yes PEAK least`, where the bound is the peak, and `yes PEAK above BOUND`
abbrev pub least_line : ℕ → List (List ℕ)
least_line peak = codes "yes" ∷ decimal peak ∷ codes "least" ∷ []

abbrev pub above_line : ℕ → ℕ → List (List ℕ)
above_line peak bound = codes "yes" ∷ decimal peak ∷ codes "above" ∷ decimal bound ∷ []

abbrev pub bound_verdict_answer : BoundVerdict → Answer
bound_verdict_answer (verdicts.Least peak) = record { status = status.Done; text = line_text (least_line peak) }
bound_verdict_answer (verdicts.Above peak bound) = record { status = status.Done; text = line_text (above_line peak bound) }
bound_verdict_answer (verdicts.No objection) = record { status = status.No; text = line_text (against_line objection) }

-- the plan is accepted, or the first objection to it is told
abbrev pub IsBoundCheck : SharedTaskSystem → BoundedPlanValue → Answer → Type 0
IsBoundCheck system plan answer = (verdict : BoundVerdict) × IsBoundVerdict system plan verdict × (answer ≡ bound_verdict_answer verdict)

-- the texts are those of the graph and of the plan
abbrev pub IsBoundCheckOf : List (List ℕ) → Answer → Type 0
IsBoundCheckOf texts answer =
    (graph : List ℕ) × (file : List ℕ) × (system : SharedTaskSystem) × (plan : BoundedPlanValue)
    × (texts ≡ graph ∷ file ∷ []) × IsSharedGraphFile graph system × IsBoundedPlanFile file plan × IsBoundCheck system plan answer

-- what is printed of a peak and a bound: that no order has a lower peak, or the bound that none is below
abbrev pub IsYes : SharedTaskSystem → ℕ → ℕ → List ℕ → Type 0
IsYes system peak bound printed =
    (IsLeastShared system peak × (printed ≡ line_text (least_line peak)))
    ⊎ ((bound < peak) × (printed ≡ line_text (above_line peak bound)))

-- the order of the plan is a traversal of the graph, its peak is the one that the plan states and that was printed, and no traversal has a
-- peak below the bound that it states; where the bound is the peak, it is the least one
pub record IsBoundCertified (texts : List (List ℕ)) (printed : List ℕ) : Type 0 where
  pub graph : List ℕ
  pub file : List ℕ
  pub texts_are : texts ≡ graph ∷ file ∷ []
  pub system : SharedTaskSystem
  pub is_system : IsSharedGraphFile graph system
  pub plan : BoundedPlanValue
  pub is_plan : IsBoundedPlanFile file plan
  pub traversal : IsSharedTraversal system plan.order
  pub peak : shared_peak_of system plan.order ≡ plan.peak
  pub below_none : (order : List ℕ) → IsSharedTraversal system order → plan.bound ≤ shared_peak_of system order
  pub yes : IsYes system plan.peak plan.bound printed
