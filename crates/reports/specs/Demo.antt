-- `demo`: an input that is made from a number, its plan, and the verdict of the checker on the plan.
use Rattle.std.specs.Prelude.{◌≡◌, ℕ, ◌*◌, false, List, [], ◌∷◌, ◌++◌, length, Option, Some, None}
use Rattle.std.specs.Prelude.{codes, decimal}
use Rattle.assembly_tree.specs.declared.front.Shape.TheVariants.{Triangle}
use Rattle.claim_check.specs.Accepted.{IsAccepted}
use Rattle.claim_check.specs.Verdicts.{IsVerdict}
use Rattle.claim_check.specs.declared.verdict.Verdict.{Verdict}
use Rattle.claim_check.specs.declared.verdict.Verdict.TheVariants as verdicts
use Rattle.least_peak.specs.Problem.{system_of, IsTermOf}
use Rattle.least_peak.specs.declared.problem.Origin.{Origin}
use Rattle.least_peak.specs.declared.problem.Origin.TheVariants as origins
use Rattle.patterns.specs.Pattern.{IsPatternOf, is_joined}
use Rattle.mp_gen.specs.Grid.{grid_pairs}
use Rattle.mp_gen.specs.RandomTree.{tree_of}
use Rattle.mp_gen.specs.RandomWorkflow.{workflow_of}
use Rattle.mp_system.specs.Memory.{peak_of}
use Rattle.mp_system.specs.Traversal.{IsLeast}
use Rattle.mp_text.specs.Report.{text_of_lines}
use Rattle.ordering.specs.MinimumDegree.{IsMinimumDegreeOrder}
use Rattle.plans.specs.Plan.{PlanValue}
use Rattle.postorder_best.specs.BestPostorder.{IsBestPostorder}
use Rattle.sp_terms.specs.declared.position.Position.{Position}
use Rattle.symbolic.specs.FrontTree.{IsFrontTree}
use Rattle.symbolic.specs.declared.options.FrontOptions.{FrontOptions}
use Rattle.trees.specs.declared.node.Node.{Node}
use Rattle.judging.specs.Files.{Answer}
use Rattle.requests.specs.declared.commands.demo.Demo.{Demo}
use Rattle.requests.specs.declared.commands.demo.Demo.TheVariants as demos
use Rattle.judging.specs.declared.status.Status.TheVariants as status

-- ---- words

-- ---- what is made

-- the fronts of a grid: triangles, none merged, none in place
abbrev pub plain_fronts : FrontOptions
plain_fronts = record { shape = Triangle; zeros = None; inplace = false }

-- the tree of the fronts of a grid, its vertices eliminated by minimum degree
abbrev pub IsGridTree : ℕ → ℕ → List Node → Type 0
IsGridTree rows cols nodes =
    (pattern : List (List ℕ)) × (order : List ℕ) × IsPatternOf (rows * cols) (grid_pairs rows cols) pattern
    × IsMinimumDegreeOrder (is_joined pattern) (length pattern) order × IsFrontTree plain_fronts pattern order nodes

-- the tree or the workflow that is made
abbrev pub IsMade : Demo → Origin → Type 0
IsMade (demos.Tree seed tasks) (origins.Tree nodes) = nodes ≡ tree_of seed tasks
IsMade (demos.Workflow seed tasks) (origins.Workflow positions) = positions ≡ workflow_of seed tasks
IsMade (demos.Grid rows cols) (origins.Tree nodes) = IsGridTree rows cols nodes
IsMade made origin = ⊥

-- ---- what is said of it

-- its term has so many positions
abbrev pub HasPositions : Origin → ℕ → Type 0
HasPositions origin count = (positions : List Position) × IsTermOf origin positions × (length positions ≡ count)

-- the peak of the best postorder of a tree; a workflow has none
abbrev pub IsPostorderPeak : Origin → Option ℕ → Type 0
IsPostorderPeak (origins.Tree nodes) (Some peak) =
    (order : List ℕ) × IsBestPostorder nodes order × (peak ≡ peak_of (system_of (origins.Tree nodes)) order)
IsPostorderPeak (origins.Workflow positions) None = Unit {0}
IsPostorderPeak origin peak = ⊥

-- a plan is accepted, by the term of what was made; and the verdict on any plan
abbrev pub IsAcceptedFor : Origin → PlanValue → Type 0
IsAcceptedFor origin plan = (positions : List Position) × IsTermOf origin positions × IsAccepted (system_of origin) positions plan

abbrev pub IsVerdictFor : Origin → PlanValue → Verdict → Type 0
IsVerdictFor origin plan verdict =
    (positions : List Position) × IsTermOf origin positions × IsVerdict (system_of origin) positions plan verdict

-- ---- the summary

abbrev pub kind_word : Demo → List ℕ
kind_word (demos.Tree seed tasks) = codes "tree"
kind_word (demos.Workflow seed tasks) = codes "workflow"
kind_word (demos.Grid rows cols) = codes "grid"

abbrev pub check_word : Verdict → List ℕ
check_word (verdicts.Yes peak) = codes "yes"
check_word (verdicts.No objection) = codes "no"

abbrev pub postorder_lines : Option ℕ → List (List (List ℕ))
postorder_lines None = []
postorder_lines (Some peak) = (codes "postorder" ∷ decimal peak ∷ []) ∷ []

-- `demo KIND`, `tasks N`, `positions N`, `peak PEAK`, for a tree `postorder PEAK`, `check yes` or `check no`, `end`
abbrev pub demo_lines : List ℕ → ℕ → ℕ → ℕ → Option ℕ → List ℕ → List (List (List ℕ))
demo_lines kind tasks positions peak postorder check =
    (codes "demo" ∷ kind ∷ [])
    ∷ (codes "tasks" ∷ decimal tasks ∷ [])
    ∷ (codes "positions" ∷ decimal positions ∷ [])
    ∷ (codes "peak" ∷ decimal peak ∷ [])
    ∷ postorder_lines postorder ++ (codes "check" ∷ check ∷ []) ∷ (codes "end" ∷ []) ∷ []

-- the summary of what was made, with a plan of this peak and the word of the checker
pub record IsSummary (kind : List ℕ) (origin : Origin) (peak : ℕ) (check : List ℕ) (text : List ℕ) : Type 0 where
  pub positions : ℕ
  pub has_positions : HasPositions origin positions
  pub postorder : Option ℕ
  pub is_postorder : IsPostorderPeak origin postorder
  pub text_is : text ≡ text_of_lines (demo_lines kind (length (system_of origin).tasks) positions peak postorder check)

-- the summary of any plan, with the verdict on it
abbrev pub IsJudgedSummary : List ℕ → Origin → PlanValue → Answer → Type 0
IsJudgedSummary kind origin plan answer =
    (verdict : Verdict) × IsVerdictFor origin plan verdict × (answer.status ≡ status.Done)
    × IsSummary kind origin plan.peak (check_word verdict) answer.text

-- the summary of some plan that is accepted for what was made, whichever it is
abbrev pub IsDemoOf : Demo → Answer → Type 0
IsDemoOf made answer =
    (origin : Origin) × (plan : PlanValue) × IsMade made origin × IsAcceptedFor origin plan
    × IsJudgedSummary (kind_word made) origin plan answer

-- the printed text is the summary of what was made; the checker says yes, and the peak is one that no traversal goes below
pub record IsShown (made : Demo) (printed : List ℕ) : Type 0 where
  pub origin : Origin
  pub is_made : IsMade made origin
  pub peak : ℕ
  pub least : IsLeast (system_of origin) peak
  pub summary : IsSummary (kind_word made) origin peak (codes "yes") printed
