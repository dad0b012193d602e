-- The commands: the words that ask for each, and what is answered over the contents of its files, a status and a text. There is one
-- answer for a first refusal, in the order of the files, and else the report.
use Rattle.std.specs.Prelude.{◌≡◌, ℕ, List, [], ◌⊎◌}
use Rattle.trees.specs.declared.node.Node.{Node}
use Rattle.requests.specs.Request.{Request, replay, tree, post, check, planning, simulate, demo, upgrade, spill, fronts, segments, reduce}
use Rattle.requests.specs.Request.{check_fences, check_graph, plan_graph, bounding, fencing, planned_fencing, standing, files_of}
use Rattle.requests.specs.Request.{columns, carrying}
use Rattle.reports.specs.Replay.{IsReplayOf}
use Rattle.judging.specs.Files.{IsTreeOf, IsFirstRefusal, IsMatrixTree, Answer}
use Rattle.reports.specs.Check.{IsCheckOf}
use Rattle.reports.specs.CheckGraph.{IsBoundCheckOf}
use Rattle.reports.specs.CheckFences.{IsFenceCheckOf}
use Rattle.reports.specs.Fence.{IsFenceAnswerOf}
use Rattle.reports.specs.PlannedFence.{IsPlannedFenceAnswerOf}
use Rattle.reports.specs.Standing.{IsStandingAnswerOf}
use Rattle.reports.specs.Bound.{IsBoundOf}
use Rattle.reports.specs.Simulate.{IsSimulationOf}
use Rattle.reports.specs.Plan.{IsPlanOf}
use Rattle.reports.specs.PlanGraph.{IsGraphPlanOf}
use Rattle.reports.specs.Demo.{IsDemoOf}
use Rattle.reports.specs.Tree.{tree_answer}
use Rattle.reports.specs.Post.{IsPost}
use Rattle.reports.specs.Upgrade.{IsUpgradeOf}
use Rattle.reports.specs.SpilledGaps.{IsSpillOf}
use Rattle.reports.specs.Segments.{IsSegmentsOf}
use Rattle.reports.specs.Columns.{IsColumnsOf}
use Rattle.reports.specs.Carry.{IsCarryOf}
use Rattle.reports.specs.Reduce.{IsReduceOf}
use Rattle.reports.specs.Fronts.{IsFrontsOf}

-- what is answered where all files have values
abbrev pub IsReport : Request → List (List ℕ) → Answer → Type 0
IsReport (replay tasks source) texts answer = IsReplayOf tasks source texts answer
IsReport (tree m) texts answer = (nodes : List Node) × IsMatrixTree m texts nodes × (answer ≡ tree_answer nodes)
IsReport (columns m source format) texts answer = IsColumnsOf m source format texts answer
IsReport (post input) texts answer = (nodes : List Node) × IsTreeOf input texts nodes × IsPost nodes answer
IsReport (check input plan workers) texts answer = IsCheckOf input texts answer
IsReport (check_graph graph plan workers) texts answer = IsBoundCheckOf texts answer
IsReport (check_fences tasks fences) texts answer = IsFenceCheckOf tasks texts answer
IsReport (planning input format) texts answer = IsPlanOf input format texts answer
IsReport (plan_graph graph order effort format) texts answer = IsGraphPlanOf order format texts answer
IsReport (simulate tasks source s) texts answer = IsSimulationOf tasks source s texts answer
IsReport (fencing tasks source f) texts answer = IsFenceAnswerOf tasks source f texts answer
IsReport (planned_fencing tasks f) texts answer = IsPlannedFenceAnswerOf tasks f texts answer
IsReport (standing tasks workers) texts answer = IsStandingAnswerOf tasks workers texts answer
IsReport (demo made) texts answer = IsDemoOf made answer
IsReport (upgrade u) texts answer = IsUpgradeOf u texts answer
IsReport (spill tasks source bound) texts answer = IsSpillOf tasks source bound texts answer
IsReport (segments input) texts answer = IsSegmentsOf input texts answer
IsReport (fronts m bound workers) texts answer = IsFrontsOf m bound workers texts answer
IsReport (reduce name) texts answer = IsReduceOf texts answer
IsReport (carrying graph source) texts answer = IsCarryOf source texts answer
IsReport (bounding graph order effort) texts answer = IsBoundOf order texts answer

-- the files of a request decide its answer; but `plan` may print any plan of least peak with a certificate, or any of a graph, `spill` the
-- amounts of any spill plan of least volume, `reduce` any term of a graph or any irreducible rest, with an order too, `bound` any bound for which there is
-- evidence, `fence` any fences that amounts certify, along any plan where it plans the order, and `check` may judge the claims of a plan on any term of a graph
abbrev pub IsDecided : Request → Type 0
IsDecided (planning input format) = ⊥
IsDecided (plan_graph graph order effort format) = ⊥
IsDecided (spill tasks source bound) = ⊥
IsDecided (reduce name) = ⊥
IsDecided (carrying graph source) = ⊥
IsDecided (bounding graph order effort) = ⊥
IsDecided (check_graph graph plan workers) = ⊥
IsDecided (check_fences tasks fences) = ⊥
IsDecided (fencing tasks source f) = ⊥
IsDecided (planned_fencing tasks f) = ⊥
IsDecided (standing tasks workers) = ⊥
IsDecided request = Unit {0}

-- the answer to a request over the texts of its files
abbrev pub IsAnswer : Request → List (List ℕ) → Answer → Type 0
IsAnswer request texts answer = IsFirstRefusal (files_of request) [] texts answer ⊎ IsReport request texts answer
