-- What each command promises of what it prints, beside that it is an answer.
use Rattle.std.specs.Prelude.{◌≡◌, ◌≤◌, ℕ, List}
use Rattle.requests.specs.Request.{Request, replay, tree, post, check, planning, simulate, demo, upgrade, spill, segments, fronts, reduce}
use Rattle.requests.specs.Request.{check_fences, check_graph, plan_graph, bounding, fencing, planned_fencing, standing, IsMakeable}
use Rattle.requests.specs.Request.{columns, carrying}
use Rattle.judging.specs.Files.{Answer}
use Rattle.reports.specs.Reports.{IsReport}
use Rattle.reports.specs.Check.{IsCertified}
use Rattle.reports.specs.CheckGraph.{IsBoundCertified}
use Rattle.reports.specs.CheckFences.{AreFencesCertified}
use Rattle.reports.specs.Fence.{IsFencedIn}
use Rattle.reports.specs.PlannedFence.{IsFencedWithin}
use Rattle.reports.specs.Standing.{IsBoundedAsItStands}
use Rattle.reports.specs.Bound.{IsBounded}
use Rattle.reports.specs.Plan.{IsBestPlan}
use Rattle.reports.specs.PlanGraph.{IsGraphPlanned}
use Rattle.reports.specs.Simulate.{IsSimulated}
use Rattle.reports.specs.Demo.{IsShown}
use Rattle.reports.specs.Upgrade.{IsUpgraded}
use Rattle.reports.specs.SpilledGaps.{AreSpilled}
use Rattle.reports.specs.Segments.{IsReached}
use Rattle.reports.specs.Fronts.{IsFactored}
use Rattle.reports.specs.Columns.{AreColumns}
use Rattle.reports.specs.Carry.{IsOrderCarried}
use Rattle.reports.specs.Reduce.{IsReduced, HasIrreducibleRest, IsReducedItems, HasItemsRefusal, are_second, by_version}
use Rattle.judging.specs.declared.status.Status.{Status}
use Rattle.judging.specs.declared.status.Status.TheVariants as status

-- the answer that ends with done and this text
abbrev pub done_answer : List ℕ → Answer
done_answer printed = record { status = status.Done; text = printed }

-- what a request says by what it printed, over the texts of its files and with the status with which it ended
abbrev pub Says : Request → List (List ℕ) → Status → List ℕ → Type 0
-- where a peak was printed, the order is a traversal of the tasks' system, and the peak is its
Says (replay tasks source) texts ended printed = ended ≡ status.Done → IsReport (replay tasks source) texts (done_answer printed)
-- where a tree was printed, it is the tree of the fronts of the matrix
Says (tree matrix) texts ended printed = ended ≡ status.Done → IsReport (tree matrix) texts (done_answer printed)
-- where columns of fronts were printed, they are those of the fronts of the matrix, each front before its parent; one after another they are an
-- order of elimination with the same fill and the same fronts, and in a postorder of unmerged fronts it is its own natural postorder
Says (columns matrix source format) texts ended printed = ended ≡ status.Done → AreColumns matrix source format texts printed
-- where a postorder was printed, it is the best postorder of the tree, and the printed peak is its
Says (post input) texts ended printed = ended ≡ status.Done → IsReport (post input) texts (done_answer printed)
-- where a plan was checked and accepted, its order is a traversal of the input's system, its peak is the one that it states and that
-- was printed, and no traversal has a lower one
Says (check input plan workers) texts ended printed = ended ≡ status.Done → IsCertified input texts printed
-- where a plan with a bound was checked and accepted, its order is a traversal of the task graph, its peak is the one that it states and
-- that was printed, and no traversal has a peak below the bound; where `least` was printed, none has a lower one
Says (check_graph graph plan workers) texts ended printed = ended ≡ status.Done → IsBoundCertified texts printed
-- where fences were checked and accepted, memory stays within the bound that they state, and that was printed, along every parallel run of the
-- tasks that keeps to them, on as many workers as they are for, and no such run comes to a stop before all tasks are done
Says (check_fences tasks fences) texts ended printed = ended ≡ status.Done → AreFencesCertified tasks texts printed
-- where a plan was made, what was printed is a plan file, or the JSON of its plan: the order is a traversal of the input's system, its
-- peak is the one that the plan states, no traversal has a lower one, and `check` says yes to the file
Says (planning input format) texts ended printed = ended ≡ status.Done → IsBestPlan input format texts printed
-- where a plan of a task graph was made, what was printed is a plan file, or the JSON of its plan: the order is a traversal of the graph, no
-- worse than the one that was given, its peak is the one that the plan states, no traversal has a peak below the bound, and `check` says yes
-- to the file; the bound is the peak, which is least, wherever a series-parallel term tells the orders of the graph
Says (plan_graph graph order effort format) texts ended printed = ended ≡ status.Done → IsGraphPlanned order format texts printed
-- where a run was simulated to its end, its events are one activation, one start and one finish of each of the tasks, and
-- memory stayed within the bound, which is at least the peak of the order
Says (simulate tasks source simulation) texts ended printed = ended ≡ status.Done → IsSimulated tasks source simulation texts printed
-- where fences were made, what was printed is a file of fences that `check` accepts: memory stays within the bound along every parallel run of the
-- tasks that keeps to them, on as many workers as were asked for, and no such run comes to a stop before all tasks are done
Says (fencing tasks source f) texts ended printed = ended ≡ status.Done → IsFencedIn tasks source f texts printed
-- the same where the order was planned: it is some traversal of the tasks, whose peak is within the bound
Says (planned_fencing tasks f) texts ended printed = ended ≡ status.Done → IsFencedWithin tasks f texts printed
-- where a bound of the tasks as they stand was made, what was printed is a file of fences that `check` accepts, and that forbids no run: memory
-- stays within its bound along every parallel run of the tasks, on as many workers as were asked for, and no run comes to a stop before all are done
Says (standing tasks workers) texts ended printed = ended ≡ status.Done → IsBoundedAsItStands tasks workers texts printed
-- where a demo was made, what was printed is its summary: the checker says yes, and no traversal of the made system has a lower peak
-- than the one that was printed
Says (demo made) texts ended printed = ended ≡ status.Done → IsShown made printed
-- where a file was upgraded, what was printed is a file of version 2 that is read as what was upgraded
Says (upgrade file) texts ended printed = ended ≡ status.Done → IsUpgraded file texts printed
-- where amounts were printed, of the items of an input or of the gaps between the uses of a graph's items, they are a spill plan of the
-- system, the order and the bound, whose volume is the printed one, and no spill plan of these has a lower one
Says (spill tasks source bound) texts ended printed = ended ≡ status.Done → AreSpilled tasks source bound texts printed
-- where staircases were printed, of every printed pair the level is the memory of a state that is reached within the bound, and none
-- that is reached within it has a lower one; so it is for every bound
Says (segments input) texts ended printed = ended ≡ status.Done → IsReached input texts printed
-- where the rows of the fronts of a matrix were printed, each list is the structure of the first column of its supernode in the filled
-- graph, and of each further column the structure is the list from there on; the printed rounds are those of the activation machine,
-- and along them the rows that are used are at most the bound
Says (fronts matrix bound workers) texts ended printed = ended ≡ status.Done → IsFactored matrix bound workers texts printed
-- where a task graph of version 1 was reduced, a workflow file was printed, with names: the traversals of its system are those of the graph
-- under these names, with the same peaks, and so are the least peaks;
-- where it is told that such a graph is not series-parallel, no term has the system of the completed graph, and the arcs of an
-- irreducible rest of it were printed;
-- where one of version 2 was reduced, the traversals of the file's system tell those of the graph, all of them, with peaks that are no
-- higher, and the least peaks are the same; where it is told that it has no term of this kind, it is told why
Says (reduce name) texts ended printed = by_version (are_second texts)
    ((ended ≡ status.Done → IsReduced texts printed) × (ended ≡ status.NotSeriesParallel → HasIrreducibleRest texts printed))
    ((ended ≡ status.Done → IsReducedItems texts printed) × (ended ≡ status.NotSeriesParallel → HasItemsRefusal texts printed))
-- where an order was carried from a term to its graph, the order that was printed is a traversal of the graph, with its peak, which is no higher
-- than that of the order that was given in the system of the term, whose least peak is that of the graph
Says (carrying graph source) texts ended printed = ended ≡ status.Done → IsOrderCarried source texts printed
-- where a bound was printed, no traversal of the task graph has a peak below it, and the evidence was printed with it, which `check` takes;
-- it is at least what is there at the start, and what each task reads and needs; the peak that was printed before it is that of the order
Says (bounding graph order effort) texts ended printed = ended ≡ status.Done → IsBounded order texts printed

-- what is asked of a request for that: a run has a worker, and an input that is to be made can be
abbrev pub IsPossible : Request → Type 0
IsPossible (simulate tasks source simulation) = 1 ≤ simulation.workers
IsPossible (demo made) = IsMakeable made
IsPossible request = Unit {0}
