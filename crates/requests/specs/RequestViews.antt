-- What the code's requests say.
use Rattle.std.specs.Prelude.{option_map}
use Rattle.requests.specs.Request as requests
use Rattle.requests.specs.declared.request.Input.{Input}
use Rattle.requests.specs.declared.request.Input.TheVariants as inputs
use Rattle.requests.specs.declared.request.Matrix.{Matrix}
use Rattle.requests.specs.declared.request.Ordering.{Ordering}
use Rattle.requests.specs.declared.request.Ordering.TheVariants as orderings
use Rattle.requests.specs.declared.request.OrderedMatrix.{OrderedMatrix}
use Rattle.requests.specs.declared.request.OrderSource.{OrderSource}
use Rattle.requests.specs.declared.request.OrderSource.TheVariants as sources
use Rattle.requests.specs.declared.request.PlanFormat.{PlanFormat}
use Rattle.requests.specs.declared.request.PlanFormat.TheVariants as formats
use Rattle.requests.specs.declared.commands.columns.ColumnsFormat.{ColumnsFormat}
use Rattle.requests.specs.declared.commands.columns.ColumnsFormat.TheVariants as columns_formats
use Rattle.requests.specs.declared.request.Request.{Request}
use Rattle.requests.specs.declared.request.Request.TheVariants as commands
use Rattle.requests.specs.declared.commands.fence.Fencing.{Fencing}
use Rattle.requests.specs.declared.commands.fence.PlannedFencing.{PlannedFencing}
use Rattle.requests.specs.declared.commands.simulate.Simulation.{Simulation}
use Rattle.requests.specs.declared.commands.upgrade.Upgrade.{Upgrade}
use Rattle.requests.specs.declared.commands.upgrade.Upgrade.TheVariants as upgrades
use Rattle.requests.specs.declared.request.TaskSource.{TaskSource}
use Rattle.requests.specs.declared.request.TaskSource.TheVariants as tasks
use Rattle.requests.specs.declared.request.TreeInput.{TreeInput}
use Rattle.requests.specs.declared.request.TreeInput.TheVariants as trees

abbrev pub ordering_view : Ordering → requests.Ordering
ordering_view orderings.Natural = requests.natural
ordering_view orderings.MinDegree = requests.min_degree
ordering_view (orderings.Perm name) = requests.perm_named name.now
ordering_view (orderings.Inverse name) = requests.inverse_named name.now

abbrev pub matrix_view : Matrix → requests.Matrix
matrix_view m = record { name = m.name.now; ordering = ordering_view m.ordering; fronts = m.fronts }

abbrev pub ordered_matrix_view : OrderedMatrix → requests.OrderedMatrix
ordered_matrix_view m = record { name = m.name.now; ordering = ordering_view m.ordering }

abbrev pub tree_input_view : TreeInput → requests.TreeInput
tree_input_view (trees.Tree name) = requests.tree_named name.now
tree_input_view (trees.Matrix m) = requests.matrix_named (matrix_view m)

abbrev pub input_view : Input → requests.Input
input_view (inputs.Tree input) = requests.tree_input (tree_input_view input)
input_view (inputs.Workflow name) = requests.workflow_named name.now

abbrev pub tasks_view : TaskSource → requests.TaskSource
tasks_view (tasks.Input input) = requests.input_tasks (input_view input)
tasks_view (tasks.Graph name) = requests.graph_tasks name.now

abbrev pub source_view : OrderSource → requests.OrderSource
source_view (sources.Order name) = requests.order_named name.now
source_view (sources.Plan name) = requests.plan_named name.now

abbrev pub simulation_view : Simulation → requests.Simulation
simulation_view names = record { bound = names.bound; workers = names.workers; priority = option_map (λ name. name.now) names.priority }

abbrev pub fencing_view : Fencing → requests.Fencing
fencing_view names = record { bound = names.bound; workers = names.workers; fewest = names.fewest }

abbrev pub planned_fencing_view : PlannedFencing → requests.Fencing
planned_fencing_view names = record { bound = names.bound; workers = names.workers; fewest = names.fewest }

abbrev pub format_view : PlanFormat → requests.PlanFormat
format_view formats.File = requests.as_file
format_view formats.Json = requests.as_json

abbrev pub columns_format_view : ColumnsFormat → requests.ColumnsFormat
columns_format_view columns_formats.ByFront = requests.by_front
columns_format_view columns_formats.Perm = requests.as_perm

abbrev pub upgrade_view : Upgrade → requests.Upgrade
upgrade_view (upgrades.Tree name) = requests.tree_upgrade name.now
upgrade_view (upgrades.Workflow name) = requests.workflow_upgrade name.now
upgrade_view (upgrades.Graph name) = requests.graph_upgrade name.now
upgrade_view (upgrades.Plan name priority) = requests.plan_upgrade name.now (option_map (λ s. s.now) priority)

abbrev pub request_view : Request → requests.Request
request_view (commands.Replay r) = requests.replay (tasks_view r.tasks) (source_view r.source)
request_view (commands.Tree m) = requests.tree (matrix_view m)
request_view (commands.Columns c) =
    requests.columns (matrix_view c.matrix) (option_map source_view c.source) (columns_format_view c.format)
request_view (commands.Post input) = requests.post (tree_input_view input)
request_view (commands.Check c) = requests.check (input_view c.input) c.plan.now c.workers
request_view (commands.CheckGraph c) = requests.check_graph c.graph.now c.plan.now c.workers
request_view (commands.CheckFences c) = requests.check_fences (tasks_view c.tasks) c.fences.now
request_view (commands.Plan input format) = requests.planning (input_view input) (format_view format)
request_view (commands.PlanGraph p) =
    requests.plan_graph p.graph.now (option_map (λ name. name.now) p.order) p.effort (format_view p.format)
request_view (commands.Simulate names) = requests.simulate (tasks_view names.tasks) (source_view names.source) (simulation_view names)
request_view (commands.Fence names) = requests.fencing (tasks_view names.tasks) (source_view names.source) (fencing_view names)
request_view (commands.PlannedFence names) = requests.planned_fencing (tasks_view names.tasks) (planned_fencing_view names)
request_view (commands.Standing tasks workers) = requests.standing (tasks_view tasks) workers
request_view (commands.Demo made) = requests.demo made
request_view (commands.Upgrade u) = requests.upgrade (upgrade_view u)
request_view (commands.Spill s) = requests.spill (tasks_view s.tasks) (source_view s.source) s.bound
request_view (commands.Segments input) = requests.segments (input_view input)
request_view (commands.Fronts run) = requests.fronts (ordered_matrix_view run.matrix) run.bound run.workers
request_view (commands.Reduce name) = requests.reduce name.now
request_view (commands.Carry c) = requests.carrying c.graph.now (source_view c.source)
request_view (commands.Bound b) = requests.bounding b.graph.now (option_map (λ name. name.now) b.order) b.effort
