-- The words that ask for each request: a command of the table, and options of it, each at most once.
use Rattle.std.specs.Prelude.{◌≡◌, ℕ, List, [], ◌∷◌, Option, option_map, option_and_then}
use Rattle.std.specs.Prelude.{codes, ◌*◌, nat_le, Some, None, Bool, if◌then◌else◌}
use Rattle.std.specs.Prelude.{find, map}
use Rattle.std.specs.Prelude.{String, string_bytes}
use Rattle.requests.specs.Request.{Request, OrderSource, TaskSource, input_tasks, graph_tasks, bounding, effort_or_default, check, check_fences, check_graph}
use Rattle.requests.specs.Request.{input_of, workers_or_one, demo, gives_any, number_given, number_up_to}
use Rattle.requests.specs.Request.{fencing, planned_fencing, standing, workers_given, fronts, ordering_given}
use Rattle.requests.specs.Request.{planning, plan_graph, PlanFormat, is_second, format_of}
use Rattle.requests.specs.Request.{post, tree_input_of, reduce, carrying, replay, tasks_of, source_of, source_given, segments}
use Rattle.requests.specs.Request.{columns, columns_format_of}
use Rattle.requests.specs.Request.{simulate, spill, tree, matrix_of}
use Rattle.requests.specs.Request.{upgrade, Upgrade, tree_upgrade, workflow_upgrade, graph_upgrade, plan_upgrade}
use Rattle.std.specs.Str.{bytes_eq}
use Rattle.command_line.specs.Words.{Given, Shape, value_of, Line, line_of}
use Rattle.limits.specs.Limits.{most_tasks, most_mindeg, most_workers}
use Rattle.requests.specs.declared.commands.demo.Demo.{Demo}
use Rattle.requests.specs.Options.{matrix_names, tree_names, input_names, task_names}
use Rattle.requests.specs.declared.commands.demo.Demo.TheVariants as demos

-- `bound`, `--graph NAME`, and `--order NAME` and `--effort E` if they are given
abbrev pub bound_of : List Given → Option Request
bound_of options =
    option_and_then (λ graph.
    option_map (bounding graph (value_of (codes "order") options)) (effort_or_default (value_of (codes "effort") options)))
    (value_of (codes "graph") options)

-- the check of a plan, of an input or of a task graph
abbrev pub checking : TaskSource → List ℕ → ℕ → Request
checking (input_tasks input) plan workers = check input plan workers
checking (graph_tasks graph) plan workers = check_graph graph plan workers

-- the check of fences, which are for a number of workers of their own
abbrev pub fences_checked : TaskSource → List ℕ → List Given → Option Request
fences_checked tasks fences options =
    if gives_any (codes "workers" ∷ []) options then None else Some (check_fences tasks fences)

-- a plan or fences, not both; by the names that are given for them
abbrev pub checked_of : Option (List ℕ) → Option (List ℕ) → TaskSource → List Given → Option Request
checked_of None None tasks options = None
checked_of None (Some fences) tasks options = fences_checked tasks fences options
checked_of (Some plan) None tasks options = option_map (checking tasks plan) (workers_or_one (value_of (codes "workers") options))
checked_of (Some plan) (Some fences) tasks options = None

-- `check`, one input or task graph, `--plan NAME`, and `--workers N` if it is given; or `--fences NAME`
abbrev pub check_of : List Given → Option Request
check_of options =
    option_and_then (λ tasks. checked_of (value_of (codes "plan") options) (value_of (codes "fences") options) tasks options)
    (tasks_of options)

-- `--seed S` and `--tasks N`, of at most 10^6 tasks, without rows and columns
abbrev pub seeded_of : List Given → Option (ℕ × ℕ)
seeded_of options =
    if gives_any (codes "rows" ∷ codes "cols" ∷ []) options then None
    else option_and_then (λ seed.
    option_map (λ tasks. (seed, tasks))
    (number_up_to most_tasks (value_of (codes "tasks") options)))
    (number_given (value_of (codes "seed") options))

-- at most 50,000 vertices
abbrev pub sides_within : ℕ → ℕ → Option (ℕ × ℕ)
sides_within rows cols = if nat_le (rows * cols) most_mindeg then Some (rows, cols) else None

-- `--rows R` and `--cols C`, without a seed and tasks
abbrev pub sides_of : List Given → Option (ℕ × ℕ)
sides_of options =
    if gives_any (codes "seed" ∷ codes "tasks" ∷ []) options then None
    else option_and_then (λ rows.
    option_and_then (sides_within rows)
    (number_up_to most_mindeg (value_of (codes "cols") options)))
    (number_up_to most_mindeg (value_of (codes "rows") options))

-- a tree, where no kind is given
abbrev pub kind_or_tree : Option (List ℕ) → List ℕ
kind_or_tree None = codes "tree"
kind_or_tree (Some kind) = kind

-- what is to be made
abbrev pub made_of : List ℕ → List Given → Option Demo
made_of kind options =
    if bytes_eq kind (codes "tree") then option_map (λ p. demos.Tree p.0 p.1) (seeded_of options)
    else if bytes_eq kind (codes "workflow") then option_map (λ p. demos.Workflow p.0 p.1) (seeded_of options)
    else if bytes_eq kind (codes "grid") then option_map (λ p. demos.Grid p.0 p.1) (sides_of options)
    else None

-- `demo`, `--kind tree|workflow|grid` if it is given, and the numbers of what is to be made
abbrev pub demo_of : List Given → Option Request
demo_of options = option_map demo (made_of (kind_or_tree (value_of (codes "kind") options)) options)

-- `--fewest no|yes`
abbrev pub fewest_of : List Given → Option Bool
fewest_of options = is_second (codes "no") (codes "yes") (value_of (codes "fewest") options)

-- `fence`, one input or task graph, `--order NAME` or `--plan NAME`, `--bound B`, and `--workers N` and `--fewest no|yes` if they are given
abbrev pub fencing_of : List Given → Option Request
fencing_of options =
    option_and_then (λ tasks.
    option_and_then (λ source.
    option_and_then (λ bound.
    option_and_then (λ workers.
    option_map (λ fewest. fencing tasks source (record { bound = bound; workers = workers; fewest = fewest }))
    (fewest_of options))
    (workers_given (value_of (codes "workers") options)))
    (number_given (value_of (codes "bound") options)))
    (source_of (value_of (codes "order") options) (value_of (codes "plan") options)))
    (tasks_of options)

-- `fence`, one input or task graph, `--bound B`, and `--workers N` and `--fewest no|yes` if they are given
abbrev pub planned_fencing_of : List Given → Option Request
planned_fencing_of options =
    option_and_then (λ tasks.
    option_and_then (λ bound.
    option_and_then (λ workers.
    option_map (λ fewest. planned_fencing tasks (record { bound = bound; workers = workers; fewest = fewest }))
    (fewest_of options))
    (workers_given (value_of (codes "workers") options)))
    (number_given (value_of (codes "bound") options)))
    (tasks_of options)

-- `fence`, one input or task graph, and `--workers N` if it is given
abbrev pub standing_of : List Given → Option Request
standing_of options =
    if gives_any (codes "fewest" ∷ []) options then None
    else option_and_then (λ tasks. option_map (standing tasks) (workers_given (value_of (codes "workers") options)))
    (tasks_of options)

-- along the order that is given, or that of the plan; with a bound alone the order is planned, and without one the tasks are taken as they stand
abbrev pub fence_of : List Given → Option Request
fence_of options =
    if gives_any (codes "order" ∷ codes "plan" ∷ []) options then fencing_of options
    else if gives_any (codes "bound" ∷ []) options then planned_fencing_of options
    else standing_of options

-- `fronts`, `--matrix NAME`, its `--perm NAME`, `--iperm NAME` or `--ordering natural|mindeg` if one is given, `--bound B` and `--workers N`
abbrev pub fronts_of : List Given → Option Request
fronts_of options =
    option_and_then (λ name.
    option_and_then (λ ordering.
    option_and_then (λ bound.
    option_map (fronts (record { name = name; ordering = ordering }) bound)
    (number_up_to most_workers (value_of (codes "workers") options)))
    (number_given (value_of (codes "bound") options)))
    (ordering_given options))
    (value_of (codes "matrix") options)

-- the plan of an input, with which neither an order nor an effort goes, or of a task graph
abbrev pub planned_as : TaskSource → PlanFormat → List Given → Option Request
planned_as (input_tasks input) format options =
    if gives_any (codes "order" ∷ codes "effort" ∷ []) options then None else Some (planning input format)
planned_as (graph_tasks graph) format options =
    option_map (λ effort. plan_graph graph (value_of (codes "order") options) effort format)
    (effort_or_default (value_of (codes "effort") options))

-- `plan`, one input or task graph, and `--print text` or `--print json` if it is given; with a task graph, `--order NAME` and `--effort E`
-- if they are given
abbrev pub plan_of : List Given → Option Request
plan_of options =
    option_and_then (λ tasks.
    option_and_then (λ json. planned_as tasks (format_of json) options)
    (is_second (codes "text") (codes "json") (value_of (codes "print") options)))
    (tasks_of options)

-- `post` and a tree or a matrix
abbrev pub post_of : List Given → Option Request
post_of options = option_map post (tree_input_of options)

-- `reduce` and `--graph NAME`; and `--order NAME` or `--plan NAME` for an order of the tasks of its term
abbrev pub reduced_with : List ℕ → Option OrderSource → Request
reduced_with graph None = reduce graph
reduced_with graph (Some source) = carrying graph source

abbrev pub reduce_of : List Given → Option Request
reduce_of options =
    option_and_then (λ graph.
    option_map (reduced_with graph) (source_given (value_of (codes "order") options) (value_of (codes "plan") options)))
    (value_of (codes "graph") options)

-- `replay`, one input or task graph, and `--order NAME` or `--plan NAME`
abbrev pub replay_of : List Given → Option Request
replay_of options =
    option_and_then (λ tasks.
    option_map (replay tasks) (source_of (value_of (codes "order") options) (value_of (codes "plan") options)))
    (tasks_of options)

-- `segments` and one input
abbrev pub segments_of : List Given → Option Request
segments_of options = option_map segments (input_of options)

-- `simulate`, one input or task graph, `--order NAME` or `--plan NAME`, `--bound B` and `--workers N`, and `--priority NAME` if it is given
abbrev pub simulate_of : List Given → Option Request
simulate_of options =
    option_and_then (λ tasks.
    option_and_then (λ source.
    option_and_then (λ bound.
    option_map (λ workers.
    simulate tasks source (record { bound = bound; workers = workers; priority = value_of (codes "priority") options }))
    (number_up_to most_workers (value_of (codes "workers") options)))
    (number_given (value_of (codes "bound") options)))
    (source_of (value_of (codes "order") options) (value_of (codes "plan") options)))
    (tasks_of options)

-- `spill`, one input or task graph, `--order NAME` or `--plan NAME`, and `--bound B`
abbrev pub spill_of : List Given → Option Request
spill_of options =
    option_and_then (λ tasks.
    option_and_then (λ source.
    option_map (spill tasks source) (number_given (value_of (codes "bound") options)))
    (source_of (value_of (codes "order") options) (value_of (codes "plan") options)))
    (tasks_of options)

-- `columns`, a matrix, `--order NAME` or `--plan NAME`, and `--print text` or `--print perm`, if they are given
abbrev pub columns_of : List Given → Option Request
columns_of options =
    option_and_then (λ name.
    option_and_then (λ matrix.
    option_and_then (λ source.
    option_map (λ perm. columns matrix source (columns_format_of perm))
    (is_second (codes "text") (codes "perm") (value_of (codes "print") options)))
    (source_given (value_of (codes "order") options) (value_of (codes "plan") options)))
    (matrix_of name options))
    (value_of (codes "matrix") options)

-- `tree` and a matrix
abbrev pub tree_request_of : List Given → Option Request
tree_request_of options = option_and_then (λ name. option_map tree (matrix_of name options)) (value_of (codes "matrix") options)

-- exactly one of a tree, a workflow, a graph and a plan, and a priority with a plan alone; by the names that are given for them
abbrev pub upgrade_named : Option (List ℕ) → Option (List ℕ) → Option (List ℕ) → Option (List ℕ) → Option (List ℕ) → Option Upgrade
upgrade_named (Some name) None None None None = Some (tree_upgrade name)
upgrade_named None (Some name) None None None = Some (workflow_upgrade name)
upgrade_named None None (Some name) None None = Some (graph_upgrade name)
upgrade_named None None None (Some name) priority = Some (plan_upgrade name priority)
upgrade_named of_tree of_workflow of_graph of_plan priority = None

-- `upgrade` and `--tree NAME`, `--workflow NAME`, `--graph NAME` or `--plan NAME`, with `--priority NAME` after a plan if it is given
abbrev pub upgrade_of : List Given → Option Request
upgrade_of options =
    option_map upgrade
    (upgrade_named (value_of (codes "tree") options) (value_of (codes "workflow") options) (value_of (codes "graph") options)
    (value_of (codes "plan") options) (value_of (codes "priority") options))

-- ---- the table

-- a command: its name, the names of its options, and what options of these names ask for
pub record Command : Type 0 where
  pub name : List ℕ
  pub options : List (List ℕ)
  pub asks : List Given → Option Request

abbrev pub commands : List Command
commands =
    record { name = codes "replay"; options = codes "order" ∷ codes "plan" ∷ task_names; asks = replay_of }
    ∷ record { name = codes "tree"; options = matrix_names; asks = tree_request_of }
    ∷ record { name = codes "post"; options = tree_names; asks = post_of }
    ∷ record { name = codes "check"; options = codes "plan" ∷ codes "fences" ∷ codes "workers" ∷ task_names; asks = check_of }
    ∷ record { name = codes "plan"; options = codes "print" ∷ codes "order" ∷ codes "effort" ∷ task_names; asks = plan_of }
    ∷ record {
      name = codes "simulate";
      options = codes "order" ∷ codes "plan" ∷ codes "bound" ∷ codes "workers" ∷ codes "priority" ∷ task_names;
      asks = simulate_of;
    }
    ∷ record {
      name = codes "demo";
      options = codes "kind" ∷ codes "seed" ∷ codes "tasks" ∷ codes "rows" ∷ codes "cols" ∷ [];
      asks = demo_of;
    }
    ∷ record {
      name = codes "upgrade";
      options = codes "tree" ∷ codes "workflow" ∷ codes "graph" ∷ codes "plan" ∷ codes "priority" ∷ [];
      asks = upgrade_of;
    }
    ∷ record { name = codes "spill"; options = codes "order" ∷ codes "plan" ∷ codes "bound" ∷ task_names; asks = spill_of }
    ∷ record { name = codes "segments"; options = input_names; asks = segments_of }
    ∷ record {
      name = codes "fronts";
      options = codes "bound" ∷ codes "workers" ∷ codes "matrix" ∷ codes "perm" ∷ codes "iperm" ∷ codes "ordering" ∷ [];
      asks = fronts_of;
    }
    ∷ record { name = codes "reduce"; options = codes "graph" ∷ codes "order" ∷ codes "plan" ∷ []; asks = reduce_of }
    ∷ record { name = codes "bound"; options = codes "graph" ∷ codes "order" ∷ codes "effort" ∷ []; asks = bound_of }
    ∷ record {
      name = codes "fence";
      options = codes "order" ∷ codes "plan" ∷ codes "bound" ∷ codes "workers" ∷ codes "fewest" ∷ task_names;
      asks = fence_of;
    }
    ∷ record { name = codes "columns"; options = codes "print" ∷ codes "order" ∷ codes "plan" ∷ matrix_names; asks = columns_of }
    ∷ []

abbrev pub shape_of : Command → Shape
shape_of command = record { name = command.name; options = command.options }

-- the command of this name
abbrev pub named : List ℕ → List Command → Option Command
named name = find (λ command. bytes_eq command.name name)

-- what a line asks for
abbrev pub command_of : Line → Option Request
command_of line = option_and_then (λ command. command.asks line.options) (named line.command commands)

-- the request of the words after the program's name: a command of the table, and options of it, each at most once
abbrev pub request_of : List (List ℕ) → Option Request
request_of words = option_and_then command_of (line_of (map shape_of commands) words)

-- the words ask for this, or for nothing that the program does
abbrev pub Asks : {Z : Type 0} → List (String Z) → Request → Type 0
Asks words request = request_of (map (λ w. string_bytes w) words) ≡ Some request

abbrev pub AsksNothing : {Z : Type 0} → List (String Z) → Type 0
AsksNothing words = request_of (map (λ w. string_bytes w) words) ≡ None
