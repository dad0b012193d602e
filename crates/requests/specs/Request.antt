-- Requests: what can be asked for, what the commands share of the words for it, and the files that a request names.
use Rattle.std.specs.Prelude.{ℕ, ◌*◌, ◌≤◌, Bool, true, false, ◌&&◌, nat_le, List, [], ◌∷◌, ◌++◌, Option, Some, None, is_some}
use Rattle.std.specs.Prelude.{option_map, option_and_then, codes, if◌then◌else◌, IfSome}
use Rattle.std.specs.List.{list_any}
use Rattle.std.specs.Str.{bytes_eq}
use Rattle.limits.specs.Limits.{most_workers, most_tasks, most_mindeg, most_zeros}
use Rattle.mp_text.specs.Text.{number_of}
use Rattle.assembly_tree.specs.declared.front.Shape.{Shape}
use Rattle.assembly_tree.specs.declared.front.Shape.TheVariants as shapes
use Rattle.symbolic.specs.declared.options.FrontOptions.{FrontOptions}
use Rattle.command_line.specs.Words.{Given, value_of}
use Rattle.requests.specs.Options.{matrix_options, tree_names, input_names}
use Rattle.requests.specs.declared.commands.demo.Demo.{Demo}
use Rattle.requests.specs.declared.commands.demo.Demo.TheVariants as demos

-- in which order the rows of a matrix are eliminated
pub data Ordering : Type 0 where
  -- 1, 2, ..
  natural : Ordering
  -- by minimum degree
  min_degree : Ordering
  -- of a permutation file, by its name
  perm_named : List ℕ → Ordering
  -- of a file of its inverse, by its name
  inverse_named : List ℕ → Ordering

-- a matrix, by the name of its file, and how it becomes a tree of fronts
pub record Matrix : Type 0 where
  pub name : List ℕ
  pub ordering : Ordering
  pub fronts : FrontOptions

-- a matrix, by the name of its file, and in which order its rows are eliminated
pub record OrderedMatrix : Type 0 where
  pub name : List ℕ
  pub ordering : Ordering

-- what becomes a tree
pub data TreeInput : Type 0 where
  tree_named : List ℕ → TreeInput
  matrix_named : Matrix → TreeInput

-- what becomes a system of tasks
pub data Input : Type 0 where
  tree_input : TreeInput → Input
  workflow_named : List ℕ → Input

-- what tasks are read from: an input, or a task graph, of which no term is asked, by the name of its file
pub data TaskSource : Type 0 where
  input_tasks : Input → TaskSource
  graph_tasks : List ℕ → TaskSource

-- what an order of tasks is read from: an order file, or a plan file, by its name
pub data OrderSource : Type 0 where
  order_named : List ℕ → OrderSource
  plan_named : List ℕ → OrderSource

-- how a run is simulated
pub record Simulation : Type 0 where
  -- at most so much memory
  pub bound : ℕ
  pub workers : ℕ
  -- the name of a priority file; with none, the priority is that of the plan, or the order
  pub priority : Option (List ℕ)

-- what fences are asked for
pub record Fencing : Type 0 where
  -- at most so much memory
  pub bound : ℕ
  -- for runs on at most so many workers; with none, on any number of them
  pub workers : Option ℕ
  -- whether fences are left out that the rest of them can do without
  pub fewest : Bool

-- how a plan is printed: as a plan file, or as JSON
pub data PlanFormat : Type 0 where
  as_file : PlanFormat
  as_json : PlanFormat

-- how the columns of fronts are printed: a line for each front, or as a permutation file
pub data ColumnsFormat : Type 0 where
  by_front : ColumnsFormat
  as_perm : ColumnsFormat

-- what is written as version 2: a tree, a workflow, a task graph or a plan, by the name of its file
pub data Upgrade : Type 0 where
  tree_upgrade : List ℕ → Upgrade
  workflow_upgrade : List ℕ → Upgrade
  graph_upgrade : List ℕ → Upgrade
  -- with the name of a priority file, whose priority stands in place of the plan's
  plan_upgrade : List ℕ → Option (List ℕ) → Upgrade

pub data Request : Type 0 where
  -- the peak of the tasks in an order
  replay : TaskSource → OrderSource → Request
  -- the tree of a matrix
  tree : Matrix → Request
  -- the columns of the fronts of a matrix, one front after another: in an order of the fronts, or with none by rising number
  columns : Matrix → Option OrderSource → ColumnsFormat → Request
  -- the best postorder of a tree, and its peak
  post : TreeInput → Request
  -- whether a plan, by the name of its file, is accepted for an input; by so many workers
  check : Input → List ℕ → ℕ → Request
  -- whether a plan with a bound is accepted for a task graph, by the names of their files; by so many workers
  check_graph : List ℕ → List ℕ → ℕ → Request
  -- whether fences, by the name of their file, keep all runs of tasks within their bound
  check_fences : TaskSource → List ℕ → Request
  -- a traversal of least peak, with its certificate
  planning : Input → PlanFormat → Request
  -- an order of a task graph, no worse than that of the file, if one is named, and a bound, with its evidence; with so much effort
  plan_graph : List ℕ → Option (List ℕ) → ℕ → PlanFormat → Request
  -- the run of tasks on several workers within a bound, activated in an order
  simulate : TaskSource → OrderSource → Simulation → Request
  -- fences that keep all runs of tasks within a bound, along an order
  fencing : TaskSource → OrderSource → Fencing → Request
  -- the same along an order that is planned
  planned_fencing : TaskSource → Fencing → Request
  -- what no run of tasks passes as they stand, on at most so many workers, or with none on any number
  standing : TaskSource → Option ℕ → Request
  -- an input that is made, its plan, and whether the plan is accepted
  demo : Demo → Request
  -- a file, as version 2
  upgrade : Upgrade → Request
  -- what must go to disk where an order of tasks runs within a bound
  spill : TaskSource → OrderSource → ℕ → Request
  -- how low memory can come in each subtree of a tree, or at each position of a workflow
  segments : Input → Request
  -- the rows of every front of a matrix, made within a bound on the rows that are held, by so many workers
  fronts : OrderedMatrix → ℕ → ℕ → Request
  -- the term of a task graph, by the name of its file
  reduce : List ℕ → Request
  -- an order of the tasks of that term, by the tasks of the graph
  carrying : List ℕ → OrderSource → Request
  -- a number that no order of a task graph has a peak below, and the peak of the order of a file, if one is named; with so much effort
  bounding : List ℕ → Option (List ℕ) → ℕ → Request

-- ---- the options of a matrix

-- the value is the first word or none: false; or the second: true
abbrev pub is_second : List ℕ → List ℕ → Option (List ℕ) → Option Bool
is_second first second None = Some false
is_second first second (Some word) = if bytes_eq word first then Some false else if bytes_eq word second then Some true else None

-- a permutation file, the natural order or minimum degree; the natural order, where nothing is given
abbrev pub ordering_named : List ℕ → Option Ordering
ordering_named word =
    if bytes_eq word (codes "natural") then Some natural
    else if bytes_eq word (codes "mindeg") then Some min_degree
    else None

-- the same, or a file of the inverse, at most one of them; by what is given
abbrev pub ordering_of : Option (List ℕ) → Option (List ℕ) → Option (List ℕ) → Option Ordering
ordering_of None None None = Some natural
ordering_of None None (Some word) = ordering_named word
ordering_of None (Some name) None = Some (inverse_named name)
ordering_of (Some name) None None = Some (perm_named name)
ordering_of perm inverse word = None

-- of these options
abbrev pub ordering_given : List Given → Option Ordering
ordering_given options =
    ordering_of (value_of (codes "perm") options) (value_of (codes "iperm") options) (value_of (codes "ordering") options)

-- a number of zeros is at most 2^40
abbrev pub zeros_within : ℕ → Option (Option ℕ)
zeros_within zeros = if nat_le zeros most_zeros then Some (Some zeros) else None

abbrev pub zeros_named : Option (List ℕ) → Option (Option ℕ)
zeros_named None = Some None
zeros_named (Some word) = option_and_then zeros_within (number_of word)

abbrev pub front_shape : Bool → Shape
front_shape false = shapes.Triangle
front_shape true = shapes.Square

-- the matrix of this name, and what is given of `--perm NAME`, `--iperm NAME` or `--ordering natural|mindeg`, `--shape triangle|square`,
-- `--amalgamate ZEROS` and `--inplace no|yes`
abbrev pub matrix_of : List ℕ → List Given → Option Matrix
matrix_of name options =
    option_and_then (λ square.
    option_and_then (λ zeros.
    option_and_then (λ inplace.
    option_map (λ ordering. record {
      name = name;
      ordering = ordering;
      fronts = record { shape = front_shape square; zeros = zeros; inplace = inplace };
    })
    (ordering_given options))
    (is_second (codes "no") (codes "yes") (value_of (codes "inplace") options)))
    (zeros_named (value_of (codes "amalgamate") options)))
    (is_second (codes "triangle") (codes "square") (value_of (codes "shape") options))

-- ---- inputs

-- an option of one of these names is given
abbrev pub gives_any : List (List ℕ) → List Given → Bool
gives_any names options = list_any (λ name. is_some (value_of name options)) names

-- a tree, without the options of a matrix, or a matrix, not both; by the names that are given for them
abbrev pub tree_input_named : Option (List ℕ) → Option (List ℕ) → List Given → Option TreeInput
tree_input_named None None options = None
tree_input_named None (Some name) options = option_map matrix_named (matrix_of name options)
tree_input_named (Some name) None options = if gives_any matrix_options options then None else Some (tree_named name)
tree_input_named (Some name) (Some matrix) options = None

abbrev pub tree_input_of : List Given → Option TreeInput
tree_input_of options = tree_input_named (value_of (codes "tree") options) (value_of (codes "matrix") options) options

-- a tree or a matrix; or a workflow, without any option of these
abbrev pub input_named : Option (List ℕ) → List Given → Option Input
input_named None options = option_map tree_input (tree_input_of options)
input_named (Some name) options = if gives_any tree_names options then None else Some (workflow_named name)

abbrev pub input_of : List Given → Option Input
input_of options = input_named (value_of (codes "workflow") options) options

-- an input; or a task graph, without any option of these
abbrev pub tasks_named : Option (List ℕ) → List Given → Option TaskSource
tasks_named None options = option_map input_tasks (input_of options)
tasks_named (Some name) options = if gives_any input_names options then None else Some (graph_tasks name)

abbrev pub tasks_of : List Given → Option TaskSource
tasks_of options = tasks_named (value_of (codes "graph") options) options

-- ---- what several commands ask for

-- an order file or a plan file, not both
abbrev pub source_of : Option (List ℕ) → Option (List ℕ) → Option OrderSource
source_of None None = None
source_of None (Some plan) = Some (plan_named plan)
source_of (Some order) None = Some (order_named order)
source_of (Some order) (Some plan) = None

-- an order file or a plan file, if one of them is given, not both
abbrev pub source_given : Option (List ℕ) → Option (List ℕ) → Option (Option OrderSource)
source_given None None = Some None
source_given None (Some plan) = Some (Some (plan_named plan))
source_given (Some order) None = Some (Some (order_named order))
source_given (Some order) (Some plan) = None

-- a number that is given
abbrev pub number_given : Option (List ℕ) → Option ℕ
number_given given = option_and_then number_of given

-- a number that is given, from 1 to the greatest that passes
abbrev pub number_up_to : ℕ → Option (List ℕ) → Option ℕ
number_up_to most given = option_and_then (λ n. if nat_le 1 n && nat_le n most then Some n else None) (number_given given)

-- one worker, where no number is given
abbrev pub workers_or_one : Option (List ℕ) → Option ℕ
workers_or_one None = Some 1
workers_or_one (Some word) = number_up_to most_workers (Some word)

-- a number of workers, if one is given
abbrev pub workers_given : Option (List ℕ) → Option (Option ℕ)
workers_given None = Some None
workers_given (Some word) = option_map (λ n. Some n) (number_up_to most_workers (Some word))

-- how many steps a search may take, where no number is given
abbrev pub default_effort : ℕ
default_effort = 1000000000

-- this effort, where no number is given
abbrev pub effort_or_default : Option (List ℕ) → Option ℕ
effort_or_default None = Some default_effort
effort_or_default (Some word) = number_given (Some word)

-- what the number of workers of a request keeps to
abbrev pub AreWorkers : ℕ → Type 0
AreWorkers n = (1 ≤ n) × (n ≤ most_workers)

-- what the numbers of an input that is to be made keep to
abbrev pub IsMakeable : Demo → Type 0
IsMakeable (demos.Tree seed tasks) = (1 ≤ tasks) × (tasks ≤ most_tasks)
IsMakeable (demos.Workflow seed tasks) = (1 ≤ tasks) × (tasks ≤ most_tasks)
IsMakeable (demos.Grid rows cols) = (1 ≤ rows) × (1 ≤ cols) × (rows * cols ≤ most_mindeg)

abbrev pub IsInRange : Request → Type 0
IsInRange (check input plan workers) = AreWorkers workers
IsInRange (check_graph graph plan workers) = AreWorkers workers
IsInRange (simulate tasks source s) = AreWorkers s.workers
IsInRange (fencing tasks source f) = IfSome f.workers AreWorkers
IsInRange (planned_fencing tasks f) = IfSome f.workers AreWorkers
IsInRange (standing tasks workers) = IfSome workers AreWorkers
IsInRange (demo made) = IsMakeable made
IsInRange (fronts m bound workers) = AreWorkers workers
IsInRange request = Unit {0}

abbrev pub format_of : Bool → PlanFormat
format_of false = as_file
format_of true = as_json

abbrev pub columns_format_of : Bool → ColumnsFormat
columns_format_of false = by_front
columns_format_of true = as_perm

-- ---- files

-- what a file is read as
pub data FileRole : Type 0 where
  tree_file : FileRole
  workflow_file : FileRole
  -- a task graph, of either version
  shared_graph_file : FileRole
  -- a matrix whose rows are to be eliminated in this order
  matrix_file : Ordering → FileRole
  perm_file : FileRole
  -- of the inverse of an order of elimination
  inverse_file : FileRole
  order_file : FileRole
  -- a plan of version 1 or 2
  plan_file : FileRole
  -- a plan of any form, of which the order is taken
  planned_order_file : FileRole
  -- a plan of version 3
  bounded_plan_file : FileRole
  -- fences, with the amounts that certify their bound
  fence_file : FileRole
  -- a priority ranks the tasks of a source, or those of a plan
  priority_file : TaskSource → FileRole
  plan_priority_file : FileRole

pub record NamedFile : Type 0 where
  pub role : FileRole
  pub name : List ℕ

abbrev pub ordering_files : Ordering → List NamedFile
ordering_files natural = []
ordering_files min_degree = []
ordering_files (perm_named name) = record { role = perm_file; name = name } ∷ []
ordering_files (inverse_named name) = record { role = inverse_file; name = name } ∷ []

abbrev pub ordered_matrix_files : OrderedMatrix → List NamedFile
ordered_matrix_files m = record { role = matrix_file m.ordering; name = m.name } ∷ ordering_files m.ordering

abbrev pub matrix_files : Matrix → List NamedFile
matrix_files m = ordered_matrix_files (record { name = m.name; ordering = m.ordering })

abbrev pub tree_input_files : TreeInput → List NamedFile
tree_input_files (tree_named name) = record { role = tree_file; name = name } ∷ []
tree_input_files (matrix_named m) = matrix_files m

abbrev pub input_files : Input → List NamedFile
input_files (tree_input i) = tree_input_files i
input_files (workflow_named name) = record { role = workflow_file; name = name } ∷ []

abbrev pub task_files : TaskSource → List NamedFile
task_files (input_tasks input) = input_files input
task_files (graph_tasks name) = record { role = shared_graph_file; name = name } ∷ []

abbrev pub source_file : OrderSource → NamedFile
source_file (order_named name) = record { role = order_file; name = name }
source_file (plan_named name) = record { role = planned_order_file; name = name }

-- the file of an order, if there is one
abbrev pub source_files : Option OrderSource → List NamedFile
source_files None = []
source_files (Some source) = source_file source ∷ []

-- an order file, if one is named
abbrev pub order_files : Option (List ℕ) → List NamedFile
order_files None = []
order_files (Some name) = record { role = order_file; name = name } ∷ []

-- a priority file of this role, if one is named
abbrev pub priority_files : FileRole → Option (List ℕ) → List NamedFile
priority_files role None = []
priority_files role (Some name) = record { role = role; name = name } ∷ []

abbrev pub upgrade_files : Upgrade → List NamedFile
upgrade_files (tree_upgrade name) = record { role = tree_file; name = name } ∷ []
upgrade_files (workflow_upgrade name) = record { role = workflow_file; name = name } ∷ []
upgrade_files (graph_upgrade name) = record { role = shared_graph_file; name = name } ∷ []
upgrade_files (plan_upgrade name priority) = record { role = plan_file; name = name } ∷ priority_files plan_priority_file priority

-- the files of a request, in the order in which they are read and judged
abbrev pub files_of : Request → List NamedFile
files_of (replay tasks source) = task_files tasks ++ source_file source ∷ []
files_of (tree m) = matrix_files m
files_of (columns m source format) = matrix_files m ++ source_files source
files_of (post input) = tree_input_files input
files_of (check input plan workers) = input_files input ++ record { role = plan_file; name = plan } ∷ []
files_of (check_graph graph plan workers) =
    record { role = shared_graph_file; name = graph } ∷ record { role = bounded_plan_file; name = plan } ∷ []
files_of (check_fences tasks fences) = task_files tasks ++ record { role = fence_file; name = fences } ∷ []
files_of (planning input format) = input_files input
files_of (plan_graph graph order effort format) = record { role = shared_graph_file; name = graph } ∷ order_files order
files_of (simulate tasks source s) = task_files tasks ++ source_file source ∷ priority_files (priority_file tasks) s.priority
files_of (fencing tasks source f) = task_files tasks ++ source_file source ∷ []
files_of (planned_fencing tasks f) = task_files tasks
files_of (standing tasks workers) = task_files tasks
files_of (demo made) = []
files_of (upgrade u) = upgrade_files u
files_of (spill tasks source bound) = task_files tasks ++ source_file source ∷ []
files_of (segments input) = input_files input
files_of (fronts m bound workers) = ordered_matrix_files m
files_of (reduce name) = record { role = shared_graph_file; name = name } ∷ []
files_of (carrying graph source) = record { role = shared_graph_file; name = graph } ∷ source_file source ∷ []
files_of (bounding graph order effort) = record { role = shared_graph_file; name = graph } ∷ order_files order
