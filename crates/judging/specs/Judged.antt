-- What a step over files says of their texts: a value, or why there is none.
use Rattle.std.specs.Prelude.{◌≡◌, ◌≢◌, ℕ, ◌<◌, ◌≤◌, All, Contains, slice_index, List, [], ◌∷◌, ◌++◌, Option, Some, None, Ok, Err, Result}
use Rattle.std.specs.Prelude.{MatchResult, codes, length}
use Rattle.mp_outside.specs.Outside.{Rose}
use Rattle.mp_text.specs.declared.refusals.Refusal.{Refusal}
use Rattle.mp_text.specs.declared.refusals.Refusal.TheVariants as refusals
use Rattle.least_peak.specs.declared.problem.Origin.{Origin}
use Rattle.least_peak.specs.declared.problem.Origin.TheVariants as origins
use Rattle.limits.specs.Limits.{most_mindeg, word_of as limit_word}
use Rattle.limits.specs.declared.name.LimitName.TheVariants as limits
use Rattle.permutations.specs.Perm.{IsPerm}
use Rattle.matrix_files.specs.PermFile.{RefusesPerm}
use Rattle.matrix_files.specs.InverseFile.{RefusesInverse}
use Rattle.sp_terms.specs.Postfix.{Denotes}
use Rattle.sp_terms.specs.Values.{term_of}
use Rattle.judging.specs.Files.{limit_refused, Answer, IsRefusedInRole, IsRefusedAs, IsRefusedFile, IsOrderFrom, IsOrderedMatrix}
use Rattle.judging.specs.Files.{IsPermFile, IsTreeOf, IsWorkflowFile, IsSharedGraphFile, AreAccepted}
use Rattle.plan_orders.specs.OrderOf.{value_of}
use Rattle.judging.specs.Priorities.{IsOwnPriority, priority_or}
use Rattle.judging.specs.Numbered.{IsNumberedTerm}
use Rattle.judging.specs.Told.{AreTold, HasFailed}
use Rattle.judging.specs.Pages.{answer_of}
use Rattle.matrix_files.specs.OrderKinds.{perm_word}
use Rattle.requests.specs.Request.{Ordering, natural, min_degree, perm_named, inverse_named, Input, tree_input, workflow_named, NamedFile, OrderSource}
use Rattle.requests.specs.Request.{source_file, TaskSource, input_tasks, graph_tasks, task_files}
use Rattle.shared_systems.specs.Shared.{SharedTaskSystem}
use Rattle.shared_systems.specs.OneReader.{shared_of}
use Rattle.least_peak.specs.Problem.{system_of}
use Rattle.judging.specs.declared.files.Ranked.{Ranked}
use Rattle.judging.specs.declared.files.Ranked.TheVariants as ranked
use Rattle.judging.specs.declared.inputs.Order.{Order}
use Rattle.judging.specs.declared.inputs.Order.TheVariants as orders
use Rattle.judging.specs.declared.inputs.Priority.{Priority}
use Rattle.judging.specs.declared.inputs.Priority.TheVariants as priorities
use Rattle.judging.specs.declared.inputs.OrderedPattern.{OrderedPattern}
use Rattle.judging.specs.declared.inputs.OrderedTasks.{OrderedTasks}
use Rattle.judging.specs.declared.inputs.Tasks.{Tasks}
use Rattle.judging.specs.declared.inputs.Tasks.TheVariants as tasks
use Rattle.judging.specs.declared.numbered.NumberedTerm.{NumberedTerm}
use Rattle.judging.specs.declared.stop.Stop.{Stop}
use Rattle.judging.specs.declared.stop.Stop.TheVariants as stops

-- ---- one file

-- what a reader answers without a value: a refusal of the format, or that memory ran out
abbrev pub IsRefusalOf : {K : Type 0} → (Refusal K → Type 0) → Refusal K → Type 0
IsRefusalOf refuses refusals.NoMemory = Unit {0}
IsRefusalOf refuses (refusals.Format fault) = refuses (refusals.Format fault)
IsRefusalOf refuses (refusals.Limit limit) = refuses (refusals.Limit limit)

-- the page of what was read, where it is no value
abbrev pub IsStopFor : {T K : Type 0} → List ℕ → (K → List ℕ) → Result T (Refusal K) → Stop → Type 0
IsStopFor file word (Err refusal) (stops.Refused page) = IsRefusedAs file word refusal (answer_of page)
IsStopFor file word (Ok value) (stops.Refused page) = ⊥
IsStopFor file word read stops.ReadFault = ⊥
IsStopFor file word read stops.NoMemory = Unit {0}

-- the page that refuses a file, or its count rose
abbrev pub IsStopAt : (List ℕ → Option (List ℕ)) → (List ℕ → ℕ) → (List ℕ → ℕ) → List ℕ → (List ℕ → Answer → Type 0) → Stop → Type 0
IsStopAt told before after name refuses (stops.Refused page) = (text : List ℕ) → told name ≡ Some text → refuses text (answer_of page)
IsStopAt told before after name refuses stops.ReadFault = Rose (before name) (after name)
IsStopAt told before after name refuses stops.NoMemory = Unit {0}

-- the value of a file, or why there is none
abbrev pub IsJudged : {A : Type 0} → (List ℕ → Option (List ℕ)) → (List ℕ → ℕ) → (List ℕ → ℕ) → List ℕ → (List ℕ → A → Type 0)
    → (List ℕ → Answer → Type 0) → Result A Stop → Type 0
IsJudged told before after name takes refuses result =
    MatchResult result (λ value. (text : List ℕ) → told name ≡ Some text → takes text value) (IsStopAt told before after name refuses)

-- the word for a file of a permutation
abbrev pub rank_word : Ranked → List ℕ
rank_word ranked.Vertices = codes "perm"
rank_word ranked.Tasks = codes "priority"

-- the page of a refusal, or that memory ran out
abbrev pub IsRefusingPage : (Answer → Type 0) → Stop → Type 0
IsRefusingPage refuses (stops.Refused page) = refuses (answer_of page)
IsRefusingPage refuses stops.ReadFault = ⊥
IsRefusingPage refuses stops.NoMemory = Unit {0}

-- ---- files in turn

-- the page of a refusal, or the count of one of them rose
abbrev pub IsStop : (List ℕ → Option (List ℕ)) → (List ℕ → ℕ) → (List ℕ → ℕ) → List NamedFile
    → (List (List ℕ) → Answer → Type 0) → Stop → Type 0
IsStop told before after files refuses (stops.Refused page) =
    (texts : List (List ℕ)) → AreTold told files texts → refuses texts (answer_of page)
IsStop told before after files refuses stops.ReadFault = HasFailed told before after files
IsStop told before after files refuses stops.NoMemory = Unit {0}

-- the value of files, or why there is none
abbrev pub AreJudged : {A : Type 0} → (List ℕ → Option (List ℕ)) → (List ℕ → ℕ) → (List ℕ → ℕ) → List NamedFile
    → (List (List ℕ) → A → Type 0) → (List (List ℕ) → Answer → Type 0) → Result A Stop → Type 0
AreJudged told before after files takes refuses result =
    MatchResult result (λ value. (texts : List (List ℕ)) → AreTold told files texts → takes texts value)
    (IsStop told before after files refuses)

-- a matrix has too many rows to be eliminated in this order, or its permutation file is refused
abbrev pub IsRefusedOrder : Ordering → List (List ℕ) → List (List ℕ) → Answer → Type 0
IsRefusedOrder natural rows texts answer = ⊥
IsRefusedOrder min_degree rows texts answer =
    (most_mindeg < length rows) × (answer ≡ limit_refused (codes "matrix") (limit_word limits.Mindeg))
IsRefusedOrder (perm_named name) rows [] answer = ⊥
IsRefusedOrder (perm_named name) rows (text ∷ texts) answer =
    IsRefusedFile (codes "perm") perm_word (RefusesPerm (length rows) text) text answer
IsRefusedOrder (inverse_named name) rows [] answer = ⊥
IsRefusedOrder (inverse_named name) rows (text ∷ texts) answer =
    IsRefusedFile (codes "iperm") perm_word (RefusesInverse (length rows) text) text answer

-- the pattern of a matrix, and the order in which its rows are eliminated
abbrev pub IsMatrixRead : Ordering → List (List ℕ) → OrderedPattern → Type 0
IsMatrixRead ordering texts read = IsOrderedMatrix ordering texts read.pattern read.order

-- what an input is read as
abbrev pub IsProblemOf : Input → List (List ℕ) → Origin → Type 0
IsProblemOf (tree_input input) texts (origins.Tree nodes) = IsTreeOf input texts nodes
IsProblemOf (workflow_named name) (text ∷ []) (origins.Workflow positions) =
    IsWorkflowFile text positions × Denotes positions (term_of positions)
IsProblemOf input texts origin = ⊥

-- what tasks are read as, and their system
abbrev pub AreTasksOf : TaskSource → List (List ℕ) → Tasks → Type 0
AreTasksOf (input_tasks input) texts (tasks.Problem problem) = IsProblemOf input texts problem
AreTasksOf (graph_tasks name) (text ∷ []) (tasks.Graph system) = IsSharedGraphFile text system
AreTasksOf source texts read = ⊥

abbrev pub system_of_tasks : Tasks → SharedTaskSystem
system_of_tasks (tasks.Problem problem) = shared_of (system_of problem)
system_of_tasks (tasks.Graph system) = system

-- the tasks of an order that was read
abbrev pub order_tasks : Order → List ℕ
order_tasks (orders.Listed numbers) = numbers.items
order_tasks (orders.Planned plan) = (value_of plan).order

-- the priority that comes with an order that was read
abbrev pub own_priority : Order → List ℕ
own_priority (orders.Listed numbers) = numbers.items
own_priority (orders.Planned plan) = priority_or (value_of plan).order (value_of plan).priority

-- the order that a source gives, and the priority that comes with it
abbrev pub IsOrderRead : OrderSource → List (List ℕ) → Order → Type 0
IsOrderRead source (text ∷ []) order =
    IsOrderFrom source text (order_tasks order) × IsOwnPriority source text (order_tasks order) (own_priority order)
IsOrderRead source texts order = ⊥

-- the file of a source is refused, after any others
abbrev pub IsRefusedSource : OrderSource → List (List ℕ) → Answer → Type 0
IsRefusedSource source (text ∷ []) answer = (earlier : List (List ℕ)) → IsRefusedInRole (source_file source).role earlier text answer
IsRefusedSource source texts answer = ⊥

-- what files are read as, and after them the order of a source
pub record IsBeforeOrder {A : Type 0} (files : List NamedFile) (takes : List (List ℕ) → A → Type 0) (source : OrderSource)
    (texts : List (List ℕ)) (value : A) (order : Order) : Type 0 where
  pub mine : List (List ℕ)
  pub text : List ℕ
  pub texts_are : texts ≡ mine ++ text ∷ []
  pub is_value : takes mine value
  pub is_order : IsOrderRead source (text ∷ []) order
  pub accepted : AreAccepted (files ++ source_file source ∷ []) [] texts

-- tasks, and the order of a source
abbrev pub AreOrderedOf : TaskSource → OrderSource → List (List ℕ) → OrderedTasks → Type 0
AreOrderedOf tasks source texts ordered = IsBeforeOrder (task_files tasks) (AreTasksOf tasks) source texts ordered.tasks ordered.order

-- ---- priorities

-- the priority of a file, where one is named
abbrev pub IsPriorityOf : Option (List ℕ) → ℕ → List (List ℕ) → Priority → Type 0
IsPriorityOf None n [] priorities.Own = Unit {0}
IsPriorityOf (Some name) n (text ∷ []) (priorities.Given numbers) = IsPermFile n text numbers.items
IsPriorityOf name n texts priority = ⊥

-- a priority file of n tasks is refused
abbrev pub IsRefusedRanking : ℕ → List (List ℕ) → Answer → Type 0
IsRefusedRanking n [] answer = ⊥
IsRefusedRanking n (text ∷ texts) answer = IsRefusedFile (codes "priority") perm_word (RefusesPerm n text) text answer

-- what a file gives holds each of 1 to n once
abbrev pub IsRanking : ℕ → Priority → Type 0
IsRanking n priorities.Own = Unit {0}
IsRanking n (priorities.Given numbers) = IsPerm n numbers.items

-- the priority of a run, beside the order
abbrev pub priority_beside : Order → Priority → List ℕ
priority_beside order priorities.Own = own_priority order
priority_beside order (priorities.Given numbers) = numbers.items

-- ---- the positions of a term

-- each is one of the positions, which are counted from 1
abbrev pub AreWithin : ℕ → List ℕ → Type 0
AreWithin most = All (λ k. (1 ≤ k) × (k ≤ most))

-- each of the numbers from 1 to as many as there are names is one of them, once
pub record IsNaming (names : List ℕ) : Type 0 where
  pub within : AreWithin (length names) names
  pub once : (i j : ℕ) → i < j → j < length names → slice_index names i ≢ slice_index names j
  pub each : (v : ℕ) → 1 ≤ v → v ≤ length names → Contains names v

-- the term of an input, and the positions that a report numbers
abbrev pub IsNumbered : Input → List (List ℕ) → NumberedTerm → Type 0
IsNumbered input texts numbered = IsNumberedTerm input texts numbered.terms numbered.positions.items

-- ---- reports
