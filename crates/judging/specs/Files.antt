-- What the files of a request say: what each is read as, or the answer that refuses it; the inputs that they make; and the first
-- refusal, where they are judged in turn.
use Rattle.std.specs.Prelude.{◌≡◌, ℕ, ◌<◌, ◌≤◌, List, [], ◌∷◌, ◌++◌, length, codes, decimal, ◌⊎◌}
use Rattle.std.specs.List.{range_with_len}
use Rattle.mp_text.specs.declared.refusals.Refusal.{Refusal}
use Rattle.mp_text.specs.Report.{line_text}
use Rattle.mp_system.specs.declared.system.OrderKind.{OrderKind}
use Rattle.mp_system.specs.System.{TaskSystem}
use Rattle.trees.specs.declared.node.Node.{Node}
use Rattle.trees.specs.Tree.{system_of_nodes}
use Rattle.trees.specs.Forest.{Forest, IsForestOf}
use Rattle.trees.specs.TreeTerm.{forest_positions}
use Rattle.tree_files.specs.TreeFile.{ReadsTree, RefusesTree}
use Rattle.matrix_files.specs.MatrixFile.{ReadsPattern, RefusesPattern}
use Rattle.patterns.specs.Pattern.{is_joined}
use Rattle.sp_terms.specs.declared.position.Position.{Position}
use Rattle.sp_terms.specs.Term.{Term}
use Rattle.sp_terms.specs.Postfix.{Denotes}
use Rattle.sp_terms.specs.SystemOfTerm.{system_of_term}
use Rattle.workflow_files.specs.WorkflowFile.{ReadsWorkflow, RefusesWorkflow}
use Rattle.matrix_files.specs.OrderFile.{ReadsOrder, RefusesOrder}
use Rattle.ordering.specs.MinimumDegree.{IsMinimumDegreeOrder}
use Rattle.matrix_files.specs.PermFile.{ReadsPerm, RefusesPerm}
use Rattle.matrix_files.specs.InverseFile.{ReadsInverse, RefusesInverse}
use Rattle.plans.specs.Plan.{PlanValue}
use Rattle.plan_files.specs.PlanFile.{ReadsPlan, RefusesPlan}
use Rattle.bounded_plans.specs.BoundedPlan.{BoundedPlanValue}
use Rattle.bounded_plan_files.specs.BoundedPlanFile.{ReadsBoundedPlan, RefusesBoundedPlan}
use Rattle.plan_orders.specs.OrderOf.{PlannedOrderValue}
use Rattle.plan_orders.specs.PlanOrder.{ReadsPlanOrder, RefusesPlanOrder}
use Rattle.fences.specs.Certificates.{Certificate}
use Rattle.fence_files.specs.FenceFile.{ReadsFences, RefusesFences}
use Rattle.fence_files.specs.Kinds.{word_of as fence_word}
use Rattle.symbolic.specs.FrontTree.{IsFrontTree}
use Rattle.graphs.specs.Graph.{TaskGraph}
use Rattle.graph_files.specs.GraphFile.{ReadsGraph}
use Rattle.graph_files.specs.Kinds.{word_of as graph_word}
use Rattle.shared_systems.specs.Shared.{SharedTaskSystem}
use Rattle.shared_systems.specs.OneReader.{shared_of}
use Rattle.shared_graph_files.specs.declared.either.EitherGraph.{EitherGraph}
use Rattle.shared_graph_files.specs.EitherVersion.{StatesEither, ReadsSharedGraph, RefusesSharedGraph}
use Rattle.shared_graph_files.specs.SharedGraphFile.{ReadsItems}
use Rattle.judging.specs.declared.status.Status.{Status}
use Rattle.requests.specs.Request.{Ordering, natural, min_degree, perm_named, inverse_named, Matrix, TreeInput, tree_named, matrix_named, Input, tree_input}
use Rattle.requests.specs.Request.{TaskSource, input_tasks, graph_tasks, shared_graph_file}
use Rattle.requests.specs.Request.{workflow_named, OrderSource, order_named, plan_named, FileRole, tree_file, workflow_file}
use Rattle.requests.specs.Request.{matrix_file, perm_file, inverse_file, order_file, plan_file, bounded_plan_file, priority_file, plan_priority_file}
use Rattle.requests.specs.Request.{NamedFile, fence_file, planned_order_file}
use Rattle.workflow_files.specs.Kinds.{word_of as workflow_word}
use Rattle.matrix_files.specs.OrderKinds.{perm_word, order_file_word}
use Rattle.plan_files.specs.Kinds.{word_of as plan_word}
use Rattle.limits.specs.Limits.{most_bytes, most_mindeg, word_of as limit_word}
use Rattle.tree_files.specs.Kinds.{word_of as tree_word}
use Rattle.matrix_files.specs.Kinds.{word_of as matrix_word}
use Rattle.mp_system.specs.Refusal.{word_of as order_word}
use Rattle.mp_text.specs.declared.refusals.Refusal.TheVariants as refusals
use Rattle.limits.specs.declared.name.LimitName.TheVariants as limits
use Rattle.judging.specs.declared.status.Status.TheVariants as status

pub record Answer : Type 0 where
  pub status : Status
  pub text : List ℕ

-- `refused format FILE KIND LINE`
abbrev pub format_refused : List ℕ → List ℕ → ℕ → Answer
format_refused file kind line =
    record { status = status.Format; text = line_text (codes "refused" ∷ codes "format" ∷ file ∷ kind ∷ decimal line ∷ []) }

-- `refused limit FILE NAME`
abbrev pub limit_refused : List ℕ → List ℕ → Answer
limit_refused file name = record { status = status.Limit; text = line_text (codes "refused" ∷ codes "limit" ∷ file ∷ name ∷ []) }

-- `no order PLACE KIND`
abbrev pub order_refused : ℕ → OrderKind → Answer
order_refused place kind =
    record { status = status.No; text = line_text (codes "no" ∷ codes "order" ∷ decimal place ∷ order_word kind ∷ []) }

-- `refused bound BOUND PEAK`
abbrev pub bound_refused : ℕ → ℕ → Answer
bound_refused bound peak =
    record { status = status.Bound; text = line_text (codes "refused" ∷ codes "bound" ∷ decimal bound ∷ decimal peak ∷ []) }

-- the line of a refusal of a file; with the word for the file, and the words for its kinds
abbrev pub IsRefusedAs : {K : Type 0} → List ℕ → (K → List ℕ) → Refusal K → Answer → Type 0
IsRefusedAs file word (refusals.Format fault) answer = answer ≡ format_refused file (word fault.kind) fault.line
IsRefusedAs file word (refusals.Limit limit) answer = answer ≡ limit_refused file (limit_word limit)
IsRefusedAs file word refusals.NoMemory answer = ⊥

-- a file has at most 2^28 bytes
abbrev pub IsWithinBytes : List ℕ → Type 0
IsWithinBytes text = length text ≤ most_bytes

-- a file is too long, or its format refuses it; the length comes first
abbrev pub IsRefusedFile : {K : Type 0} → List ℕ → (K → List ℕ) → (Refusal K → Type 0) → List ℕ → Answer → Type 0
IsRefusedFile {K} file word refuses text answer =
    ((most_bytes < length text) × (answer ≡ limit_refused file (limit_word limits.Bytes)))
    ⊎ (IsWithinBytes text × ((refusal : Refusal K) × refuses refusal × IsRefusedAs file word refusal answer))

abbrev pub IsTreeFile : List ℕ → List Node → Type 0
IsTreeFile text nodes = IsWithinBytes text × ReadsTree text nodes

abbrev pub IsWorkflowFile : List ℕ → List Position → Type 0
IsWorkflowFile text positions = IsWithinBytes text × ReadsWorkflow text positions

-- a task graph of version 1, and one of version 2
abbrev pub IsGraphFile : List ℕ → TaskGraph → Type 0
IsGraphFile text graph = IsWithinBytes text × ReadsGraph text graph

abbrev pub IsItemsFile : List ℕ → SharedTaskSystem → Type 0
IsItemsFile text system = IsWithinBytes text × ReadsItems text system

-- of either version: what it states, and the system that it is read as
abbrev pub IsEitherGraphFile : List ℕ → EitherGraph → Type 0
IsEitherGraphFile text stated = IsWithinBytes text × StatesEither text stated

abbrev pub IsSharedGraphFile : List ℕ → SharedTaskSystem → Type 0
IsSharedGraphFile text system = IsWithinBytes text × ReadsSharedGraph text system

abbrev pub IsMatrixFile : List ℕ → List (List ℕ) → Type 0
IsMatrixFile text rows = IsWithinBytes text × ReadsPattern text rows

-- an order of elimination of n vertices
abbrev pub IsPermFile : ℕ → List ℕ → List ℕ → Type 0
IsPermFile n text order = IsWithinBytes text × ReadsPerm n text order

-- one that is told by its inverse
abbrev pub IsInverseFile : ℕ → List ℕ → List ℕ → Type 0
IsInverseFile n text order = IsWithinBytes text × ReadsInverse n text order

abbrev pub IsOrderFile : List ℕ → List ℕ → Type 0
IsOrderFile text numbers = IsWithinBytes text × ReadsOrder text numbers

abbrev pub IsPlanFile : List ℕ → PlanValue → Type 0
IsPlanFile text plan = IsWithinBytes text × ReadsPlan text plan

-- a plan of version 3
abbrev pub IsBoundedPlanFile : List ℕ → BoundedPlanValue → Type 0
IsBoundedPlanFile text plan = IsWithinBytes text × ReadsBoundedPlan text plan

-- a plan of any form, as the order that it gives
abbrev pub IsPlannedOrderFile : List ℕ → PlannedOrderValue → Type 0
IsPlannedOrderFile text order = IsWithinBytes text × ReadsPlanOrder text order

-- fences, with the amounts that are to certify their bound
abbrev pub IsFencesFile : List ℕ → Certificate → Type 0
IsFencesFile text certificate = IsWithinBytes text × ReadsFences text certificate

-- a matrix of n rows can be eliminated in this order: by minimum degree only up to a limit
abbrev pub HasOrdering : Ordering → ℕ → Type 0
HasOrdering natural n = Unit {0}
HasOrdering min_degree n = n ≤ most_mindeg
HasOrdering (perm_named name) n = Unit {0}
HasOrdering (inverse_named name) n = Unit {0}

-- the order in which the rows of a matrix are eliminated: 1, 2, .., n, by minimum degree, or of its permutation file, or that of the inverse
abbrev pub IsOrderOf : Ordering → List (List ℕ) → List (List ℕ) → List ℕ → Type 0
IsOrderOf natural rows [] order = order ≡ range_with_len 1 (length rows)
IsOrderOf natural rows (text ∷ texts) order = ⊥
IsOrderOf min_degree rows [] order = (length rows ≤ most_mindeg) × IsMinimumDegreeOrder (is_joined rows) (length rows) order
IsOrderOf min_degree rows (text ∷ texts) order = ⊥
IsOrderOf (perm_named name) rows [] order = ⊥
IsOrderOf (perm_named name) rows (text ∷ []) order = IsPermFile (length rows) text order
IsOrderOf (perm_named name) rows (text ∷ more ∷ texts) order = ⊥
IsOrderOf (inverse_named name) rows [] order = ⊥
IsOrderOf (inverse_named name) rows (text ∷ []) order = IsInverseFile (length rows) text order
IsOrderOf (inverse_named name) rows (text ∷ more ∷ texts) order = ⊥

-- the rows of a matrix, and the order in which they are eliminated, over the texts of its files
abbrev pub IsOrderedMatrix : Ordering → List (List ℕ) → List (List ℕ) → List ℕ → Type 0
IsOrderedMatrix ordering [] rows order = ⊥
IsOrderedMatrix ordering (text ∷ texts) rows order = IsMatrixFile text rows × IsOrderOf ordering rows texts order

-- the tree of a matrix, over the texts of its files
abbrev pub IsMatrixTree : Matrix → List (List ℕ) → List Node → Type 0
IsMatrixTree m [] nodes = ⊥
IsMatrixTree m (text ∷ texts) nodes =
    (rows : List (List ℕ)) × (order : List ℕ) × IsMatrixFile text rows × IsOrderOf m.ordering rows texts order
    × IsFrontTree m.fronts rows order nodes

abbrev pub IsTreeOf : TreeInput → List (List ℕ) → List Node → Type 0
IsTreeOf (tree_named name) [] nodes = ⊥
IsTreeOf (tree_named name) (text ∷ []) nodes = IsTreeFile text nodes
IsTreeOf (tree_named name) (text ∷ more ∷ texts) nodes = ⊥
IsTreeOf (matrix_named m) texts nodes = IsMatrixTree m texts nodes

-- the system of an input: of a tree, or of the term that a workflow's positions denote
abbrev pub IsSystemOf : Input → List (List ℕ) → TaskSystem → Type 0
IsSystemOf (tree_input input) texts system = (nodes : List Node) × IsTreeOf input texts nodes × (system ≡ system_of_nodes nodes)
IsSystemOf (workflow_named name) [] system = ⊥
IsSystemOf (workflow_named name) (text ∷ []) system =
    (positions : List Position) × (term : Term) × IsWorkflowFile text positions × Denotes positions term × (system ≡ system_of_term term)
IsSystemOf (workflow_named name) (text ∷ more ∷ texts) system = ⊥

-- the system of tasks: that of an input, whose items have one reader each, or none; or of a task graph
abbrev pub IsTaskSystemOf : TaskSource → List (List ℕ) → SharedTaskSystem → Type 0
IsTaskSystemOf (input_tasks input) texts shared = (system : TaskSystem) × IsSystemOf input texts system × (shared ≡ shared_of system)
IsTaskSystemOf (graph_tasks name) [] shared = ⊥
IsTaskSystemOf (graph_tasks name) (text ∷ []) shared = IsSharedGraphFile text shared
IsTaskSystemOf (graph_tasks name) (text ∷ more ∷ texts) shared = ⊥

-- the system of an input, and the positions of its term: a tree's are those of its forest, children in rising number
abbrev pub IsSystemWithTerm : Input → List (List ℕ) → TaskSystem → List Position → Type 0
IsSystemWithTerm (tree_input input) texts system positions =
    (nodes : List Node) × (forest : Forest) × IsTreeOf input texts nodes × (system ≡ system_of_nodes nodes)
    × IsForestOf nodes forest × (positions ≡ forest_positions nodes forest)
IsSystemWithTerm (workflow_named name) [] system positions = ⊥
IsSystemWithTerm (workflow_named name) (text ∷ []) system positions =
    (term : Term) × IsWorkflowFile text positions × Denotes positions term × (system ≡ system_of_term term)
IsSystemWithTerm (workflow_named name) (text ∷ more ∷ texts) system positions = ⊥

-- the order that a source gives
abbrev pub IsOrderFrom : OrderSource → List ℕ → List ℕ → Type 0
IsOrderFrom (order_named name) text numbers = IsOrderFile text numbers
IsOrderFrom (plan_named name) text numbers = (plan : PlannedOrderValue) × IsPlannedOrderFile text plan × (numbers ≡ plan.order)

-- a matrix has more rows than can be eliminated in this order
abbrev pub IsTooLarge : Ordering → List ℕ → Answer → Type 0
IsTooLarge natural text answer = ⊥
IsTooLarge min_degree text answer =
    (rows : List (List ℕ)) × IsMatrixFile text rows × (most_mindeg < length rows)
    × (answer ≡ limit_refused (codes "matrix") (limit_word limits.Mindeg))
IsTooLarge (perm_named name) text answer = ⊥
IsTooLarge (inverse_named name) text answer = ⊥

-- a permutation file stands after the matrix file whose vertices it orders
abbrev pub IsRefusedPerm : List (List ℕ) → List ℕ → Answer → Type 0
IsRefusedPerm [] text answer = ⊥
IsRefusedPerm (matrix ∷ earlier) text answer =
    (rows : List (List ℕ)) × IsMatrixFile matrix rows × IsRefusedFile (codes "perm") perm_word (RefusesPerm (length rows) text) text answer

abbrev pub IsAcceptedPerm : List (List ℕ) → List ℕ → Type 0
IsAcceptedPerm [] text = ⊥
IsAcceptedPerm (matrix ∷ earlier) text =
    (rows : List (List ℕ)) × (order : List ℕ) × IsMatrixFile matrix rows × IsPermFile (length rows) text order

-- and so does a file of its inverse
abbrev pub IsRefusedInverse : List (List ℕ) → List ℕ → Answer → Type 0
IsRefusedInverse [] text answer = ⊥
IsRefusedInverse (matrix ∷ earlier) text answer =
    (rows : List (List ℕ)) × IsMatrixFile matrix rows × IsRefusedFile (codes "iperm") perm_word (RefusesInverse (length rows) text) text answer

abbrev pub IsAcceptedInverse : List (List ℕ) → List ℕ → Type 0
IsAcceptedInverse [] text = ⊥
IsAcceptedInverse (matrix ∷ earlier) text =
    (rows : List (List ℕ)) × (order : List ℕ) × IsMatrixFile matrix rows × IsInverseFile (length rows) text order

-- a priority file stands after the files of the tasks that it ranks, and that of the order
abbrev pub IsRefusedPriority : TaskSource → List (List ℕ) → List ℕ → Answer → Type 0
IsRefusedPriority tasks earlier text answer =
    (mine : List (List ℕ)) × (one : List ℕ) × (system : SharedTaskSystem) × (earlier ≡ mine ++ one ∷ []) × IsTaskSystemOf tasks mine system
    × IsRefusedFile (codes "priority") perm_word (RefusesPerm (length system.tasks) text) text answer

abbrev pub IsAcceptedPriority : TaskSource → List (List ℕ) → List ℕ → Type 0
IsAcceptedPriority tasks earlier text =
    (mine : List (List ℕ)) × (one : List ℕ) × (system : SharedTaskSystem) × (priority : List ℕ) × (earlier ≡ mine ++ one ∷ [])
    × IsTaskSystemOf tasks mine system × IsPermFile (length system.tasks) text priority

-- or after the plan file whose tasks it ranks
abbrev pub IsRefusedPlanPriority : List (List ℕ) → List ℕ → Answer → Type 0
IsRefusedPlanPriority [] text answer = ⊥
IsRefusedPlanPriority (first ∷ earlier) text answer =
    (plan : PlanValue) × IsPlanFile first plan
    × IsRefusedFile (codes "priority") perm_word (RefusesPerm (length plan.order) text) text answer

abbrev pub IsAcceptedPlanPriority : List (List ℕ) → List ℕ → Type 0
IsAcceptedPlanPriority [] text = ⊥
IsAcceptedPlanPriority (first ∷ earlier) text =
    (plan : PlanValue) × (priority : List ℕ) × IsPlanFile first plan × IsPermFile (length plan.order) text priority

-- the file is refused with this answer, after these texts of earlier files
abbrev pub IsRefusedInRole : FileRole → List (List ℕ) → List ℕ → Answer → Type 0
IsRefusedInRole tree_file earlier text answer = IsRefusedFile (codes "tree") tree_word (RefusesTree text) text answer
IsRefusedInRole workflow_file earlier text answer = IsRefusedFile (codes "workflow") workflow_word (RefusesWorkflow text) text answer
IsRefusedInRole shared_graph_file earlier text answer =
    IsRefusedFile (codes "graph") graph_word (RefusesSharedGraph text) text answer
IsRefusedInRole (matrix_file ordering) earlier text answer =
    IsRefusedFile (codes "matrix") matrix_word (RefusesPattern text) text answer ⊎ IsTooLarge ordering text answer
IsRefusedInRole perm_file earlier text answer = IsRefusedPerm earlier text answer
IsRefusedInRole inverse_file earlier text answer = IsRefusedInverse earlier text answer
IsRefusedInRole order_file earlier text answer = IsRefusedFile (codes "order") order_file_word (RefusesOrder text) text answer
IsRefusedInRole plan_file earlier text answer = IsRefusedFile (codes "plan") plan_word (RefusesPlan text) text answer
IsRefusedInRole planned_order_file earlier text answer = IsRefusedFile (codes "plan") plan_word (RefusesPlanOrder text) text answer
IsRefusedInRole bounded_plan_file earlier text answer = IsRefusedFile (codes "plan") plan_word (RefusesBoundedPlan text) text answer
IsRefusedInRole fence_file earlier text answer = IsRefusedFile (codes "fences") fence_word (RefusesFences text) text answer
IsRefusedInRole (priority_file tasks) earlier text answer = IsRefusedPriority tasks earlier text answer
IsRefusedInRole plan_priority_file earlier text answer = IsRefusedPlanPriority earlier text answer

-- the file has a value, after these texts of earlier files
abbrev pub HasValue : FileRole → List (List ℕ) → List ℕ → Type 0
HasValue tree_file earlier text = (nodes : List Node) × IsTreeFile text nodes
HasValue workflow_file earlier text = (positions : List Position) × IsWorkflowFile text positions
HasValue shared_graph_file earlier text = (system : SharedTaskSystem) × IsSharedGraphFile text system
HasValue (matrix_file ordering) earlier text = (rows : List (List ℕ)) × IsMatrixFile text rows × HasOrdering ordering (length rows)
HasValue perm_file earlier text = IsAcceptedPerm earlier text
HasValue inverse_file earlier text = IsAcceptedInverse earlier text
HasValue order_file earlier text = (numbers : List ℕ) × IsOrderFile text numbers
HasValue plan_file earlier text = (plan : PlanValue) × IsPlanFile text plan
HasValue planned_order_file earlier text = (plan : PlannedOrderValue) × IsPlannedOrderFile text plan
HasValue bounded_plan_file earlier text = (plan : BoundedPlanValue) × IsBoundedPlanFile text plan
HasValue fence_file earlier text = (certificate : Certificate) × IsFencesFile text certificate
HasValue (priority_file tasks) earlier text = IsAcceptedPriority tasks earlier text
HasValue plan_priority_file earlier text = IsAcceptedPlanPriority earlier text

-- some file is refused with this answer, and those before it have values; after earlier texts
abbrev pub IsFirstRefusal : List NamedFile → List (List ℕ) → List (List ℕ) → Answer → Type 0
IsFirstRefusal [] earlier texts answer = ⊥
IsFirstRefusal (file ∷ files) earlier [] answer = ⊥
IsFirstRefusal (file ∷ files) earlier (text ∷ texts) answer =
    IsRefusedInRole file.role earlier text answer ⊎ (HasValue file.role earlier text × IsFirstRefusal files (earlier ++ text ∷ []) texts answer)

-- each of these files has a value; after earlier texts
abbrev pub AreAccepted : List NamedFile → List (List ℕ) → List (List ℕ) → Type 0
AreAccepted [] earlier texts = Unit {0}
AreAccepted (file ∷ files) earlier [] = ⊥
AreAccepted (file ∷ files) earlier (text ∷ texts) = HasValue file.role earlier text × AreAccepted files (earlier ++ text ∷ []) texts
