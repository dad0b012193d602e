-- What is judged of the files of an input, and of an order of its tasks.
use Rattle.std.proofs.Common.{◌≡◌, ℕ, ◌≤◌, List, [], ◌∷◌, ◌++◌, Option, Some, refl, sym, subst, ap, inl, inr, arith, length, length-append}
use Rattle.least_peak.specs.Problem.{system_of, IsTermOf}
use Rattle.least_peak.specs.declared.problem.Origin.{Origin}
use Rattle.least_peak.specs.declared.problem.Origin.TheVariants as origins
use Rattle.mp_system.specs.System.{TaskSystem}
use Rattle.sp_terms.specs.declared.position.Position.{Position}
use Rattle.sp_terms.specs.Values.{term_of}
use Rattle.trees.specs.declared.node.Node.{Node}
use Rattle.judging.specs.Files.{Answer, HasValue, IsMatrixFile, HasOrdering, IsOrderOf, IsOrderedMatrix, IsOrderFrom}
use Rattle.judging.specs.Files.{IsMatrixTree, IsTreeOf, IsSystemOf, IsSystemWithTerm, IsTaskSystemOf, IsFirstRefusal, AreAccepted}
use Rattle.judging.specs.Told.{AreTold, HasFailed}
use Rattle.judging.specs.Judged.{IsStop, IsRefusedOrder, IsMatrixRead, IsProblemOf, IsOrderRead, IsBeforeOrder, IsRefusedSource, order_tasks}
use Rattle.judging.specs.Judged.{AreTasksOf, system_of_tasks}
use Rattle.judging.specs.declared.inputs.Order.{Order}
use Rattle.judging.specs.declared.inputs.Tasks.{Tasks}
use Rattle.judging.specs.declared.inputs.Tasks.TheVariants as tasks
use Rattle.shared_systems.specs.Shared.{SharedTaskSystem}
use Rattle.judging.specs.declared.inputs.OrderedPattern.{OrderedPattern}
use Rattle.symbolic.specs.FrontTree.{IsFrontTree}
use Rattle.requests.specs.Request.{Ordering, natural, min_degree, perm_named, inverse_named, OrderedMatrix, Matrix, TreeInput, tree_named, matrix_named}
use Rattle.requests.specs.Request.{Input, tree_input, workflow_named, NamedFile, OrderSource, order_named, plan_named, matrix_file}
use Rattle.requests.specs.Request.{ordering_files, ordered_matrix_files, matrix_files, tree_input_files, input_files, source_file}
use Rattle.requests.specs.Request.{TaskSource, input_tasks, graph_tasks, task_files}
use Rattle.judging.specs.Pages.{answer_of}
use Rattle.judging.specs.declared.stop.Stop.{Stop}
use Rattle.judging.specs.declared.stop.Stop.TheVariants as stops
use Rattle.judging.proofs.StepLemmas.{alone_told, stop_after, over_both, accepted_after}

-- ---- a matrix and its permutation

abbrev pub matrix_at : Ordering → List ℕ → NamedFile
matrix_at ordering name = record { role = matrix_file ordering; name = name }

-- an order that takes no file
pub no_file : {T : Type 0} (told : List ℕ → Option (List ℕ)) (takes : List (List ℕ) → T → Type 0) (value : T) → takes [] value
    → (texts : List (List ℕ)) → AreTold told [] texts → takes texts value
no_file told takes value is [] are = is
no_file told takes value is (t ∷ texts) are = absurd are

nothing_failed : (told : List ℕ → Option (List ℕ)) (before after : List ℕ → ℕ) → HasFailed told before after [] → ⊥
nothing_failed told before after failed = omega (arith, ap length failed.split, length-append failed.earlier (failed.file ∷ failed.later))

perm_refused : (rows : List (List ℕ)) (name matrix : List ℕ) (texts : List (List ℕ)) (answer : Answer) → IsMatrixFile matrix rows
    → IsRefusedOrder (perm_named name) rows texts answer → IsFirstRefusal (ordering_files (perm_named name)) (matrix ∷ []) texts answer
perm_refused rows name matrix [] answer is refused = absurd refused
perm_refused rows name matrix (t ∷ texts) answer is refused = inl (rows, is, refused)

inverse_refused : (rows : List (List ℕ)) (name matrix : List ℕ) (texts : List (List ℕ)) (answer : Answer) → IsMatrixFile matrix rows
    → IsRefusedOrder (inverse_named name) rows texts answer → IsFirstRefusal (ordering_files (inverse_named name)) (matrix ∷ []) texts answer
inverse_refused rows name matrix [] answer is refused = absurd refused
inverse_refused rows name matrix (t ∷ texts) answer is refused = inl (rows, is, refused)

-- a stop at the order, once the matrix is read
module _ (told now : List ℕ → Option (List ℕ)) (same : (name : List ℕ) → now name ≡ told name) (before then after : List ℕ → ℕ)
    (le : (name : List ℕ) → before name ≤ then name) (name : List ℕ) (rows : List (List ℕ))
    (is_matrix : (text : List ℕ) → told name ≡ Some text → IsMatrixFile text rows) where
  pub ordering_stop : (o : Ordering) (e : Stop) → IsStop now then after (ordering_files o) (IsRefusedOrder o rows) e
      → IsStop told before after (matrix_at o name ∷ ordering_files o) (IsFirstRefusal (matrix_at o name ∷ ordering_files o) []) e
  ordering_stop natural (stops.Refused page) h = absurd (h [] tt)
  ordering_stop natural stops.ReadFault failed = absurd (nothing_failed now then after failed)
  ordering_stop natural stops.NoMemory h = tt
  ordering_stop min_degree (stops.Refused page) h =
      alone_told told (matrix_at min_degree name) (λ texts. IsFirstRefusal (matrix_at min_degree name ∷ []) [] texts (answer_of page))
      (λ text is. let large = h [] tt in inl (inr (rows, is_matrix text is, large.0, large.1)))
  ordering_stop min_degree stops.ReadFault failed = absurd (nothing_failed now then after failed)
  ordering_stop min_degree stops.NoMemory h = tt
  ordering_stop (perm_named perm) e h =
      stop_after told now same before then after le (matrix_at (perm_named perm) name ∷ [])
      (alone_told told (matrix_at (perm_named perm) name)
      (AreAccepted (matrix_at (perm_named perm) name ∷ []) []) (λ text is. ((rows, is_matrix text is, tt), tt)))
      (ordering_files (perm_named perm)) (omega arith) (IsRefusedOrder (perm_named perm) rows)
      (λ one two answer are more refused.
      alone_told told (matrix_at (perm_named perm) name) (λ texts. IsFirstRefusal (ordering_files (perm_named perm)) texts two answer)
      (λ text is. perm_refused rows perm text two answer (is_matrix text is) refused) one are) e h
  ordering_stop (inverse_named inverse) e h =
      stop_after told now same before then after le (matrix_at (inverse_named inverse) name ∷ [])
      (alone_told told (matrix_at (inverse_named inverse) name)
      (AreAccepted (matrix_at (inverse_named inverse) name ∷ []) []) (λ text is. ((rows, is_matrix text is, tt), tt)))
      (ordering_files (inverse_named inverse)) (omega arith) (IsRefusedOrder (inverse_named inverse) rows)
      (λ one two answer are more refused.
      alone_told told (matrix_at (inverse_named inverse) name) (λ texts. IsFirstRefusal (ordering_files (inverse_named inverse)) texts two answer)
      (λ text is. inverse_refused rows inverse text two answer (is_matrix text is) refused) one are) e h

can_be_ordered : (o : Ordering) (rows texts : List (List ℕ)) (order : List ℕ) → IsOrderOf o rows texts order → HasOrdering o (length rows)
can_be_ordered natural rows texts order is = tt
can_be_ordered min_degree rows [] order is = is.0
can_be_ordered min_degree rows (text ∷ texts) order is = absurd is
can_be_ordered (perm_named name) rows texts order is = tt
can_be_ordered (inverse_named name) rows texts order is = tt

order_accepted : (o : Ordering) (matrix : List ℕ) (rows : List (List ℕ)) (texts : List (List ℕ)) (order : List ℕ)
    → IsMatrixFile matrix rows → IsOrderOf o rows texts order
    → AreAccepted (ordering_files o) (matrix ∷ []) texts
order_accepted natural matrix rows texts order is is_order = tt
order_accepted min_degree matrix rows texts order is is_order = tt
order_accepted (perm_named name) matrix rows [] order is is_order = absurd is_order
order_accepted (perm_named name) matrix rows (text ∷ []) order is is_order = ((rows, order, is, is_order), tt)
order_accepted (perm_named name) matrix rows (text ∷ more ∷ texts) order is is_order = absurd is_order
order_accepted (inverse_named name) matrix rows [] order is is_order = absurd is_order
order_accepted (inverse_named name) matrix rows (text ∷ []) order is is_order = ((rows, order, is, is_order), tt)
order_accepted (inverse_named name) matrix rows (text ∷ more ∷ texts) order is is_order = absurd is_order

pub ordered_accepted : (m : OrderedMatrix) (texts rows : List (List ℕ)) (order : List ℕ) → IsOrderedMatrix m.ordering texts rows order
    → AreAccepted (ordered_matrix_files m) [] texts
ordered_accepted m [] rows order is = absurd is
ordered_accepted m (text ∷ texts) rows order (matrix, is_order) =
    ((rows, matrix, can_be_ordered m.ordering rows texts order is_order), order_accepted m.ordering text rows texts order matrix is_order)

-- what was read, with its tree of fronts
pub matrix_tree : (m : Matrix) (texts : List (List ℕ)) (read : OrderedPattern) (nodes : List Node) → IsMatrixRead m.ordering texts read
    → IsFrontTree m.fronts read.pattern read.order nodes → IsMatrixTree m texts nodes
matrix_tree m [] read nodes is tree = absurd is
matrix_tree m (text ∷ texts) read nodes is tree = (read.pattern, read.order, is.0, is.1, tree)

pub matrix_accepted : (m : Matrix) (texts : List (List ℕ)) (nodes : List Node)
    → IsMatrixTree m texts nodes → AreAccepted (matrix_files m) [] texts
matrix_accepted m [] nodes is = absurd is
matrix_accepted m (text ∷ texts) nodes (rows, order, matrix, is_order, fronts) =
    ((rows, matrix, can_be_ordered m.ordering rows texts order is_order), order_accepted m.ordering text rows texts order matrix is_order)

pub tree_accepted : (input : TreeInput) (texts : List (List ℕ)) (nodes : List Node)
    → IsTreeOf input texts nodes → AreAccepted (tree_input_files input) [] texts
tree_accepted (tree_named name) [] nodes is = absurd is
tree_accepted (tree_named name) (text ∷ []) nodes is = ((nodes, is), tt)
tree_accepted (tree_named name) (text ∷ more ∷ texts) nodes is = absurd is
tree_accepted (matrix_named m) texts nodes is = matrix_accepted m texts nodes is

pub input_accepted : (input : Input) (texts : List (List ℕ)) (system : TaskSystem)
    → IsSystemOf input texts system → AreAccepted (input_files input) [] texts
input_accepted (tree_input input) texts system (nodes, is, same) = tree_accepted input texts nodes is
input_accepted (workflow_named name) [] system is = absurd is
input_accepted (workflow_named name) (text ∷ []) system (positions, term, workflow, denotes, same) = ((positions, workflow), tt)
input_accepted (workflow_named name) (text ∷ more ∷ texts) system is = absurd is

-- the same with its term
pub work_has_system : (input : Input) (texts : List (List ℕ)) (system : TaskSystem) (positions : List Position)
    → IsSystemWithTerm input texts system positions → IsSystemOf input texts system
work_has_system (tree_input input) texts system positions (nodes, forest, is, same, is_forest, term) = (nodes, is, same)
work_has_system (workflow_named name) [] system positions is = absurd is
work_has_system (workflow_named name) (text ∷ []) system positions (term, workflow, denotes, same) =
    (positions, term, workflow, denotes, same)
work_has_system (workflow_named name) (text ∷ more ∷ texts) system positions is = absurd is

-- ---- what an input is read as

pub problem_has_system : (input : Input) (texts : List (List ℕ)) (origin : Origin)
    → IsProblemOf input texts origin → IsSystemOf input texts (system_of origin)
problem_has_system (tree_input input) texts (origins.Tree nodes) is = (nodes, is, refl)
problem_has_system (tree_input input) texts (origins.Workflow positions) is = absurd is
problem_has_system (workflow_named name) [] origin is = absurd is
problem_has_system (workflow_named name) (text ∷ []) (origins.Tree nodes) is = absurd is
problem_has_system (workflow_named name) (text ∷ []) (origins.Workflow positions) (workflow, denotes) =
    (positions, term_of positions, workflow, denotes, refl)
problem_has_system (workflow_named name) (text ∷ more ∷ texts) origin is = absurd is

pub problem_has_term : (input : Input) (texts : List (List ℕ)) (origin : Origin) (positions : List Position)
    → IsProblemOf input texts origin → IsTermOf origin positions
    → IsSystemWithTerm input texts (system_of origin) positions
problem_has_term (tree_input input) texts (origins.Tree nodes) positions is (forest, is_forest, term) =
    (nodes, forest, is, refl, is_forest, term)
problem_has_term (tree_input input) texts (origins.Workflow own) positions is term = absurd is
problem_has_term (workflow_named name) [] origin positions is term = absurd is
problem_has_term (workflow_named name) (text ∷ []) (origins.Tree nodes) positions is term = absurd is
problem_has_term (workflow_named name) (text ∷ []) (origins.Workflow own) positions (workflow, denotes) term =
    subst (λ ps. IsSystemWithTerm (workflow_named name) (text ∷ []) (system_of (origins.Workflow own)) ps)
    (sym term) (term_of own, workflow, denotes, refl)
problem_has_term (workflow_named name) (text ∷ more ∷ texts) origin positions is term = absurd is

pub problem_accepted : (input : Input) (texts : List (List ℕ)) (origin : Origin)
    → IsProblemOf input texts origin → AreAccepted (input_files input) [] texts
problem_accepted input texts origin is = input_accepted input texts (system_of origin) (problem_has_system input texts origin is)

-- ---- what tasks are read as

pub tasks_have_system : (source : TaskSource) (texts : List (List ℕ)) (read : Tasks)
    → AreTasksOf source texts read → IsTaskSystemOf source texts (system_of_tasks read)
tasks_have_system (input_tasks input) texts (tasks.Problem problem) is =
    (system_of problem, problem_has_system input texts problem is, refl)
tasks_have_system (input_tasks input) texts (tasks.Graph system) is = absurd is
tasks_have_system (graph_tasks name) [] read is = absurd is
tasks_have_system (graph_tasks name) (text ∷ []) (tasks.Problem problem) is = absurd is
tasks_have_system (graph_tasks name) (text ∷ []) (tasks.Graph system) is = is
tasks_have_system (graph_tasks name) (text ∷ more ∷ texts) read is = absurd is

pub system_accepted : (source : TaskSource) (texts : List (List ℕ)) (system : SharedTaskSystem)
    → IsTaskSystemOf source texts system → AreAccepted (task_files source) [] texts
system_accepted (input_tasks input) texts shared (system, is, same) = input_accepted input texts system is
system_accepted (graph_tasks name) [] shared is = absurd is
system_accepted (graph_tasks name) (text ∷ []) shared is = ((shared, is), tt)
system_accepted (graph_tasks name) (text ∷ more ∷ texts) shared is = absurd is

pub tasks_accepted : (source : TaskSource) (texts : List (List ℕ)) (read : Tasks)
    → AreTasksOf source texts read → AreAccepted (task_files source) [] texts
tasks_accepted source texts read is = system_accepted source texts (system_of_tasks read) (tasks_have_system source texts read is)

-- ---- and the order of a source

pub source_refused : (source : OrderSource) (earlier texts : List (List ℕ)) (answer : Answer) → IsRefusedSource source texts answer
    → IsFirstRefusal (source_file source ∷ []) earlier texts answer
source_refused source earlier [] answer refused = absurd refused
source_refused source earlier (text ∷ []) answer refused = inl (refused earlier)
source_refused source earlier (text ∷ more ∷ texts) answer refused = absurd refused

pub source_accepted : (source : OrderSource) (earlier : List (List ℕ)) (text numbers : List ℕ)
    → IsOrderFrom source text numbers → HasValue (source_file source).role earlier text
source_accepted (order_named name) earlier text numbers is = (numbers, is)
source_accepted (plan_named name) earlier text numbers (plan, is, same) = (plan, is)

-- both
module _ {A : Type 0} (told : List ℕ → Option (List ℕ)) (files : List NamedFile) (takes : List (List ℕ) → A → Type 0)
    (source : OrderSource) (value : A) (order : Order)
    (accepted : (texts : List (List ℕ)) → takes texts value → AreAccepted files [] texts)
    (is_value : (texts : List (List ℕ)) → AreTold told files texts → takes texts value)
    (is_order : (texts : List (List ℕ)) → AreTold told (source_file source ∷ []) texts → IsOrderRead source texts order) where
  of_texts : (mine two : List (List ℕ)) → AreTold told files mine
      → AreTold told (source_file source ∷ []) two → IsOrderRead source two order
      → IsBeforeOrder files takes source (mine ++ two) value order
  of_texts mine [] are more read = absurd more
  of_texts mine (text ∷ more ∷ two) are is read = absurd read
  of_texts mine (text ∷ []) are is read = record {
    mine = mine;
    text = text;
    texts_are = refl;
    is_value = is_value mine are;
    is_order = read;
    accepted =
        accepted_after told files (source_file source ∷ []) [] mine
        (text ∷ []) are (accepted mine (is_value mine are))
        (source_accepted source mine text (order_tasks order) read.0, tt);
  }

  pub ordered : (texts : List (List ℕ)) → AreTold told (files ++ source_file source ∷ []) texts
      → IsBeforeOrder files takes source texts value order
  ordered =
      over_both told files (source_file source ∷ [])
      (λ texts. IsBeforeOrder files takes source texts value order)
      (λ mine two are more. of_texts mine two are more (is_order two more))
