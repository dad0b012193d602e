-- `reduce`: the term of a task graph, as a workflow file with the names of its tasks; or why the graph has no term: an irreducible rest, or
-- an item without a last reader.
use Rattle.std.specs.Prelude.{◌≡◌, ◌≤◌, ◌⊎◌, ◌↔◌, ℕ, Bool, true, false, List, [], ◌∷◌, ◌++◌, length, map, codes, decimal}
use Rattle.mp_text.specs.Report.{text_of_lines}
use Rattle.mp_system.specs.Memory.{peak_of}
use Rattle.mp_system.specs.Renaming.{name_in}
use Rattle.mp_system.specs.Traversal.{IsTraversal, IsLeast}
use Rattle.sp_terms.specs.declared.position.Position.{Position}
use Rattle.sp_terms.specs.Postfix.{Denotes}
use Rattle.sp_terms.specs.SystemOfTerm.{system_of_term}
use Rattle.sp_terms.specs.Term.{Term}
use Rattle.sp_terms.specs.Values.{IsTerms, term_of}
use Rattle.graphs.specs.Graph.{TaskGraph, completed, completed_system, own_system}
use Rattle.shared_systems.specs.Shared.{SharedTaskSystem}
use Rattle.shared_systems.specs.SharedMemory.{shared_peak_of}
use Rattle.shared_systems.specs.SharedTraversal.{IsSharedTraversal, IsLeastShared}
use Rattle.workflow_files.specs.NamedText.{named_text}
use Rattle.shared_graph_files.specs.declared.either.EitherGraph.{EitherGraph}
use Rattle.shared_graph_files.specs.declared.either.EitherGraph.TheVariants.{Arcs, Items}
use Rattle.shared_graph_files.specs.EitherVersion.{is_second}
use Rattle.sp_reduce.specs.Reduced.{HasSystem}
use Rattle.sp_reduce.specs.Reductions.{ends_of, IsRestOf}
use Rattle.sp_reduce.specs.Refusal.{HasNoTerm}
use Rattle.shared_reduce.specs.declared.refusal.SharedReduceRefusal.{SharedReduceRefusal}
use Rattle.shared_reduce.specs.declared.refusal.SharedReduceRefusal.TheVariants as refusals
use Rattle.shared_reduce.specs.SharedTerm.{IsSharedTerm, IsRefusedTerm, told}
use Rattle.judging.specs.declared.status.Status.TheVariants as status
use Rattle.judging.specs.Files.{Answer, IsGraphFile, IsItemsFile, IsEitherGraphFile, IsWorkflowFile}

-- a workflow file, and `# K NAME` for each task K of it
abbrev pub reduced_answer : List Position → List ℕ → Answer
reduced_answer positions names = record { status = status.Done; text = named_text positions names }

-- `FROM TO`
abbrev pub arc_line : ℕ × ℕ → List (List ℕ)
arc_line arc = decimal arc.0 ∷ decimal arc.1 ∷ []

-- `refused graph KIND K`, the arcs, `end`
abbrev pub arcs_lines : List ℕ → List (ℕ × ℕ) → List (List (List ℕ))
arcs_lines kind arcs =
    (codes "refused" ∷ codes "graph" ∷ kind ∷ decimal (length arcs) ∷ []) ∷ map arc_line arcs ++ (codes "end" ∷ []) ∷ []

abbrev pub arcs_answer : List ℕ → List (ℕ × ℕ) → Answer
arcs_answer kind arcs = record { status = status.NotSeriesParallel; text = text_of_lines (arcs_lines kind arcs) }

-- those of a rest
abbrev pub rest_lines : List (ℕ × ℕ) → List (List (List ℕ))
rest_lines arcs = arcs_lines (codes "rest") arcs

abbrev pub rest_answer : List (ℕ × ℕ) → Answer
rest_answer arcs = arcs_answer (codes "rest") arcs

-- ---- graphs of version 1

-- a term that has the system of the completed graph is told with its names, whichever it is; or there is none, and the arcs of an
-- irreducible rest are told, whichever it is
abbrev pub IsReduceAnswer : TaskGraph → Answer → Type 0
IsReduceAnswer graph answer =
    ((positions : List Position) × (names : List ℕ) × IsTerms positions × HasSystem names (term_of positions) (completed_system graph)
    × (answer ≡ reduced_answer positions names))
    ⊎ ((arcs : List (ℕ × ℕ)) × HasNoTerm graph × IsRestOf (map ends_of (completed graph).arcs) arcs × (answer ≡ rest_answer arcs))

-- ---- graphs of version 2

-- `refused graph item I`, and `refused graph arcs`
abbrev pub item_lines : ℕ → List (List (List ℕ))
item_lines item = (codes "refused" ∷ codes "graph" ∷ codes "item" ∷ decimal item ∷ []) ∷ []

abbrev pub too_many_lines : List (List (List ℕ))
too_many_lines = (codes "refused" ∷ codes "graph" ∷ codes "arcs" ∷ []) ∷ []

-- the text of a refusal; want of memory is told by no text
abbrev pub IsRefusalText : SharedReduceRefusal → List ℕ → Type 0
IsRefusalText (refusals.Uses arcs) text = text ≡ text_of_lines (arcs_lines (codes "uses") arcs.items)
IsRefusalText (refusals.Item item) text = text ≡ text_of_lines (item_lines item)
IsRefusalText (refusals.Rest arcs) text = text ≡ text_of_lines (arcs_lines (codes "rest") arcs.items)
IsRefusalText refusals.Arcs text = text ≡ text_of_lines too_many_lines
IsRefusalText refusals.NoMemory text = ⊥

abbrev pub IsRefusalAnswer : SharedReduceRefusal → Answer → Type 0
IsRefusalAnswer refusal answer = (answer.status ≡ status.NotSeriesParallel) × IsRefusalText refusal answer.text

-- a term of the system is told with its names, whichever it is; or why there is none
abbrev pub IsItemsReduceAnswer : SharedTaskSystem → Answer → Type 0
IsItemsReduceAnswer system answer =
    ((positions : List Position) × (names : List ℕ) × IsTerms positions × IsSharedTerm system names (term_of positions)
    × (answer ≡ reduced_answer positions names))
    ⊎ ((refusal : SharedReduceRefusal) × IsRefusedTerm system refusal × IsRefusalAnswer refusal answer)

-- ---- graphs of either version

abbrev pub IsEitherReduceAnswer : EitherGraph → Answer → Type 0
IsEitherReduceAnswer (Arcs graph) answer = IsReduceAnswer graph answer
IsEitherReduceAnswer (Items system) answer = IsItemsReduceAnswer system answer

abbrev pub IsReduceOf : List (List ℕ) → Answer → Type 0
IsReduceOf texts answer =
    (text : List ℕ) × (stated : EitherGraph) × (texts ≡ text ∷ []) × IsEitherGraphFile text stated × IsEitherReduceAnswer stated answer

-- ---- what is promised of a graph of version 1

-- a workflow file was printed, and names. The traversals of the workflow's system are those of the graph, by these names, with the same
-- peaks; so they have the same least peak, and what `plan` says of the file holds of the graph. The text is that of the graph's file
pub record IsReduced (texts : List (List ℕ)) (printed : List ℕ) : Type 0 where
  pub text : List ℕ
  pub texts_are : texts ≡ text ∷ []
  pub graph : TaskGraph
  pub is_graph : IsGraphFile text graph
  pub positions : List Position
  pub term : Term
  pub is_file : IsWorkflowFile printed positions
  pub denotes : Denotes positions term
  pub names : List ℕ
  pub printed_is : printed ≡ named_text positions names
  pub has : HasSystem names term (completed_system graph)
  pub traversal : (order : List ℕ) → IsTraversal (system_of_term term) order ↔ IsTraversal (own_system graph) (map (name_in names) order)
  pub peak : (order : List ℕ) → IsTraversal (system_of_term term) order →
      peak_of (own_system graph) (map (name_in names) order) ≡ peak_of (system_of_term term) order
  pub least : (peak : ℕ) → IsLeast (system_of_term term) peak ↔ IsLeast (own_system graph) peak

-- no term has the system of the completed graph, and the arcs of an irreducible rest of it were printed. The text is that of
-- the graph's file
pub record HasIrreducibleRest (texts : List (List ℕ)) (printed : List ℕ) : Type 0 where
  pub text : List ℕ
  pub texts_are : texts ≡ text ∷ []
  pub graph : TaskGraph
  pub is_graph : IsGraphFile text graph
  pub no_term : HasNoTerm graph
  pub arcs : List (ℕ × ℕ)
  pub is_rest : IsRestOf (map ends_of (completed graph).arcs) arcs
  pub printed_is : printed ≡ text_of_lines (rest_lines arcs)

-- ---- and of one of version 2

-- a workflow file was printed, and names. Each traversal of the workflow's system tells one of the graph, by these names, whose peak is no
-- higher, and each traversal of the graph is told by one with its peak; so they have the same least peak, and an order of least peak that
-- `plan` finds for the file tells one of the graph. The text is that of the graph's file
pub record IsReducedItems (texts : List (List ℕ)) (printed : List ℕ) : Type 0 where
  pub text : List ℕ
  pub texts_are : texts ≡ text ∷ []
  pub system : SharedTaskSystem
  pub is_graph : IsItemsFile text system
  pub positions : List Position
  pub term : Term
  pub is_file : IsWorkflowFile printed positions
  pub denotes : Denotes positions term
  pub names : List ℕ
  pub printed_is : printed ≡ named_text positions names
  pub is_term : IsSharedTerm system names term
  pub traversal : (order : List ℕ) → IsTraversal (system_of_term term) order →
      IsSharedTraversal system (told (length system.tasks) names order)
  pub peak : (order : List ℕ) → IsTraversal (system_of_term term) order →
      shared_peak_of system (told (length system.tasks) names order) ≤ peak_of (system_of_term term) order
  pub back : (order : List ℕ) → IsSharedTraversal system order →
      (other : List ℕ) × IsTraversal (system_of_term term) other × (told (length system.tasks) names other ≡ order)
      × (peak_of (system_of_term term) other ≡ shared_peak_of system order)
  pub least : (peak : ℕ) → IsLeastShared system peak ↔ IsLeast (system_of_term term) peak

-- the graph of uses has no term; or an item has readers, and none of them is last; or no term has the graph in which the last readers carry
-- the items; or one of the two graphs has too many arcs. That was printed. The text is that of the graph's file
pub record HasItemsRefusal (texts : List (List ℕ)) (printed : List ℕ) : Type 0 where
  pub text : List ℕ
  pub texts_are : texts ≡ text ∷ []
  pub system : SharedTaskSystem
  pub is_graph : IsItemsFile text system
  pub refusal : SharedReduceRefusal
  pub is_refused : IsRefusedTerm system refusal
  pub printed_is : IsRefusalText refusal printed

-- ---- by the version of the file

-- whether the first line of the graph's file says version 2
abbrev pub are_second : List (List ℕ) → Bool
are_second [] = false
are_second (text ∷ texts) = is_second text

-- what is said of a graph of version 1, or of one of version 2
abbrev pub by_version : Bool → Type 0 → Type 0 → Type 0
by_version false first second = first
by_version true first second = second
