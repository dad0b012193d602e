-- `reduce` with an order: an order of the tasks of the term of a graph, as a plan of the workflow that `reduce` prints has it, by the tasks of the
-- graph; with its peak. Or why the graph has no term.
use Rattle.std.specs.Prelude.{◌≡◌, ◌≤◌, ◌⊎◌, ◌↔◌, ℕ, List, [], ◌∷◌, Some, length, map}
use Rattle.mp_system.specs.declared.system.OrderKind.{OrderKind}
use Rattle.mp_system.specs.Memory.{peak_of}
use Rattle.mp_system.specs.Renaming.{name_in}
use Rattle.mp_system.specs.Traversal.{IsTraversal, IsLeast, first_fault}
use Rattle.sp_terms.specs.declared.position.Position.{Position}
use Rattle.sp_terms.specs.SystemOfTerm.{system_of_term}
use Rattle.sp_terms.specs.Term.{Term}
use Rattle.sp_terms.specs.Values.{IsTerms, term_of}
use Rattle.graphs.specs.Graph.{TaskGraph, completed, completed_system, own_system}
use Rattle.shared_systems.specs.OneReader.{shared_of}
use Rattle.shared_systems.specs.Shared.{SharedTaskSystem}
use Rattle.shared_systems.specs.SharedMemory.{shared_peak_of}
use Rattle.shared_systems.specs.SharedTraversal.{IsSharedTraversal, IsLeastShared}
use Rattle.shared_graph_files.specs.declared.either.EitherGraph.{EitherGraph}
use Rattle.shared_graph_files.specs.declared.either.EitherGraph.TheVariants.{Arcs, Items}
use Rattle.sp_reduce.specs.Reduced.{HasSystem}
use Rattle.sp_reduce.specs.Reductions.{ends_of, IsRestOf}
use Rattle.sp_reduce.specs.Refusal.{HasNoTerm}
use Rattle.shared_reduce.specs.declared.refusal.SharedReduceRefusal.{SharedReduceRefusal}
use Rattle.shared_reduce.specs.SharedTerm.{IsSharedTerm, IsRefusedTerm, told}
use Rattle.requests.specs.Request.{OrderSource}
use Rattle.judging.specs.Files.{Answer, IsEitherGraphFile, IsSharedGraphFile, IsOrderFrom, order_refused}
use Rattle.reports.specs.Post.{post_answer}
use Rattle.reports.specs.Reduce.{rest_answer, IsRefusalAnswer}

-- an order of the tasks of a term is told by the tasks of the graph's system, with its peak there; or its first fault is told
abbrev pub IsCarriedAnswer : Term → (List ℕ → List ℕ) → SharedTaskSystem → List ℕ → Answer → Type 0
IsCarriedAnswer term tell system numbers answer =
    (IsTraversal (system_of_term term) numbers × (answer ≡ post_answer (shared_peak_of system (tell numbers)) (tell numbers)))
    ⊎ ((place : ℕ) × (kind : OrderKind) × (first_fault (system_of_term term) numbers ≡ Some (place, kind)) × (answer ≡ order_refused place kind))

-- of a graph of version 1: by some term that has the system of the completed graph, whichever it is; or there is none, as `reduce` tells it
abbrev pub IsArcsCarryAnswer : TaskGraph → List ℕ → Answer → Type 0
IsArcsCarryAnswer graph numbers answer =
    ((positions : List Position) × (names : List ℕ) × IsTerms positions × HasSystem names (term_of positions) (completed_system graph)
    × IsCarriedAnswer (term_of positions) (map (name_in names)) (shared_of (own_system graph)) numbers answer)
    ⊎ ((arcs : List (ℕ × ℕ)) × HasNoTerm graph × IsRestOf (map ends_of (completed graph).arcs) arcs × (answer ≡ rest_answer arcs))

-- of one of version 2
abbrev pub IsItemsCarryAnswer : SharedTaskSystem → List ℕ → Answer → Type 0
IsItemsCarryAnswer system numbers answer =
    ((positions : List Position) × (names : List ℕ) × IsTerms positions × IsSharedTerm system names (term_of positions)
    × IsCarriedAnswer (term_of positions) (told (length system.tasks) names) system numbers answer)
    ⊎ ((refusal : SharedReduceRefusal) × IsRefusedTerm system refusal × IsRefusalAnswer refusal answer)

abbrev pub IsEitherCarryAnswer : EitherGraph → List ℕ → Answer → Type 0
IsEitherCarryAnswer (Arcs graph) numbers answer = IsArcsCarryAnswer graph numbers answer
IsEitherCarryAnswer (Items system) numbers answer = IsItemsCarryAnswer system numbers answer

-- the texts are that of the graph's file, and that of the order
abbrev pub IsCarryOf : OrderSource → List (List ℕ) → Answer → Type 0
IsCarryOf source texts answer =
    (text one : List ℕ) × (stated : EitherGraph) × (numbers : List ℕ) × (texts ≡ text ∷ one ∷ []) × IsEitherGraphFile text stated
    × IsOrderFrom source one numbers × IsEitherCarryAnswer stated numbers answer

-- an order of the graph's tasks was printed, with its peak there. It is a traversal of the graph, and its peak is no higher than that of the order that
-- was given, in the system of a term with the same least peak as the graph: so an order of least peak of the term tells one of the graph
pub record IsOrderCarried (source : OrderSource) (texts : List (List ℕ)) (printed : List ℕ) : Type 0 where
  pub text : List ℕ
  pub one : List ℕ
  pub texts_are : texts ≡ text ∷ one ∷ []
  pub system : SharedTaskSystem
  pub is_graph : IsSharedGraphFile text system
  pub numbers : List ℕ
  pub is_order : IsOrderFrom source one numbers
  pub term : Term
  pub given : IsTraversal (system_of_term term) numbers
  pub order : List ℕ
  pub traversal : IsSharedTraversal system order
  pub peak : shared_peak_of system order ≤ peak_of (system_of_term term) numbers
  pub least : (peak : ℕ) → IsLeastShared system peak ↔ IsLeast (system_of_term term) peak
  pub printed_is : printed ≡ (post_answer (shared_peak_of system order) order).text
