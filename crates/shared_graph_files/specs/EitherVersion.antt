-- Graph files of either version, as shared systems. In version 1 an item has at most one reader: the task that its arc leads to.
use Rattle.std.specs.Prelude.{◌≡◌, ℕ, Bool, true, false, List}
use Rattle.mp_text.specs.declared.layout.Layout.TheVariants.{Commented}
use Rattle.mp_text.specs.declared.refusals.Refusal.{Refusal}
use Rattle.mp_text.specs.declared.refusals.Refusal.TheVariants as refusals
use Rattle.mp_text.specs.Ahead.{rows_of_bytes}
use Rattle.file_frame.specs.Frame.{has_first}
use Rattle.graphs.specs.Graph.{TaskGraph, own_system}
use Rattle.shared_systems.specs.Shared.{SharedTaskSystem}
use Rattle.shared_systems.specs.OneReader.{shared_of}
use Rattle.graph_files.specs.declared.kind.GraphKind.{GraphKind}
use Rattle.graph_files.specs.GraphFile.{ReadsGraph, RefusesGraph}
use Rattle.shared_graph_files.specs.declared.either.EitherGraph.{EitherGraph}
use Rattle.shared_graph_files.specs.declared.either.EitherGraph.TheVariants.{Arcs, Items}
use Rattle.shared_graph_files.specs.SharedGraphFile.{says_second, ReadsItems, RefusesItems}

-- whether the first line says version 2
abbrev pub is_second : List ℕ → Bool
is_second bytes = has_first (λ header rows. says_second header) (rows_of_bytes Commented bytes)

-- a file of version 1 states a graph, and one of version 2 a system
abbrev pub StatesAs : Bool → List ℕ → EitherGraph → Type 0
StatesAs true bytes (Items system) = ReadsItems bytes system
StatesAs true bytes (Arcs graph) = ⊥
StatesAs false bytes (Items system) = ⊥
StatesAs false bytes (Arcs graph) = ReadsGraph bytes graph

abbrev pub StatesEither : List ℕ → EitherGraph → Type 0
StatesEither bytes stated = StatesAs (is_second bytes) bytes stated

-- the system of what is stated
abbrev pub system_of_either : EitherGraph → SharedTaskSystem
system_of_either (Arcs graph) = shared_of (own_system graph)
system_of_either (Items system) = system

-- a file of version 1 reads as the system of its graph
pub record ReadsArcs (bytes : List ℕ) (system : SharedTaskSystem) : Type 0 where
  pub graph : TaskGraph
  pub read : ReadsGraph bytes graph
  pub system_is : system ≡ shared_of (own_system graph)

-- as version 2, or as version 1
abbrev pub ReadsAs : Bool → List ℕ → SharedTaskSystem → Type 0
ReadsAs true bytes system = ReadsItems bytes system
ReadsAs false bytes system = ReadsArcs bytes system

abbrev pub ReadsSharedGraph : List ℕ → SharedTaskSystem → Type 0
ReadsSharedGraph bytes system = ReadsAs (is_second bytes) bytes system

-- a file that does not begin with version 2 is refused as version 1 refuses it
abbrev pub RefusesAs : Bool → List ℕ → Refusal GraphKind → Type 0
RefusesAs true bytes refusal = RefusesItems bytes refusal
RefusesAs false bytes refusal = RefusesGraph bytes refusal

abbrev pub RefusesSharedGraph : List ℕ → Refusal GraphKind → Type 0
RefusesSharedGraph bytes refusal = RefusesAs (is_second bytes) bytes refusal

-- an answer that is no system: a refusal of the file, or memory ran out
abbrev pub IsSharedGraphRefusal : List ℕ → Refusal GraphKind → Type 0
IsSharedGraphRefusal bytes refusals.NoMemory = Unit {0}
IsSharedGraphRefusal bytes (refusals.Format f) = RefusesSharedGraph bytes (refusals.Format f)
IsSharedGraphRefusal bytes (refusals.Limit l) = RefusesSharedGraph bytes (refusals.Limit l)
