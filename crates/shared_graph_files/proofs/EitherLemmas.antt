-- Of a graph file of either version: it is read or refused, never both, as one system or with one refusal.
use Rattle.std.proofs.Common.{◌≡◌, ℕ, Bool, true, false, List, ◌⊎◌, inl, inr, refl, sym, ap, subst, ◌∙◌}
use Rattle.mp_text.specs.declared.refusals.Refusal.{Refusal}
use Rattle.file_frame.proofs.TestLemmas.{SomeOutcome, NotBoth, OneRefusal}
use Rattle.graphs.specs.Graph.{TaskGraph, IsGraph, own_system}
use Rattle.shared_systems.specs.Shared.{SharedTaskSystem}
use Rattle.shared_systems.specs.Bounds.{IsSharedSystem}
use Rattle.shared_systems.specs.OneReader.{shared_of}
use Rattle.graph_files.specs.declared.kind.GraphKind.{GraphKind}
use Rattle.graph_files.specs.GraphFile.{ReadsGraph, RefusesGraph}
use Rattle.shared_graph_files.specs.declared.either.EitherGraph.{EitherGraph}
use Rattle.shared_graph_files.specs.declared.either.EitherGraph.TheVariants.{Arcs, Items}
use Rattle.shared_graph_files.specs.SharedGraphFile.{ReadsItems}
use Rattle.shared_graph_files.specs.EitherVersion.{ReadsAs, RefusesAs, StatesAs, system_of_either}
use Rattle.shared_graph_files.proofs.FileLemmas as second

-- what the law `exactly_one` says of files of version 1
abbrev pub SomeGraph : Type 0
SomeGraph = (bytes : List ℕ) → ((graph : TaskGraph) × ReadsGraph bytes graph) ⊎ ((refusal : Refusal GraphKind) × RefusesGraph bytes refusal)

abbrev pub NotBothGraphs : Type 0
NotBothGraphs = (bytes : List ℕ) (graph : TaskGraph) (refusal : Refusal GraphKind) → ReadsGraph bytes graph → RefusesGraph bytes refusal → ⊥

abbrev pub OneGraph : Type 0
OneGraph = (bytes : List ℕ) (one two : TaskGraph) → ReadsGraph bytes one → ReadsGraph bytes two → one ≡ two

abbrev pub OneGraphRefusal : Type 0
OneGraphRefusal = (bytes : List ℕ) (one two : Refusal GraphKind) → RefusesGraph bytes one → RefusesGraph bytes two → one ≡ two

pub read_or_refused : SomeOutcome GraphKind → SomeGraph → (is_second : Bool) (bytes : List ℕ)
    → ((system : SharedTaskSystem) × ReadsAs is_second bytes system) ⊎ ((refusal : Refusal GraphKind) × RefusesAs is_second bytes refusal)
read_or_refused outcome first true bytes = second.read_or_refused outcome bytes
read_or_refused outcome first false bytes = elim (first bytes) [
  | inl read ↦ inl (shared_of (own_system read.0), record { graph = read.0; read = read.1; system_is = refl })
  | inr refused ↦ inr (refused.0, refused.1)
]

pub not_both : NotBoth GraphKind → NotBothGraphs → (is_second : Bool) (bytes : List ℕ) (system : SharedTaskSystem) (refusal : Refusal GraphKind)
    → ReadsAs is_second bytes system → RefusesAs is_second bytes refusal → ⊥
not_both apart first true bytes system refusal reads refuses = second.not_both apart bytes system refusal reads refuses
not_both apart first false bytes system refusal reads refuses = first bytes reads.graph refusal reads.read refuses

pub one_system : OneGraph → (is_second : Bool) (bytes : List ℕ) (one two : SharedTaskSystem)
    → ReadsAs is_second bytes one → ReadsAs is_second bytes two → one ≡ two
one_system first true bytes one two this that = this.stated ∙ sym that.stated
one_system first false bytes one two this that =
    let same = first bytes this.graph that.graph this.read that.read in
    this.system_is ∙ ap (λ (graph : TaskGraph). shared_of (own_system graph)) same ∙ sym that.system_is

pub one_refusal : NotBoth GraphKind → OneRefusal GraphKind → OneGraphRefusal → (is_second : Bool) (bytes : List ℕ) (one two : Refusal GraphKind)
    → RefusesAs is_second bytes one → RefusesAs is_second bytes two → one ≡ two
one_refusal apart only first true bytes one two this that = second.one_refusal apart only bytes one two this that
one_refusal apart only first false bytes one two this that = first bytes one two this that

pub read-is_system : ((bytes : List ℕ) (graph : TaskGraph) → ReadsGraph bytes graph → IsGraph graph)
    → ((graph : TaskGraph) → IsGraph graph → IsSharedSystem (shared_of (own_system graph)))
    → (is_second : Bool) (bytes : List ℕ) (system : SharedTaskSystem) → ReadsAs is_second bytes system → IsSharedSystem system
read-is_system graphs shared true bytes system reads = second.reads-is_system bytes system reads
read-is_system graphs shared false bytes system reads =
    subst IsSharedSystem (sym reads.system_is) (shared reads.graph (graphs bytes reads.graph reads.read))

-- what a file states is what it is read as
pub stated_is_read : (is_second : Bool) (bytes : List ℕ) (stated : EitherGraph) → StatesAs is_second bytes stated
    → ReadsAs is_second bytes (system_of_either stated)
stated_is_read true bytes (Arcs graph) states = absurd states
stated_is_read true bytes (Items system) states = states
stated_is_read false bytes (Arcs graph) states = record { graph = graph; read = states; system_is = refl }
stated_is_read false bytes (Items system) states = absurd states

-- its version tells which of the two it states
pub arcs_stated : (is_second : Bool) (bytes : List ℕ) (graph : TaskGraph) → StatesAs is_second bytes (Arcs graph)
    → (is_second ≡ false) × ReadsGraph bytes graph
arcs_stated true bytes graph states = absurd states
arcs_stated false bytes graph states = (refl, states)

pub items_stated : (is_second : Bool) (bytes : List ℕ) (system : SharedTaskSystem) → StatesAs is_second bytes (Items system)
    → (is_second ≡ true) × ReadsItems bytes system
items_stated true bytes system states = (refl, states)
items_stated false bytes system states = absurd states
