-- A task graph, and after it another file: where they are judged in turn.
use Rattle.std.proofs.Common.{◌≡◌, ℕ, ◌≤◌, List, [], ◌∷◌, Option, Some, inl, arith}
use Rattle.std.specs.Prelude.{codes}
use Rattle.graph_files.specs.Kinds.{word_of as graph_word}
use Rattle.shared_systems.specs.Shared.{SharedTaskSystem}
use Rattle.shared_graph_files.specs.EitherVersion.{RefusesSharedGraph}
use Rattle.judging.specs.Files.{Answer, IsRefusedFile, IsRefusedInRole, IsSharedGraphFile, IsFirstRefusal, AreAccepted}
use Rattle.judging.specs.Told.{AreTold}
use Rattle.judging.specs.Judged.{IsStopAt, IsStop}
use Rattle.judging.specs.declared.stop.Stop.{Stop}
use Rattle.judging.proofs.StepLemmas.{alone_told, alone_stop, stop_before, stop_after}
use Rattle.requests.specs.Request.{NamedFile, shared_graph_file}

abbrev pub graph_at : List ℕ → NamedFile
graph_at name = record { role = shared_graph_file; name = name }

abbrev pub refuses_graph : List ℕ → Answer → Type 0
refuses_graph text = IsRefusedFile (codes "graph") graph_word (RefusesSharedGraph text) text

-- a stop at the graph
pub graph_stop : (told : List ℕ → Option (List ℕ)) (before after : List ℕ → ℕ) (graph : List ℕ) (ys : List NamedFile) (e : Stop)
    → IsStopAt told before after graph refuses_graph e
    → IsStop told before after (graph_at graph ∷ ys) (IsFirstRefusal (graph_at graph ∷ ys) []) e
graph_stop told before after graph ys e stop =
    stop_before told before after (graph_at graph ∷ []) ys e
    (alone_stop told before after (graph_at graph) refuses_graph (IsFirstRefusal (graph_at graph ∷ []) [])
    (λ text answer refused. inl refused) e stop)

-- a stop at the file after it
module _ (told now : List ℕ → Option (List ℕ)) (same : (name : List ℕ) → now name ≡ told name) (before then after : List ℕ → ℕ)
    (le : (name : List ℕ) → before name ≤ then name) (graph : List ℕ) (system : SharedTaskSystem)
    (is_system : (text : List ℕ) → told graph ≡ Some text → IsSharedGraphFile text system) where
  pub beside_stop : (file : NamedFile) (refuses : List ℕ → Answer → Type 0)
      → ((earlier : List (List ℕ)) (text : List ℕ) (answer : Answer) → refuses text answer → IsRefusedInRole file.role earlier text answer)
      → (e : Stop) → IsStopAt now then after file.name refuses e
      → IsStop told before after (graph_at graph ∷ file ∷ []) (IsFirstRefusal (graph_at graph ∷ file ∷ []) []) e
  beside_stop file refuses in_role e stop =
      stop_after told now same before then after le (graph_at graph ∷ [])
      (alone_told told (graph_at graph) (AreAccepted (graph_at graph ∷ []) []) (λ text at. ((system, is_system text at), tt)))
      (file ∷ []) (omega arith) (λ texts answer. (earlier : List (List ℕ)) → IsFirstRefusal (file ∷ []) earlier texts answer)
      (λ one two answer are more refused. refused one) e
      (alone_stop now then after file refuses
      (λ texts answer. (earlier : List (List ℕ)) → IsFirstRefusal (file ∷ []) earlier texts answer)
      (λ text answer refused. λ earlier. inl (in_role earlier text answer refused)) e stop)

-- what is said of both texts
pub over_two : (told : List ℕ → Option (List ℕ)) (graph : List ℕ) (file : NamedFile) (P : List (List ℕ) → Type 0)
    → ((one two : List ℕ) → told graph ≡ Some one → told file.name ≡ Some two → P (one ∷ two ∷ []))
    → (texts : List (List ℕ)) → AreTold told (graph_at graph ∷ file ∷ []) texts → P texts
over_two told graph file P each [] are = absurd are
over_two told graph file P each (one ∷ []) are = absurd are.1
over_two told graph file P each (one ∷ two ∷ []) are = each one two are.0 are.1.0
over_two told graph file P each (one ∷ two ∷ more ∷ texts) are = absurd are.1.1
