-- What an answer says of an order that is carried from the term of a graph to the graph: it is a traversal there, with the peak that is
-- printed, which is no higher than that of the order that was given.
use Rattle.std.proofs.Common.{◌≡◌, ◌∙◌, ◌↔◌, ◌≤◌, ℕ, List, [], ◌∷◌, Option, Some, length, map, sym, ap, subst, inl, inr, arith}
use Rattle.mp_system.specs.Memory.{peak_of}
use Rattle.mp_system.specs.Renaming.{name_in}
use Rattle.mp_system.specs.System.{TaskSystem}
use Rattle.mp_system.specs.Traversal.{IsTraversal, IsLeast}
use Rattle.sp_terms.specs.SystemOfTerm.{system_of_term}
use Rattle.sp_terms.specs.Term.{Term}
use Rattle.sp_terms.specs.Values.{term_of}
use Rattle.graphs.specs.Graph.{TaskGraph, completed_system, own_system}
use Rattle.shared_systems.specs.Bounds.{IsSharedSystem}
use Rattle.shared_systems.specs.OneReader.{shared_of}
use Rattle.shared_systems.specs.Shared.{SharedTaskSystem}
use Rattle.shared_systems.specs.SharedMemory.{shared_peak_of}
use Rattle.shared_systems.specs.SharedTraversal.{IsSharedTraversal, IsLeastShared}
use Rattle.joined_systems.proofs.WithoutJoins.{without_none}
use Rattle.shared_graph_files.specs.declared.either.EitherGraph.{EitherGraph}
use Rattle.shared_graph_files.specs.declared.either.EitherGraph.TheVariants.{Arcs, Items}
use Rattle.shared_graph_files.specs.EitherVersion.{is_second, system_of_either, ReadsSharedGraph}
use Rattle.shared_graph_files.proofs.EitherLemmas.{stated_is_read}
use Rattle.sp_reduce.specs.Reduced.{HasSystem}
use Rattle.shared_reduce.specs.SharedTerm.{IsSharedTerm, told}
use Rattle.requests.specs.Request.{OrderSource, carrying, files_of, source_file}
use Rattle.judging.specs.declared.status.Status.TheVariants.{Done}
use Rattle.judging.specs.declared.stop.Stop.{Stop}
use Rattle.judging.specs.Files.{Answer, IsEitherGraphFile, IsSharedGraphFile, IsOrderFrom, IsFirstRefusal, AreAccepted}
use Rattle.judging.specs.Judged.{IsStop, IsRefusedSource}
use Rattle.judging.proofs.InputLemmas.{source_accepted, source_refused}
use Rattle.judging.proofs.StepLemmas.{alone_told, stop_after}
use Rattle.reports.specs.Carry.{IsCarriedAnswer, IsArcsCarryAnswer, IsItemsCarryAnswer, IsEitherCarryAnswer, IsCarryOf, IsOrderCarried}
use Rattle.reports.specs.Post.{post_answer}
use Rattle.reports.proofs.GraphLemmas.{graph_at}

-- ---- the files

-- what a file states is a system
pub graph_value : (text : List ℕ) (stated : EitherGraph) → IsEitherGraphFile text stated → IsSharedGraphFile text (system_of_either stated)
graph_value text stated is = (is.0, stated_is_read (is_second text) text stated is.1)

-- a stop at the order, behind the graph
module _ (told now : List ℕ → Option (List ℕ)) (same : (name : List ℕ) → now name ≡ told name) (before then after : List ℕ → ℕ)
    (le : (name : List ℕ) → before name ≤ then name) (graph : List ℕ) (stated : EitherGraph)
    (is_stated : (text : List ℕ) → told graph ≡ Some text → IsEitherGraphFile text stated) (source : OrderSource) where
  pub order_stop : (e : Stop) → IsStop now then after (source_file source ∷ []) (IsRefusedSource source) e
      → IsStop told before after (graph_at graph ∷ source_file source ∷ []) (IsFirstRefusal (graph_at graph ∷ source_file source ∷ []) []) e
  order_stop =
      stop_after told now same before then after le (graph_at graph ∷ [])
      (alone_told told (graph_at graph) (AreAccepted (graph_at graph ∷ []) [])
      (λ text at. ((system_of_either stated, graph_value text stated (is_stated text at)), tt)))
      (source_file source ∷ []) (omega arith) (IsRefusedSource source)
      (λ one two answer are more refused. source_refused source one two answer refused)

-- both have values
pub carry_accepted : (graph : List ℕ) (source : OrderSource) (texts : List (List ℕ)) (answer : Answer)
    → IsCarryOf source texts answer → AreAccepted (files_of (carrying graph source)) [] texts
carry_accepted graph source texts answer (text, one, stated, numbers, e, is, is_order, x) =
    subst (AreAccepted (files_of (carrying graph source)) []) (sym e)
    ((system_of_either stated, graph_value text stated is), (source_accepted source (text ∷ []) one numbers is_order, tt))

-- ---- the orders of a graph of version 1

-- names of its tasks are none of joins
pub own_told : (graph : TaskGraph) (names order : List ℕ) → IsTraversal (own_system graph) (map (name_in names) order)
    → told (length graph.tasks) names order ≡ map (name_in names) order
own_told graph names order traversal =
    without_none (length graph.tasks) (map (name_in names) order) (λ i d lt. (traversal.tasks i d lt).1)

-- what is told without the joins is told by the names
pub own_answer : (graph : TaskGraph) (names : List ℕ) (t : Term) (numbers : List ℕ) (answer : Answer)
    → (IsTraversal (system_of_term t) numbers → IsTraversal (own_system graph) (map (name_in names) numbers))
    → IsCarriedAnswer t (told (length graph.tasks) names) (shared_of (own_system graph)) numbers answer
    → IsCarriedAnswer t (map (name_in names)) (shared_of (own_system graph)) numbers answer
own_answer graph names t numbers answer tells (inl (traversal, a)) =
    inl (
      traversal,
      subst (λ (order : List ℕ). answer ≡ post_answer (shared_peak_of (shared_of (own_system graph)) order) order)
          (own_told graph names numbers (tells traversal)) a,
    )
own_answer graph names t numbers answer tells (inr fault) = inr fault

-- ---- what is promised

-- the orders of a term tell those of a system, with peaks that are no higher, and the same least peak
record Tells (system : SharedTaskSystem) (t : Term) (tell : List ℕ → List ℕ) : Type 0 where
  traversal : (order : List ℕ) → IsTraversal (system_of_term t) order → IsSharedTraversal system (tell order)
  peak : (order : List ℕ) → IsTraversal (system_of_term t) order → shared_peak_of system (tell order) ≤ peak_of (system_of_term t) order
  least : (peak : ℕ) → IsLeastShared system peak ↔ IsLeast (system_of_term t) peak

-- what is known of graphs of version 1 and their terms, of their systems as shared ones, and of shared systems and their terms
pub record AreCarryLaws : Type 0 where
  pub read : (bytes : List ℕ) (system : SharedTaskSystem) → ReadsSharedGraph bytes system → IsSharedSystem system
  pub named_traversal : (graph : TaskGraph) (names : List ℕ) (t : Term) (order : List ℕ) → HasSystem names t (completed_system graph)
      → (IsTraversal (system_of_term t) order ↔ IsTraversal (own_system graph) (map (name_in names) order))
  pub named_peak : (graph : TaskGraph) (names : List ℕ) (t : Term) (order : List ℕ) → HasSystem names t (completed_system graph)
      → IsTraversal (system_of_term t) order → peak_of (own_system graph) (map (name_in names) order) ≡ peak_of (system_of_term t) order
  pub named_least : (graph : TaskGraph) (names : List ℕ) (t : Term) (peak : ℕ) → HasSystem names t (completed_system graph)
      → (IsLeast (system_of_term t) peak ↔ IsLeast (own_system graph) peak)
  pub shared_traversal : (system : TaskSystem) (order : List ℕ) → IsSharedTraversal (shared_of system) order ↔ IsTraversal system order
  pub shared_peak : (system : TaskSystem) (order : List ℕ) → shared_peak_of (shared_of system) order ≡ peak_of system order
  pub shared_least : (system : TaskSystem) (peak : ℕ) → IsLeastShared (shared_of system) peak ↔ IsLeast system peak
  pub told_traversal : (system : SharedTaskSystem) (names : List ℕ) (t : Term) (order : List ℕ) → IsSharedSystem system
      → IsSharedTerm system names t → IsTraversal (system_of_term t) order
      → IsSharedTraversal system (told (length system.tasks) names order)
  pub told_peak : (system : SharedTaskSystem) (names : List ℕ) (t : Term) (order : List ℕ) → IsSharedSystem system
      → IsSharedTerm system names t → IsTraversal (system_of_term t) order
      → shared_peak_of system (told (length system.tasks) names order) ≤ peak_of (system_of_term t) order
  pub told_least : (system : SharedTaskSystem) (names : List ℕ) (t : Term) (peak : ℕ) → IsSharedSystem system
      → IsSharedTerm system names t → (IsLeastShared system peak ↔ IsLeast (system_of_term t) peak)

module _ (laws : AreCarryLaws) where
  own_tells : (graph : TaskGraph) (names : List ℕ) (t : Term) → HasSystem names t (completed_system graph)
      → Tells (shared_of (own_system graph)) t (map (name_in names))
  own_tells graph names t has =
      let own = own_system graph in
      record {
        traversal = λ order given.
            (laws.shared_traversal own (map (name_in names) order)).1 ((laws.named_traversal graph names t order has).0 given);
        peak = λ order given.
            omega (arith, laws.shared_peak own (map (name_in names) order), laws.named_peak graph names t order has given);
        least = λ peak.
            let shared = laws.shared_least own peak in
            let named = laws.named_least graph names t peak has in
            (λ least. named.1 (shared.0 least), λ least. shared.1 (named.0 least));
      }

  items_tell : (system : SharedTaskSystem) (names : List ℕ) (t : Term) → IsSharedSystem system → IsSharedTerm system names t
      → Tells system t (told (length system.tasks) names)
  items_tell system names t is term = record {
    traversal = λ order. laws.told_traversal system names t order is term;
    peak = λ order. laws.told_peak system names t order is term;
    least = λ peak. laws.told_least system names t peak is term;
  }

  module _ (source : OrderSource) (texts : List (List ℕ)) (answer : Answer) (done : answer.status ≡ Done) (text one : List ℕ)
      (e : texts ≡ text ∷ one ∷ []) (numbers : List ℕ) (is_order : IsOrderFrom source one numbers) where
    carried : (system : SharedTaskSystem) (t : Term) (tell : List ℕ → List ℕ) → IsSharedGraphFile text system → Tells system t tell
        → IsCarriedAnswer t tell system numbers answer → IsOrderCarried source texts answer.text
    carried system t tell is tells (inl (given, a)) = record {
      text = text;
      one = one;
      texts_are = e;
      system = system;
      is_graph = is;
      numbers = numbers;
      is_order = is_order;
      term = t;
      given = given;
      order = tell numbers;
      traversal = tells.traversal numbers given;
      peak = tells.peak numbers given;
      least = tells.least;
      printed_is = ap (λ (x : Answer). x.text) a;
    }
    carried system t tell is tells (inr (place, kind, fault, a)) = absurd (cc (sym (ap (λ (x : Answer). x.status) a) ∙ done))

    arcs_carried : (graph : TaskGraph) → IsSharedGraphFile text (shared_of (own_system graph)) → IsArcsCarryAnswer graph numbers answer
        → IsOrderCarried source texts answer.text
    arcs_carried graph is (inl (positions, names, terms, has, a)) =
        carried (shared_of (own_system graph)) (term_of positions) (map (name_in names)) is
        (own_tells graph names (term_of positions) has) a
    arcs_carried graph is (inr (arcs, none, rest, a)) = absurd (cc (sym (ap (λ (x : Answer). x.status) a) ∙ done))

    items_carried : (system : SharedTaskSystem) → IsSharedGraphFile text system → IsItemsCarryAnswer system numbers answer
        → IsOrderCarried source texts answer.text
    items_carried system is (inl (positions, names, terms, term, a)) =
        carried system (term_of positions) (told (length system.tasks) names) is
        (items_tell system names (term_of positions) (laws.read text system is.1) term) a
    items_carried system is (inr (refusal, refused, a)) = absurd (cc (sym a.0 ∙ done))

    either_carried : (stated : EitherGraph) → IsEitherGraphFile text stated → IsEitherCarryAnswer stated numbers answer
        → IsOrderCarried source texts answer.text
    either_carried (Arcs graph) is x = arcs_carried graph (graph_value text (Arcs graph) is) x
    either_carried (Items system) is x = items_carried system (graph_value text (Items system) is) x

  pub carry_says : (source : OrderSource) (texts : List (List ℕ)) (answer : Answer) → IsCarryOf source texts answer
      → answer.status ≡ Done → IsOrderCarried source texts answer.text
  carry_says source texts answer (text, one, stated, numbers, e, is, is_order, x) done =
      either_carried source texts answer done text one e numbers is_order stated is x
