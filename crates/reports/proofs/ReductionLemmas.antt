-- What `reduce` prints of a graph that has a term: a workflow file, whose system has the graph's traversals. And of one that has none: the
-- arcs of a rest, or why one of version 2 has none.
use Rattle.std.proofs.Common.{◌≡◌, ◌∙◌, ◌↔◌, ◌≤◌, ℕ, Bool, true, false, List, [], ◌∷◌, length, map, sym, ap, subst, inl, inr}
use Rattle.limits.specs.Limits.{most_bytes}
use Rattle.mp_system.specs.Memory.{peak_of}
use Rattle.mp_system.specs.Renaming.{name_in}
use Rattle.mp_system.specs.Traversal.{IsTraversal, IsLeast}
use Rattle.workflow_files.specs.NamedText.{named_text}
use Rattle.sp_reduce.specs.Reduced.{HasSystem}
use Rattle.sp_terms.specs.declared.position.Position.{Position}
use Rattle.sp_terms.specs.Postfix.{Denotes}
use Rattle.sp_terms.specs.SystemOfTerm.{system_of_term}
use Rattle.sp_terms.specs.Term.{Term}
use Rattle.sp_terms.specs.Values.{IsTerms, term_of}
use Rattle.workflow_files.specs.WorkflowFile.{ReadsWorkflow}
use Rattle.graphs.specs.Graph.{TaskGraph, IsGraph, completed_system, own_system}
use Rattle.graph_files.specs.GraphFile.{ReadsGraph}
use Rattle.shared_systems.specs.Shared.{SharedTaskSystem}
use Rattle.shared_systems.specs.SharedMemory.{shared_peak_of}
use Rattle.shared_systems.specs.SharedTraversal.{IsSharedTraversal, IsLeastShared}
use Rattle.shared_systems.specs.Bounds.{IsSharedSystem}
use Rattle.shared_graph_files.specs.declared.either.EitherGraph.TheVariants.{Arcs, Items}
use Rattle.shared_graph_files.specs.SharedGraphFile.{ReadsItems}
use Rattle.shared_graph_files.specs.EitherVersion.{is_second}
use Rattle.shared_graph_files.proofs.EitherLemmas.{arcs_stated, items_stated}
use Rattle.shared_reduce.specs.SharedTerm.{IsSharedTerm, told}
use Rattle.judging.specs.Files.{Answer, IsGraphFile, IsItemsFile, IsWorkflowFile}
use Rattle.reports.specs.Reduce.{IsReduceAnswer, IsItemsReduceAnswer, IsReduceOf, IsReduced, HasIrreducibleRest}
use Rattle.reports.specs.Reduce.{IsReducedItems, HasItemsRefusal, are_second, by_version}
use Rattle.judging.specs.declared.status.Status.TheVariants.{Done, NotSeriesParallel}

-- ---- graphs of version 1

-- what is known of graphs, of their terms, and of the files of these
pub record AreLaws : Type 0 where
  pub read : (bytes : List ℕ) (graph : TaskGraph) → ReadsGraph bytes graph → IsGraph graph
  pub denotes : (positions : List Position) → IsTerms positions → Denotes positions (term_of positions)
  pub traversal : (graph : TaskGraph) (names : List ℕ) (t : Term) (order : List ℕ) → HasSystem names t (completed_system graph)
      → (IsTraversal (system_of_term t) order ↔ IsTraversal (own_system graph) (map (name_in names) order))
  pub peak : (graph : TaskGraph) (names : List ℕ) (t : Term) (order : List ℕ) → HasSystem names t (completed_system graph)
      → IsTraversal (system_of_term t) order → peak_of (own_system graph) (map (name_in names) order) ≡ peak_of (system_of_term t) order
  pub least : (graph : TaskGraph) (names : List ℕ) (t : Term) (peak : ℕ) → HasSystem names t (completed_system graph)
      → (IsLeast (system_of_term t) peak ↔ IsLeast (own_system graph) peak)
  pub reads : (graph : TaskGraph) (positions : List Position) (names : List ℕ) → IsGraph graph → IsTerms positions
      → HasSystem names (term_of positions) (completed_system graph) → ReadsWorkflow (named_text positions names) positions
  pub short : (graph : TaskGraph) (positions : List Position) (names : List ℕ) → IsGraph graph → IsTerms positions
      → HasSystem names (term_of positions) (completed_system graph) → length (named_text positions names) ≤ most_bytes

module _ (texts : List (List ℕ)) (answer : Answer) (text : List ℕ) (graph : TaskGraph) (e : texts ≡ text ∷ []) (is : IsGraphFile text graph) where
  reduced : AreLaws → IsReduceAnswer graph answer → answer.status ≡ Done → IsReduced texts answer.text
  reduced laws (inl (positions, names, terms, has, a)) done =
      let whole = laws.read text graph is.1 in
      let printed : answer.text ≡ named_text positions names = ap (λ (x : Answer). x.text) a in
      record {
        text = text;
        texts_are = e;
        graph = graph;
        is_graph = is;
        positions = positions;
        term = term_of positions;
        is_file = subst (λ (t : List ℕ). IsWorkflowFile t positions) (sym printed)
            (laws.short graph positions names whole terms has, laws.reads graph positions names whole terms has);
        denotes = laws.denotes positions terms;
        names = names;
        printed_is = printed;
        has = has;
        traversal = λ order. laws.traversal graph names (term_of positions) order has;
        peak = λ order. laws.peak graph names (term_of positions) order has;
        least = λ peak. laws.least graph names (term_of positions) peak has;
      }
  reduced laws (inr (arcs, none, rest, a)) done = absurd (cc (sym (ap (λ (x : Answer). x.status) a) ∙ done))

  irreducible : IsReduceAnswer graph answer → answer.status ≡ NotSeriesParallel → HasIrreducibleRest texts answer.text
  irreducible (inl (positions, names, terms, has, a)) ended = absurd (cc (sym (ap (λ (x : Answer). x.status) a) ∙ ended))
  irreducible (inr (arcs, none, rest, a)) ended = record {
    text = text;
    texts_are = e;
    graph = graph;
    is_graph = is;
    no_term = none;
    arcs = arcs;
    is_rest = rest;
    printed_is = ap (λ (x : Answer). x.text) a;
  }

-- ---- graphs of version 2

-- what is known of shared systems, of their terms, and of the files of these
pub record AreItemsLaws : Type 0 where
  pub read : (bytes : List ℕ) (system : SharedTaskSystem) → ReadsItems bytes system → is_second bytes ≡ true → IsSharedSystem system
  pub denotes : (positions : List Position) → IsTerms positions → Denotes positions (term_of positions)
  pub traversal : (system : SharedTaskSystem) (names : List ℕ) (t : Term) (order : List ℕ) → IsSharedSystem system
      → IsSharedTerm system names t → IsTraversal (system_of_term t) order → IsSharedTraversal system (told (length system.tasks) names order)
  pub peak : (system : SharedTaskSystem) (names : List ℕ) (t : Term) (order : List ℕ) → IsSharedSystem system
      → IsSharedTerm system names t → IsTraversal (system_of_term t) order
      → shared_peak_of system (told (length system.tasks) names order) ≤ peak_of (system_of_term t) order
  pub back : (system : SharedTaskSystem) (names : List ℕ) (t : Term) (order : List ℕ) → IsSharedSystem system
      → IsSharedTerm system names t → IsSharedTraversal system order
      → (other : List ℕ) × IsTraversal (system_of_term t) other × (told (length system.tasks) names other ≡ order)
      × (peak_of (system_of_term t) other ≡ shared_peak_of system order)
  pub least : (system : SharedTaskSystem) (names : List ℕ) (t : Term) (peak : ℕ) → IsSharedSystem system
      → IsSharedTerm system names t → (IsLeastShared system peak ↔ IsLeast (system_of_term t) peak)
  pub reads : (system : SharedTaskSystem) (positions : List Position) (names : List ℕ) → IsSharedSystem system → IsTerms positions
      → IsSharedTerm system names (term_of positions) → ReadsWorkflow (named_text positions names) positions
  pub short : (system : SharedTaskSystem) (positions : List Position) (names : List ℕ) → IsSharedSystem system → IsTerms positions
      → IsSharedTerm system names (term_of positions) → length (named_text positions names) ≤ most_bytes

module _ (texts : List (List ℕ)) (answer : Answer) (text : List ℕ) (system : SharedTaskSystem) (e : texts ≡ text ∷ [])
    (is : IsItemsFile text system) where
  reduced_items : AreItemsLaws → is_second text ≡ true → IsItemsReduceAnswer system answer → answer.status ≡ Done
      → IsReducedItems texts answer.text
  reduced_items laws second (inl (positions, names, terms, term, a)) done =
      let whole = laws.read text system is.1 second in
      let printed : answer.text ≡ named_text positions names = ap (λ (x : Answer). x.text) a in
      record {
        text = text;
        texts_are = e;
        system = system;
        is_graph = is;
        positions = positions;
        term = term_of positions;
        is_file = subst (λ (t : List ℕ). IsWorkflowFile t positions) (sym printed)
            (laws.short system positions names whole terms term, laws.reads system positions names whole terms term);
        denotes = laws.denotes positions terms;
        names = names;
        printed_is = printed;
        is_term = term;
        traversal = λ order. laws.traversal system names (term_of positions) order whole term;
        peak = λ order. laws.peak system names (term_of positions) order whole term;
        back = λ order. laws.back system names (term_of positions) order whole term;
        least = λ peak. laws.least system names (term_of positions) peak whole term;
      }
  reduced_items laws second (inr (refusal, refused, a)) done = absurd (cc (sym a.0 ∙ done))

  items_refused : IsItemsReduceAnswer system answer → answer.status ≡ NotSeriesParallel → HasItemsRefusal texts answer.text
  items_refused (inl (positions, names, terms, term, a)) ended = absurd (cc (sym (ap (λ (x : Answer). x.status) a) ∙ ended))
  items_refused (inr (refusal, refused, a)) ended = record {
    text = text;
    texts_are = e;
    system = system;
    is_graph = is;
    refusal = refusal;
    is_refused = refused;
    printed_is = a.1;
  }

-- ---- by the version of the file

module _ (laws : AreLaws) (items_laws : AreItemsLaws) (texts : List (List ℕ)) (answer : Answer) where
  one_done : are_second texts ≡ false → IsReduceOf texts answer → answer.status ≡ Done → IsReduced texts answer.text
  one_done first (text, Arcs graph, e, is, x) done =
      reduced texts answer text graph e (is.0, (arcs_stated (is_second text) text graph is.1).1) laws x done
  one_done first (text, Items system, e, is, x) done =
      absurd (cc (sym (items_stated (is_second text) text system is.1).0 ∙ sym (ap are_second e) ∙ first))

  one_ended : are_second texts ≡ false → IsReduceOf texts answer → answer.status ≡ NotSeriesParallel → HasIrreducibleRest texts answer.text
  one_ended first (text, Arcs graph, e, is, x) ended =
      irreducible texts answer text graph e (is.0, (arcs_stated (is_second text) text graph is.1).1) x ended
  one_ended first (text, Items system, e, is, x) ended =
      absurd (cc (sym (items_stated (is_second text) text system is.1).0 ∙ sym (ap are_second e) ∙ first))

  two_done : are_second texts ≡ true → IsReduceOf texts answer → answer.status ≡ Done → IsReducedItems texts answer.text
  two_done second (text, Arcs graph, e, is, x) done =
      absurd (cc (sym (arcs_stated (is_second text) text graph is.1).0 ∙ sym (ap are_second e) ∙ second))
  two_done second (text, Items system, e, is, x) done =
      let stated = items_stated (is_second text) text system is.1 in
      reduced_items texts answer text system e (is.0, stated.1) items_laws stated.0 x done

  two_ended : are_second texts ≡ true → IsReduceOf texts answer → answer.status ≡ NotSeriesParallel → HasItemsRefusal texts answer.text
  two_ended second (text, Arcs graph, e, is, x) ended =
      absurd (cc (sym (arcs_stated (is_second text) text graph is.1).0 ∙ sym (ap are_second e) ∙ second))
  two_ended second (text, Items system, e, is, x) ended =
      items_refused texts answer text system e (is.0, (items_stated (is_second text) text system is.1).1) x ended

  pub says_reduced : (second : Bool) → are_second texts ≡ second
      → (answer.status ≡ Done → IsReduceOf texts answer) → (answer.status ≡ NotSeriesParallel → IsReduceOf texts answer)
      → by_version second
      ((answer.status ≡ Done → IsReduced texts answer.text) × (answer.status ≡ NotSeriesParallel → HasIrreducibleRest texts answer.text))
      ((answer.status ≡ Done → IsReducedItems texts answer.text) × (answer.status ≡ NotSeriesParallel → HasItemsRefusal texts answer.text))
  says_reduced false version when_done when_ended =
      (λ done. one_done version (when_done done) done, λ ended. one_ended version (when_ended ended) ended)
  says_reduced true version when_done when_ended =
      (λ done. two_done version (when_done done) done, λ ended. two_ended version (when_ended ended) ended)
