-- What `reduce` answers, from what is left of the arcs of a graph.
use Rattle.std.proofs.Common.{◌≡◌, ℕ, ◌<◌, ◌≤◌, sym, ap, subst, arith, ◌∙◌, List, [], ◌∷◌, length, map, get_or}
use Rattle.std.specs.Prelude.{IsPermutation}
use Rattle.std.specs.List.{All, count_by}
use Rattle.std.specs.List.Sorted.{IsSorted}
use Rattle.std.proofs.lemmas.List.{get_or_default}
use Rattle.limits.specs.Limits.{most_positions}
use Rattle.mp_system.specs.System.{IsSystem}
use Rattle.mp_system.specs.declared.system.Task.{Task}
use Rattle.sp_terms.specs.Term.{Term}
use Rattle.sp_terms.specs.Postfix.{Denotes, postfix}
use Rattle.sp_terms.specs.declared.position.Position.{Position}
use Rattle.sp_terms.specs.Values.{term_of, IsTerms}
use Rattle.graphs.specs.declared.arc.Arc.{Arc}
use Rattle.graphs.specs.Graph.{TaskGraph, IsAmong, IsArcWithin, IsGraph, is_into, listed_task, completed_arcs, completed_system}
use Rattle.sp_reduce.specs.declared.link.Link.{Link}
use Rattle.sp_reduce.specs.declared.piece.Piece.{Piece}
use Rattle.sp_reduce.specs.Nets.{Net, names}
use Rattle.sp_reduce.specs.NetGraphs.{Makes}
use Rattle.sp_reduce.specs.Outcome.{IsOutcome}
use Rattle.sp_reduce.specs.Pieces.{net_at, nets_of}
use Rattle.sp_reduce.specs.Reduced.{HasSystem}
use Rattle.sp_reduce.specs.Reductions.{in_order, by_ends, ends_of, IsRestOf}
use Rattle.sp_reduce.specs.Refusal.{HasNoTerm}
use Rattle.sp_reduce.specs.Shapes.{term_of_net, size_of}
use Rattle.sp_reduce.specs.Work.{IsLink, pairs_of}
use Rattle.sp_reduce.proofs.Rows.{leads-trans}
use Rattle.sp_reduce.proofs.Finish.{has-system, is-terms, size-small, names-among, term-same, none-has}
use Rattle.sp_reduce.proofs.Outcomes.{outcome-makes, outcome-none, outcome-irreducible, irreducible-order, one-order}

module _ (graph : TaskGraph) (links : List Link) (nodes : List ℕ) (pieces : List Piece)
    (o : IsOutcome (completed_arcs (length graph.tasks) graph.arcs) links nodes pieces) where
  abbrev net_of : ℕ → Net
  net_of x = net_at (nets_of pieces) (get_or nodes x 0)

  -- one link is left, from none to none
  module _ (is : IsGraph graph) (system : IsSystem (completed_system graph))
      (within : All (IsArcWithin (length graph.tasks)) (completed_arcs (length graph.tasks) graph.arcs))
      (led : (v : ℕ) → IsAmong (length graph.tasks) v → 1 ≤ count_by (is_into v) (completed_arcs (length graph.tasks) graph.arcs))
      (x : ℕ) (link : IsLink links x 0 0) (one : pairs_of links ≡ (0, 0) ∷ []) where
    makes : Makes (net_of x) (completed_system graph).items
    makes = outcome-makes (completed_arcs (length graph.tasks) graph.arcs) links nodes pieces o x link one

    pub answer-names : All (IsAmong (length graph.tasks)) (names (net_of x))
    answer-names = names-among graph is system within led (net_of x) makes

    pub answer-small : size_of (net_of x) ≤ most_positions
    answer-small = size-small graph is system within led (net_of x) makes

    module _ (form : (u : Term) → Denotes (postfix u) u) where
      pub answer-terms : IsTerms (postfix (term_of_net (listed_task graph.tasks) (net_of x)))
      answer-terms = is-terms graph is system within led (net_of x) makes form

      pub answer-system : (positions : List Position) (named : List ℕ)
          → positions ≡ postfix (term_of_net (listed_task graph.tasks) (net_of x)) → named ≡ names (net_of x)
          → HasSystem named (term_of positions) (completed_system graph)
      answer-system positions named p n =
          let same : term_of positions ≡ term_of_net (listed_task graph.tasks) (net_of x) =
          ap term_of p ∙ term-same graph is system within led (net_of x) makes form in
          subst (λ (xs : List ℕ). HasSystem xs (term_of positions) (completed_system graph)) (sym n)
          (subst (λ (u : Term). HasSystem (names (net_of x)) u (completed_system graph))
          (sym same) (has-system graph is system within led (net_of x) makes))

  -- something else is left
  pub answer-rest : (pairs_of links ≡ (0, 0) ∷ [] → ⊥) → (ends : List (ℕ × ℕ)) → IsPermutation (pairs_of links) ends → IsSorted by_ends ends
      → IsRestOf (map ends_of (completed_arcs (length graph.tasks) graph.arcs)) ends × HasNoTerm graph
  answer-rest other ends order rising = (
    record {
      reached = leads-trans (map ends_of (completed_arcs (length graph.tasks) graph.arcs)) (pairs_of links) ends o.row (in_order order);
      irreducible = irreducible-order (pairs_of links) ends order
          (outcome-irreducible (completed_arcs (length graph.tasks) graph.arcs) links nodes pieces o);
      not_single = λ e. other (one-order (pairs_of links) (subst (IsPermutation (pairs_of links)) e order));
      rising = rising;
    },
    λ t xs parts has.
        none-has graph (outcome-none (completed_arcs (length graph.tasks) graph.arcs) links nodes pieces o other) t xs parts has,
  )

-- ---- the term that is written

-- what is known of the piece from which it is written
pub record IsFound (graph : TaskGraph) (tasks : List Task) (pieces : List Piece) (root : ℕ) : Type 0 where
  pub among : All (IsAmong (length tasks)) (names (net_at (nets_of pieces) root))
  pub small : size_of (net_at (nets_of pieces) root) ≤ most_positions
  pub terms : (positions : List Position)
      → positions ≡ postfix (term_of_net (listed_task tasks) (net_at (nets_of pieces) root)) → IsTerms positions
  pub system : (positions : List Position) (named : List ℕ)
      → positions ≡ postfix (term_of_net (listed_task tasks) (net_at (nets_of pieces) root))
      → named ≡ names (net_at (nets_of pieces) root) → HasSystem named (term_of positions) (completed_system graph)

-- the code sees the graph, the links and the pieces through references
pub found : (graph : TaskGraph) (arcs : List Arc) (seen links : List Link)
    (nodes : List ℕ) (given pieces : List Piece) (tasks : List Task) (x root : ℕ)
    → IsGraph graph → IsSystem (completed_system graph)
    → All (IsArcWithin (length graph.tasks)) (completed_arcs (length graph.tasks) graph.arcs)
    → ((v : ℕ) → IsAmong (length graph.tasks) v → 1 ≤ count_by (is_into v) (completed_arcs (length graph.tasks) graph.arcs))
    → ((u : Term) → Denotes (postfix u) u)
    → arcs ≡ completed_arcs (length graph.tasks) graph.arcs → IsOutcome arcs links nodes pieces
    → seen ≡ links → IsLink seen x 0 0 × (pairs_of seen ≡ (0, 0) ∷ [])
    → root ≡ get_or nodes x root → given ≡ pieces → tasks ≡ graph.tasks → IsFound graph tasks given root
found graph arcs seen links nodes given pieces tasks x root is system within led form arcs_are outcome seen_is one at given_is tasks_are =
    let o = subst (λ (xs : List Arc). IsOutcome xs links nodes pieces) arcs_are outcome in
    let link = subst (λ (ls : List Link). IsLink ls x 0 0) seen_is one.0 in
    let pairs = subst (λ (ls : List Link). pairs_of ls ≡ (0, 0) ∷ []) seen_is one.1 in
    let lt : x < length nodes = omega (arith, link.within, o.carried.lens) in
    let here : root ≡ get_or nodes x 0 = at ∙ get_or_default nodes x root 0 lt in
    let own : IsFound graph graph.tasks pieces (get_or nodes x 0) = record {
      among = answer-names graph links nodes pieces o is system within led x link pairs;
      small = answer-small graph links nodes pieces o is system within led x link pairs;
      terms = λ positions e. subst IsTerms (sym e) (answer-terms graph links nodes pieces o is system within led x link pairs form);
      system = λ positions named e n. answer-system graph links nodes pieces o is system within led x link pairs form positions named e n;
    } in
    subst (λ (n : ℕ). IsFound graph tasks given n) (sym here)
    (subst (λ (ps : List Piece). IsFound graph tasks ps (get_or nodes x 0)) (sym given_is)
    (subst (λ (ts : List Task). IsFound graph ts pieces (get_or nodes x 0)) (sym tasks_are) own))
