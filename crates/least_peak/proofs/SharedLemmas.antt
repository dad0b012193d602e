-- The tasks of a term can be ordered, so that its system is within the limits of shared systems.
use Rattle.std.proofs.Common.{◌≡◌, ℕ, List, ◌++◌, Option}
use Rattle.mp_system.specs.System.{TaskSystem, IsSystem}
use Rattle.mp_system.specs.Traversal.{IsTraversal}
use Rattle.sp_terms.specs.declared.position.Position.{Position}
use Rattle.sp_terms.specs.SystemOfTerm.{system_of_term}
use Rattle.sp_terms.specs.Term.{Term, IsAllowed, least_of}
use Rattle.sp_terms.specs.Values.{IsTerms, term_of}
use Rattle.sp_term_laws.specs.Along.{memory_after}
use Rattle.shared_systems.specs.Bounds.{IsSharedSystem}
use Rattle.shared_systems.specs.OneReader.{shared_of}
use Rattle.least_peak.specs.Named.{IsNamedTerm, order_named}
use Rattle.least_peak.proofs.PlanningLemmas.{Traversals, traversal_named}

abbrev Allowed : Type 0
Allowed = (ps : List Position) → IsTerms ps → IsAllowed (term_of ps)

abbrev HasTraversals : Type 0
HasTraversals = (t : Term) → IsAllowed t
    → (done rest : List ℕ) × IsTraversal (system_of_term t) (done ++ rest) × (memory_after (system_of_term t) done ≡ least_of t)

abbrev Shared : Type 0
Shared = (system : TaskSystem) (order : List ℕ) → IsSystem system → IsTraversal system order → IsSharedSystem (shared_of system)

-- the system of a term, under the names of its tasks, is a shared system
pub term_is_shared : Allowed → HasTraversals → Traversals → Shared
    → (names : Option (List ℕ)) (positions : List Position) (system : TaskSystem) → IsNamedTerm names positions system
    → IsSharedSystem (shared_of system)
term_is_shared allowed some traversals shared names positions system term =
    let (done, rest, walks, least) = some (term_of positions) (allowed positions term.terms) in
    shared system (order_named names (done ++ rest)) term.within
    (traversal_named traversals names (system_of_term (term_of positions)) system (done ++ rest) term.named walks)
