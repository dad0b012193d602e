-- When a graph has no term.
use Rattle.std.specs.Prelude.{ℕ, List, map}
use Rattle.sp_terms.specs.Term.{Term}
use Rattle.graphs.specs.Graph.{TaskGraph, completed, completed_system}
use Rattle.sp_reduce.specs.declared.reduced.ReduceRefusal.{ReduceRefusal}
use Rattle.sp_reduce.specs.declared.reduced.ReduceRefusal.TheVariants.{Rest, NoMemory}
use Rattle.sp_reduce.specs.Reductions.{ends_of, IsRestOf}
use Rattle.sp_reduce.specs.Reduced.{HasSystem, HasParts}

-- no term has the system of the completed graph, under any names
abbrev pub HasNoTerm : TaskGraph → Type 0
HasNoTerm graph = (t : Term) (names : List ℕ) → HasParts t → HasSystem names t (completed_system graph) → ⊥

-- an answer that is no term: an irreducible rest where the graph has none, or memory ran out
abbrev pub IsReduceRefusal : TaskGraph → ReduceRefusal → Type 0
IsReduceRefusal graph NoMemory = Unit {0}
IsReduceRefusal graph (Rest arcs) = IsRestOf (map ends_of (completed graph).arcs) arcs.items × HasNoTerm graph
