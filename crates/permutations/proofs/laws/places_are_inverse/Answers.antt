use Rattle.permutations.proofs.PermLemmas.{vertex_of_place, place_of_vertex}
use Rattle.permutations.proofs.laws.places_are_inverse.Goals as goal

pub returns-clause-vertex : goal.returns-clause-vertex
returns-clause-vertex c = vertex_of_place

pub returns-clause-place : goal.returns-clause-place
returns-clause-place c = place_of_vertex
