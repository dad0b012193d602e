-- Orders of elimination, by their vertices: what the column of a vertex holds, and the parent of a vertex in the elimination tree. Liu, The
-- role of elimination trees in sparse factorization, 1990.
use Rattle.std.specs.Prelude.{ℕ, ◌<◌, Bool, List, length}
use Rattle.permutations.specs.Perm.{IsVertex, IsPerm, vertex_at, place_of}
use Rattle.ordering.specs.Fill.{renumbered, structure_of, parent_of, count_of}

-- whether the column of vertex u has an entry in the row of vertex v: v is u, or still a neighbour of u as u is eliminated
abbrev pub is_in_column : (ℕ → ℕ → Bool) → List ℕ → ℕ → ℕ → Bool
is_in_column joined order u v = structure_of (renumbered joined order) (place_of order u) (place_of order v)

-- how many entries it has
abbrev pub column_count : (ℕ → ℕ → Bool) → List ℕ → ℕ → ℕ
column_count joined order v = count_of (renumbered joined order) (length order) (place_of order v)

-- the parent of a vertex: of the others in its column the one that is eliminated first, or 0 where there is none
abbrev pub parent_vertex : (ℕ → ℕ → Bool) → List ℕ → ℕ → ℕ
parent_vertex joined order v = vertex_at order (parent_of (renumbered joined order) (length order) (place_of order v))

-- the same vertices in another order, each of them before its parent in the elimination tree of the old one
pub record IsTopological (joined : ℕ → ℕ → Bool) (old new : List ℕ) : Type 0 where
  pub perm : IsPerm (length old) new
  pub before : (v : ℕ) → IsVertex (length old) v → 0 < parent_vertex joined old v
      → place_of new v < place_of new (parent_vertex joined old v)
