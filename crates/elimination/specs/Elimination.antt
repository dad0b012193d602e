-- The elimination of the vertices of a symmetric pattern, one after another: what is left of the pattern, and by which rule the next vertex
-- is chosen. Rose 1972; George and Liu, The evolution of the minimum degree ordering algorithm, 1989.
--
-- A pattern is a test of two vertices: whether they are joined. The vertices of n are 1 to n.
use Rattle.std.specs.Prelude.{◌≡◌, ◌==◌, ◌⊎◌, ℕ, ◌<◌, ◌≤◌, Bool, not, ◌&&◌, ◌||◌, IsTrue, List, [], ◌∷◌, length, take, slice_index}
use Rattle.std.specs.List.{range_with_len, count_by}
pub use Rattle.permutations.specs.Perm.{IsVertex, times}

-- pairs are unordered, and of different vertices; 0, which is no vertex, is in none of them
pub record IsAdjacency (joined : ℕ → ℕ → Bool) : Type 0 where
  pub symmetric : (a b : ℕ) → IsTrue (joined a b) → IsTrue (joined b a)
  pub irreflexive : (a : ℕ) → ¬ (IsTrue (joined a a))
  pub none_of_0 : (b : ℕ) → ¬ (IsTrue (joined 0 b))

-- the pattern without a vertex, whose neighbours are joined to each other
unfoldable pub eliminate : (ℕ → ℕ → Bool) → ℕ → ℕ → ℕ → Bool
eliminate joined v a b = not (a == v) && (not (b == v) && (joined a b || (not (a == b) && (joined v a && joined v b))))

-- the pattern once these vertices are eliminated, one after another
abbrev pub eliminated : (ℕ → ℕ → Bool) → List ℕ → ℕ → ℕ → Bool
eliminated joined [] = joined
eliminated joined (v ∷ vs) = eliminated (eliminate joined v) vs

-- how many of the vertices 1 to n are neighbours of v
abbrev pub degree_of : (ℕ → ℕ → Bool) → ℕ → ℕ → ℕ
degree_of joined n v = count_by (joined v) (range_with_len 1 n)

-- a vertex that is not among these
abbrev pub IsRemaining : ℕ → List ℕ → ℕ → Type 0
IsRemaining n gone u = IsVertex n u × (times gone u ≡ 0)

-- v comes no later than u: by degree, and then by number
abbrev pub IsAhead : (ℕ → ℕ) → ℕ → ℕ → Type 0
IsAhead degree v u = (degree v < degree u) ⊎ ((degree v ≡ degree u) × (v ≤ u))

-- each of these vertices, as it was eliminated, was the first by degree and number of all that were left
abbrev pub GoByLeastDegree : (ℕ → ℕ → Bool) → ℕ → List ℕ → Type 0
GoByLeastDegree joined n order =
    (k u : ℕ) → k < length order → IsRemaining n (take k order) u
    → IsAhead (degree_of (eliminated joined (take k order)) n) (slice_index order k) u
