-- The pattern of a symmetric matrix as an undirected graph: vertices from 1, and for each vertex its neighbours.
use Rattle.std.specs.Prelude.{◌≡◌, ◌==◌, ℕ, zero, suc, ◌≤◌, Bool, true, false, ◌&&◌, ◌||◌, not, List, [], length, slice_index_or}
use Rattle.std.specs.List.{list_any}
use Rattle.std.specs.List.Sorted.{IsStrictlyIncreasing}
use Rattle.limits.specs.Limits.{most_order}
pub use Rattle.row_table.specs.Rows.{has}

-- a pattern as its rows, one for each vertex: row v is the list of the neighbours of v; 0 is no vertex, and has none
abbrev pub neighbours_of : List (List ℕ) → ℕ → List ℕ
neighbours_of rows zero = []
neighbours_of rows (suc i) = slice_index_or rows i []

-- the graph as a test: whether b is a neighbour of a
abbrev pub is_joined : List (List ℕ) → ℕ → ℕ → Bool
is_joined rows a b = has (neighbours_of rows a) b

-- 1 to 10^6 vertices; neighbours rise, are vertices, and are so both ways; no vertex is its own neighbour
pub record IsPattern (rows : List (List ℕ)) : Type 0 where
  pub some : 1 ≤ length rows
  pub few : length rows ≤ most_order
  pub rising : (v : ℕ) → IsStrictlyIncreasing (neighbours_of rows v)
  pub inside : (a b : ℕ) → is_joined rows a b ≡ true → (1 ≤ b) × (b ≤ length rows)
  pub symmetric : (a b : ℕ) → is_joined rows a b ≡ true → is_joined rows b a ≡ true
  pub irreflexive : (a : ℕ) → is_joined rows a a ≡ false

-- ---- the pattern of a list of pairs

-- whether a pair names these two, in one order or the other
abbrev pub names : ℕ → ℕ → ℕ × ℕ → Bool
names a b pair = (pair.0 == a && pair.1 == b) || (pair.0 == b && pair.1 == a)

-- whether two that differ are named by some pair
abbrev pub are_named : List (ℕ × ℕ) → ℕ → ℕ → Bool
are_named pairs a b = not (a == b) && list_any (names a b) pairs

-- both of a pair are vertices
abbrev pub IsPairWithin : ℕ → ℕ × ℕ → Type 0
IsPairWithin order pair = ((1 ≤ pair.0) × (pair.0 ≤ order)) × ((1 ≤ pair.1) × (pair.1 ≤ order))

-- the pattern of so many vertices that joins just the pairs: repeats count once, and a pair of a vertex with itself joins nothing
pub record IsPatternOf (order : ℕ) (pairs : List (ℕ × ℕ)) (rows : List (List ℕ)) : Type 0 where
  pub order_is : length rows ≡ order
  pub pattern : IsPattern rows
  pub joined : (a b : ℕ) → is_joined rows a b ≡ are_named pairs a b
