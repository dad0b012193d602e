-- Permutations: the order in which the vertices of a matrix are eliminated. The vertices of n are 1 to n, and a permutation lists each of
-- them once: the k-th is the one that is eliminated k-th. Places are counted from 1 too, and 0 is no place and no vertex.
use Rattle.std.specs.Prelude.{◌≡◌, ◌==◌, ℕ, zero, suc, ◌+◌, ◌<◌, ◌≤◌, List, length, slice_index, slice_index_or, Option, Some, None}
use Rattle.std.specs.List.{All, position, count_by}

abbrev pub IsVertex : ℕ → ℕ → Type 0
IsVertex n v = (1 ≤ v) × (v ≤ n)

-- how often a vertex stands in a list
abbrev pub times : List ℕ → ℕ → ℕ
times order v = count_by (λ x. x == v) order

-- the vertex at a place
abbrev pub vertex_at : List ℕ → ℕ → ℕ
vertex_at order zero = 0
vertex_at order (suc i) = slice_index_or order i 0

-- a position that is counted from 0, as a place
abbrev pub place_after : Option ℕ → ℕ
place_after None = 0
place_after (Some i) = i + 1

-- the place of a vertex: the first at which it stands
abbrev pub place_of : List ℕ → ℕ → ℕ
place_of order v = place_after (position (λ x. x == v) order)

-- the list has vertices of n, nothing else, and none of them twice
pub record IsPart (n : ℕ) (numbers : List ℕ) : Type 0 where
  pub vertices : All (IsVertex n) numbers
  pub once : (v : ℕ) → times numbers v ≤ 1

-- the list has n vertices, nothing else, and each of them once
pub record IsPerm (n : ℕ) (order : List ℕ) : Type 0 where
  pub len : length order ≡ n
  pub vertices : All (IsVertex n) order
  pub once : (v : ℕ) → IsVertex n v → times order v ≡ 1

-- two tables, of the vertex at each place and of the place of each vertex, undo each other; both have a place 0, which holds 0
pub record AreInverse (vertices places : List ℕ) : Type 0 where
  pub some : 0 < length vertices
  pub same_length : length places ≡ length vertices
  pub unused : slice_index vertices 0 ≡ 0
  pub vertex : (k : ℕ) → k < length vertices
      → (slice_index vertices k < length vertices) × (slice_index places (slice_index vertices k) ≡ k)
  pub place : (v : ℕ) → v < length vertices → (slice_index places v < length vertices) × (slice_index vertices (slice_index places v) ≡ v)

-- the vertices that come first in an order of n, none of them twice
pub record PermState : Type 0 where
  pub n : ℕ
  pub numbers : List ℕ
