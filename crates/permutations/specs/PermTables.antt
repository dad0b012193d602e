-- No public clause names this.
-- The two tables in which the code keeps an order of elimination: vertices by place, and places by vertex. Both have an unused place 0,
-- which holds 0.
use Rattle.std.specs.Prelude.{◌≡◌, ℕ, ◌+◌, ◌<◌, ◌^◌, List, ◌∷◌, length, slice_index_or, drop}
use Rattle.permutations.specs.Perm.{place_of, IsPart, IsPerm}

-- the order that a table holds
abbrev pub order_in : List ℕ → List ℕ
order_in vertices = drop 1 vertices

-- the tables hold a list of vertices and their places
pub record AreTables (vertices places : List ℕ) : Type 0 where
  pub unused : vertices ≡ 0 ∷ order_in vertices
  pub few : length (order_in vertices) < length places
  pub inverse : (v : ℕ) → slice_index_or places v 0 ≡ place_of (order_in vertices) v

-- the tables hold the vertices so far, of n
pub record ArePartTables (n : ℕ) (vertices places : List ℕ) : Type 0 where
  pub tables : AreTables vertices places
  pub part : IsPart n (order_in vertices)
  pub len : length places ≡ n + 1
  pub small : n < 2 ^ 32

-- the tables hold a permutation
pub record ArePermTables (vertices places : List ℕ) : Type 0 where
  pub tables : AreTables vertices places
  pub perm : IsPerm (length (order_in vertices)) (order_in vertices)
  pub small : length (order_in vertices) < 2 ^ 32
