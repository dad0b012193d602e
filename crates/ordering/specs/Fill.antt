-- The fill of a symmetric pattern: what a sparse factorization fills in as the vertices are eliminated one after another, and with it the
-- structure, the parent and the count of each column. Rose 1972; Liu, The role of elimination trees in sparse factorization, 1990.
--
-- A pattern is a test of two vertices: whether they are joined. Columns are the vertices by the order in which they are eliminated, so
-- column j is the j-th, and both are counted from 1.
use Rattle.std.specs.Prelude.{◌==◌, ℕ, zero, suc, ◌+◌, ◌-◌, ◌<◌, ◌≤◌, Bool, not, nat_lt, ◌&&◌, ◌||◌, IsTrue, List, find, unwrap_or, map}
use Rattle.std.specs.List.{range_with_len, count_by}
pub use Rattle.elimination.specs.Elimination.{IsAdjacency}
unfoldable pub use Rattle.elimination.specs.Elimination.{eliminate}
use Rattle.permutations.specs.Perm.{vertex_at}

-- the pattern by columns: of the vertices in the order in which they are eliminated
abbrev pub renumbered : (ℕ → ℕ → Bool) → List ℕ → ℕ → ℕ → Bool
renumbered joined order a b = joined (vertex_at order a) (vertex_at order b)

-- the pattern as column j is eliminated: each column below it was, from the lowest on. The lowest is 0, whose elimination changes nothing
-- among the others: it is joined to none.
unfoldable pub graph_at : (ℕ → ℕ → Bool) → ℕ → ℕ → ℕ → Bool
graph_at joined zero a b = joined a b
graph_at joined (suc j) a b = eliminate (graph_at joined j) j a b

-- whether a row is in the structure of column j: j itself, or a neighbour of j is eliminated
abbrev pub structure_of : (ℕ → ℕ → Bool) → ℕ → ℕ → Bool
structure_of joined j i = i == j || graph_at joined j j i

-- of n columns, those after j
abbrev pub columns_after : ℕ → ℕ → List ℕ
columns_after n j = range_with_len (j + 1) (n - j)

-- the parent of column j: the first after it in its structure, or 0
abbrev pub parent_of : (ℕ → ℕ → Bool) → ℕ → ℕ → ℕ
parent_of joined n j = unwrap_or (find (structure_of joined j) (columns_after n j)) 0

-- the count of column j: the size of its structure
abbrev pub count_of : (ℕ → ℕ → Bool) → ℕ → ℕ → ℕ
count_of joined n j = count_by (structure_of joined j) (range_with_len 1 n)

-- parents and counts of n columns, from the first on
abbrev pub parents_of : (ℕ → ℕ → Bool) → ℕ → List ℕ
parents_of joined n = map (parent_of joined n) (range_with_len 1 n)

abbrev pub counts_of : (ℕ → ℕ → Bool) → ℕ → List ℕ
counts_of joined n = map (count_of joined n) (range_with_len 1 n)

-- the same without an elimination: the pattern once for each column below j, from the lowest on, all pairs of its later neighbours were
-- put in
unfoldable pub filled : (ℕ → ℕ → Bool) → ℕ → ℕ → ℕ → Bool
filled joined zero a b = joined a b
filled joined (suc j) a b =
    filled joined j a b || (nat_lt j a && (nat_lt j b && (not (a == b) && (filled joined j j a && filled joined j j b))))

-- p is the first column after j in its structure, or 0 where there is none
pub record IsParent (joined : ℕ → ℕ → Bool) (n j p : ℕ) : Type 0 where
  pub reached : 0 < p → (j < p) × (p ≤ n) × IsTrue (structure_of joined j p)
  pub least : (i : ℕ) → j < i → i ≤ n → IsTrue (structure_of joined j i) → (0 < p) × (p ≤ i)
