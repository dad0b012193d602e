-- What the structure of a column holds: by paths, by its children, and by rows. Rose, Tarjan and Lueker 1976; Liu 1990.
use Rattle.std.specs.Prelude.{◌≡◌, ◌≢◌, ◌⊎◌, ℕ, ◌<◌, Bool, IsTrue}
use Rattle.permutations.specs.Perm.{IsVertex}
use Rattle.ordering.specs.Fill.{structure_of, parent_of, parents_of}
use Rattle.elim_tree.specs.Trees.{IsAbove}

-- only vertices from 1 to n are joined
abbrev pub IsWithin : ℕ → (ℕ → ℕ → Bool) → Type 0
IsWithin n joined = (a b : ℕ) → IsTrue (joined a b) → IsVertex n a

-- a path from a to b whose inner vertices are all below k
pub data Path (joined : ℕ → ℕ → Bool) (k : ℕ) : ℕ → ℕ → Type 0 where
  edge : {a b : ℕ} → IsTrue (joined a b) → Path joined k a b
  via : {a c b : ℕ} → IsTrue (joined a c) → c < k → Path joined k c b → Path joined k a b

-- row i is in the structure of a child of column j, and is not the child
abbrev pub IsFromChild : (ℕ → ℕ → Bool) → ℕ → ℕ → ℕ → Type 0
IsFromChild joined n j i =
    (c : ℕ) × IsVertex n c × (parent_of joined n c ≡ j) × IsTrue (structure_of joined c i) × (i ≢ c)

-- row i is j itself, a later neighbour of column j, or from one of its children
abbrev pub IsInherited : (ℕ → ℕ → Bool) → ℕ → ℕ → ℕ → Type 0
IsInherited joined n j i = (i ≡ j) ⊎ ((IsTrue (joined j i) × (j < i)) ⊎ IsFromChild joined n j i)

-- column x is on the way up from an earlier neighbour of i
abbrev pub IsInRowSubtree : (ℕ → ℕ → Bool) → ℕ → ℕ → ℕ → Type 0
IsInRowSubtree joined n i x = (k : ℕ) × IsTrue (joined i k) × (k < i) × IsAbove (parents_of joined n) k x
