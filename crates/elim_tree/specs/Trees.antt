-- Elimination trees: the parent of a column is the first column after it in its structure. Liu, The role of elimination trees in sparse
-- factorization, 1990.
use Rattle.std.specs.Prelude.{ℕ, zero, suc, ◌<◌, ◌≤◌, List, length, slice_index_or}
use Rattle.limits.specs.Limits.{most_order}

-- parents are listed by column, from 1; column 0 and a parent 0 stand for none
abbrev pub parent_at : List ℕ → ℕ → ℕ
parent_at parents zero = 0
parent_at parents (suc i) = slice_index_or parents i 0

-- 1 to 10^6 columns, and the parent of each is 0 or a greater column
pub record IsForest (parents : List ℕ) : Type 0 where
  pub some : 1 ≤ length parents
  pub few : length parents ≤ most_order
  pub rising : (j : ℕ) → 0 < parent_at parents j → (j < parent_at parents j) × (parent_at parents j ≤ length parents)

-- b is a itself, or above a
pub data IsAbove (parents : List ℕ) : ℕ → ℕ → Type 0 where
  self : {a : ℕ} → IsAbove parents a a
  step : {a b : ℕ} → 0 < parent_at parents a → IsAbove parents (parent_at parents a) b → IsAbove parents a b
