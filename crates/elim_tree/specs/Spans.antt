-- No public clause names this.
-- How a postorder is made: each column and those below it fill a span of places, the column itself at its end, and the spans of the
-- children of a column lie side by side, by rising number. Columns are counted from 1, and n is one more than there are.
use Rattle.std.specs.Prelude.{◌≡◌, ◌==◌, if◌then◌else◌, ℕ, zero, suc, ◌+◌, ◌<◌}

-- how many columns are in the subtrees of those children of p that are less than m, where each column has `below` many below it
unfoldable pub in_children : (ℕ → ℕ) → (ℕ → ℕ) → ℕ → ℕ → ℕ
in_children parent below p zero = 0
in_children parent below p (suc m) =
    (if parent m == p then (if m == 0 then 0 else below m + 1) else 0) + in_children parent below p m

-- how many columns are below each, and how many are in the subtrees of its earlier siblings; all columns are below 0
pub record AreSpanSizes (n : ℕ) (parent below before : ℕ → ℕ) : Type 0 where
  pub sizes : (x : ℕ) → x < n → below x ≡ in_children parent below x n
  pub siblings : (j : ℕ) → 0 < j → j < n → before j ≡ in_children parent below (parent j) j
  pub all : below 0 + 1 ≡ n

-- no two of the columns have one place, and each place is taken; 0 is at 0
pub record ArePlaces (n : ℕ) (place : ℕ → ℕ) : Type 0 where
  pub unused : place 0 ≡ 0
  pub within : (x : ℕ) → x < n → place x < n
  pub apart : (x y : ℕ) → x < n → y < n → place x ≡ place y → x ≡ y
  pub taken : (k : ℕ) → k < n → (x : ℕ) × (x < n) × (place x ≡ k)
