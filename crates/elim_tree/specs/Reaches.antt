-- No public clause names this.
-- What a column reaches: the rows after it in its structure.
use Rattle.std.specs.Prelude.{ℕ, ◌<◌, ◌≤◌, Bool, IsTrue}
use Rattle.ordering.specs.Fill.{graph_at}

-- row i is after j in the structure of column j
abbrev pub Reaches : (ℕ → ℕ → Bool) → ℕ → ℕ → Type 0
Reaches joined j i = IsTrue (graph_at joined j j i)

-- p is the first row that column j reaches, or 0 where it reaches none
pub record IsFirstReached (joined : ℕ → ℕ → Bool) (j p : ℕ) : Type 0 where
  pub reached : 0 < p → Reaches joined j p
  pub least : (i : ℕ) → Reaches joined j i → (0 < p) × (p ≤ i)
