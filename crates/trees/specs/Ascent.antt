-- No public clause names this.
-- Ways up from a node, as the search for a cycle marks them.
use Rattle.std.specs.Prelude.{◌≡◌, ◌≢◌, ◌==◌, ℕ, suc, ◌+◌, ◌-◌, ◌≤◌, List, length, count_by, slice_index_or, ◌⊎◌}
use Rattle.trees.specs.Tree.{ancestor}
use Rattle.trees.specs.declared.node.Node.{Node}

-- how many nodes have no mark
abbrev pub unmarked : List ℕ → ℕ
unmarked marks = count_by (λ m. m == 0) marks

-- The way up from a node was marked with its number, until a root was passed or a mark stood there already: no way along new
-- marks is longer than there are of them.
pub record IsAscent (nodes : List Node) (old new : List ℕ) (from stop : ℕ) : Type 0 where
  pub len : length new ≡ length nodes
  pub within : stop ≤ length nodes
  pub fewer : unmarked new ≤ unmarked old
  pub path : (j : ℕ) × (j + unmarked new ≤ unmarked old) × (ancestor nodes j from ≡ stop)
  pub marked : (w : ℕ) → 1 ≤ w → w ≤ length nodes → slice_index_or new (w - 1) 0 ≡ from
      → (b : ℕ) × (suc b + unmarked new ≤ unmarked old) × (ancestor nodes (suc b) w ≡ stop)
  pub kept : (w : ℕ) → 1 ≤ w → w ≤ length nodes → slice_index_or new (w - 1) 0 ≢ from
      → slice_index_or new (w - 1) 0 ≡ slice_index_or old (w - 1) 0
  pub own : (stop ≡ from) ⊎ (slice_index_or new (from - 1) 0 ≡ from)
