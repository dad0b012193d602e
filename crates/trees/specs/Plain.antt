-- No public clause names this.
-- Nodes whose parents have greater numbers, so that they lead to roots, and that have no share.
use Rattle.std.specs.Prelude.{◌≡◌, ℕ, ◌+◌, ◌<◌, List, length, slice_index_or, ◌⊎◌}
use Rattle.trees.specs.declared.node.Node.{Node}

pub record IsPlainAt (v : ℕ) (node : Node) : Type 0 where
  pub rises : (node.parent ≡ 0) ⊎ (v < node.parent)
  pub no_share : node.share ≡ 0

abbrev pub IsPlain : List Node → Type 0
IsPlain nodes = (i : ℕ) (d : Node) → i < length nodes → IsPlainAt (i + 1) (slice_index_or nodes i d)
