-- No public clause names this.
-- How parents are kept: by column, with a place for column 0.
use Rattle.std.specs.Prelude.{◌≡◌, ℕ, ◌<◌, List, length, drop, slice_index}
use Rattle.elim_tree.specs.Trees.{IsForest}

-- the parents of a table
abbrev pub parents_in : List ℕ → List ℕ
parents_in table = drop 1 table

-- place 0 is there and holds 0
pub record IsParentTable (table : List ℕ) : Type 0 where
  pub some : 0 < length table
  pub unused : slice_index table 0 ≡ 0
  pub forest : IsForest (parents_in table)
