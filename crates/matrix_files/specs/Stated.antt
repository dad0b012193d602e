-- No public clause names this.
-- What the lines of a matrix file state: its order and the pairs of its entries, within the limits.
use Rattle.std.specs.Prelude.{◌≡◌, ℕ, ◌≤◌, List, length, All}
use Rattle.limits.specs.Limits.{most_order, most_entries}
use Rattle.mp_text.specs.declared.layout.Layout.TheVariants.{Banner}
use Rattle.mp_text.specs.Ahead.{rows_of_bytes, past_of_bytes}
use Rattle.mp_text.specs.Grammar.{IsWellFormed}
use Rattle.patterns.specs.Pattern.{IsPairWithin}
use Rattle.matrix_files.specs.MatrixFile.{matrix_format, order_stated, pairs_stated}

pub record AreStated (bytes : List ℕ) (order : ℕ) (pairs : List (ℕ × ℕ)) : Type 0 where
  pub form : IsWellFormed matrix_format (rows_of_bytes Banner bytes) (past_of_bytes bytes)
  pub order_is : order ≡ order_stated (rows_of_bytes Banner bytes)
  pub pairs_are : pairs ≡ pairs_stated (rows_of_bytes Banner bytes)
  pub some : 1 ≤ order
  pub small : order ≤ most_order
  pub few : length pairs ≤ most_entries
  pub within : All (IsPairWithin order) pairs
