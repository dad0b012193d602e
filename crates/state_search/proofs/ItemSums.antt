-- Sizes of the first items that pass a test.
use Rattle.std.proofs.Common.{ℕ, ◌+◌, ◌<◌, ◌≤◌, Bool, List, length, take}
use Rattle.std.specs.List.{sum_by}
use Rattle.std.proofs.lemmas.List.Sums.{sum_by_more_le_part}
use Rattle.shared_systems.specs.Shared.{SharedItem, shared_item_at, shared_size_if, shared_size_where}
use Rattle.shared_systems.specs.Bounds.{shared_size}
use Rattle.shared_systems.proofs.KeySums.{no_item, part-le}

pub size_fits : (test : SharedItem → Bool) (items : List SharedItem) (i : ℕ) → i < length items
    → shared_size_where test (take i items) + (shared_item_at items i).size ≤ sum_by shared_size items
size_fits test items i lt = sum_by_more_le_part (shared_size_if test) shared_size items i no_item lt (part-le test)
