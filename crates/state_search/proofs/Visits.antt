-- How many items and readers are looked at at a state.
use Rattle.std.proofs.Common.{◌≡◌, ◌+◌, ◌<◌, ◌≤◌, ℕ, List, [], ◌∷◌, length, take, refl, arith}
use Rattle.std.specs.List.{sum_by}
use Rattle.std.proofs.lemmas.List.Sums.{sum_by-cons, sum_by_more_le}
use Rattle.shared_systems.specs.Shared.{SharedItem, shared_item_at}
use Rattle.shared_systems.specs.Bounds.{reader_count}
use Rattle.shared_systems.proofs.KeySums.{no_item}
use Rattle.state_search.specs.Shown.{visit_count}

-- all items and all readers
pub all_visits : (items : List SharedItem) → sum_by visit_count items ≡ length items + sum_by reader_count items
all_visits [] = refl
all_visits (x ∷ items) =
    omega (arith, all_visits items, sum_by-cons visit_count x items, sum_by-cons reader_count x items)

-- those of the first items, and of one more
pub visits_fit : (items : List SharedItem) (i : ℕ) → i < length items
    → sum_by visit_count (take i items) + visit_count (shared_item_at items i) ≤ sum_by visit_count items
visits_fit items i lt = sum_by_more_le visit_count items i no_item lt
