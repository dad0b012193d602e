-- No public clause names this.
-- Items as the code holds them: the readers of all stand in one list, one after the other, and each item has the place where its own end.
use Rattle.std.specs.Prelude.{ℕ, zero, suc, ◌+◌, ◌-◌, ◌<◌, ◌≤◌, List, [], ◌∷◌, length, take, drop, slice_index_or}
use Rattle.mp_system.specs.Given.{end_given}
use Rattle.shared_systems.specs.declared.items.Entry.{Entry}
use Rattle.shared_systems.specs.declared.given.GivenSharedItem.{GivenSharedItem}
use Rattle.shared_systems.specs.Shared.{SharedItem}

-- the readers of the first begin at the place `start`, and those of each other where those of the one before end
abbrev pub stored_items : ℕ → List Entry → List ℕ → List SharedItem
stored_items start [] readers = []
stored_items start (x ∷ xs) readers =
    record { size = x.size; from = end_given x.from; readers = take (x.end - start) (drop start readers) } ∷ stored_items x.end xs readers

-- where the readers of the item at a place end, and where they begin
abbrev pub end_at : List Entry → ℕ → ℕ
end_at xs i = (slice_index_or xs i (record { size = 0; from = 0; end = 0 })).end

abbrev pub start_at : List Entry → ℕ → ℕ
start_at xs zero = 0
start_at xs (suc i) = end_at xs i

-- the ends rise, and none is past the last reader
pub record AreStored (xs : List Entry) (readers : List ℕ) : Type 0 where
  pub rising : (i : ℕ) → i < length xs → start_at xs i ≤ end_at xs i
  pub within : (i : ℕ) → i < length xs → end_at xs i ≤ length readers

-- the entries of given items, whose readers begin at the place `start`
abbrev pub entries_of : ℕ → List GivenSharedItem → List Entry
entries_of start [] = []
entries_of start (x ∷ xs) = record { size = x.size; from = x.from; end = start + x.readers } ∷ entries_of (start + x.readers) xs
