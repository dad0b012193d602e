-- No public clause names this.
-- Rows that grow, as the code holds them: one after the other in one list of numbers, each in a room of its own.
use Rattle.std.specs.Prelude.{◌≡◌, ℕ, ◌+◌, ◌-◌, ◌^◌, ◌<◌, ◌≤◌, List, length, slice_index, slice_range, map}
use Rattle.std.specs.List.{range_with_len}
use Rattle.row_table.specs.Rows.{RowsInRooms}

-- row k goes from its start to its end, and its room to the start of the next
abbrev pub row_in : List ℕ → List ℕ → List ℕ → ℕ → List ℕ
row_in starts ends numbers k = slice_range numbers (slice_index starts k) (slice_index ends k)

abbrev pub room_in : List ℕ → ℕ → ℕ
room_in starts k = slice_index starts (k + 1) - slice_index starts k

abbrev pub rows_in_rooms : List ℕ → List ℕ → List ℕ → RowsInRooms
rows_in_rooms starts ends numbers = record {
  rows = map (row_in starts ends numbers) (range_with_len 0 (length ends));
  rooms = map (room_in starts) (range_with_len 0 (length ends));
}

-- each row ends within its room, and all rooms lie within the list
pub record AreRooms (starts ends numbers : List ℕ) : Type 0 where
  pub starts_len : length starts ≡ length ends + 1
  pub each : (k : ℕ) → k < length ends → (slice_index starts k ≤ slice_index ends k) × (slice_index ends k ≤ slice_index starts (k + 1))
  pub all : slice_index starts (length ends) ≤ length numbers
  pub small : slice_index starts (length ends) < 2 ^ 32
