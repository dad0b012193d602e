-- Grids: a vertex for each row and column, both counted from 0.
use Rattle.std.specs.Prelude.{ℕ, ◌+◌, ◌*◌, nat_lt, if◌then◌else◌, List, [], ◌∷◌, ◌++◌}
use Rattle.std.specs.List.{flat_map, range_with_len}

-- the number of a vertex
abbrev pub grid_vertex : ℕ → ℕ → ℕ → ℕ
grid_vertex cols row col = row * cols + col + 1

-- a vertex and its right neighbour, a vertex and its lower neighbour, where there is one
unfoldable pub joins_at : ℕ → ℕ → ℕ → ℕ → List (ℕ × ℕ)
joins_at rows cols row col =
    (if nat_lt (col + 1) cols then (grid_vertex cols row col, grid_vertex cols row (col + 1)) ∷ [] else [])
    ++ (if nat_lt (row + 1) rows then (grid_vertex cols row col, grid_vertex cols (row + 1) col) ∷ [] else [])

-- those of all vertices in a row
unfoldable pub joins_in_row : ℕ → ℕ → ℕ → List (ℕ × ℕ)
joins_in_row rows cols row = flat_map (joins_at rows cols row) (range_with_len 0 cols)

-- those of all vertices
unfoldable pub grid_pairs : ℕ → ℕ → List (ℕ × ℕ)
grid_pairs rows cols = flat_map (joins_in_row rows cols) (range_with_len 0 rows)
