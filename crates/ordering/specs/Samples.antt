-- No public clause names this.
-- Worked examples: parents and counts of small patterns, and minimum degree orders.
use Rattle.std.specs.Prelude.{◌≡◌, ◌==◌, ℕ, Bool, true, false, ◌&&◌, ◌||◌, List, [], ◌∷◌, map, refl}
use Rattle.std.specs.List.{range_with_len, list_any}
use Rattle.permutations.specs.Perm.{vertex_at, place_of}
use Rattle.elimination.specs.Elimination.{eliminated, degree_of}
use Rattle.ordering.specs.MinimumDegree.{plain_order}
use Rattle.ordering.specs.Fill.{eliminate, graph_at, filled, structure_of, renumbered, parents_of, counts_of}

-- the pattern of some pairs
abbrev pub joined_by : List (ℕ × ℕ) → ℕ → ℕ → Bool
joined_by pairs a b = list_any (λ pair. (pair.0 == a && pair.1 == b) || (pair.0 == b && pair.1 == a)) pairs

-- ---- an order and its places

abbrev pub turned : List ℕ
turned = 2 ∷ 3 ∷ 1 ∷ 4 ∷ []

pub turned_vertices : map (vertex_at turned) (range_with_len 0 6) ≡ 0 ∷ 2 ∷ 3 ∷ 1 ∷ 4 ∷ 0 ∷ []
turned_vertices = refl

pub turned_places : map (place_of turned) (range_with_len 0 6) ≡ 0 ∷ 3 ∷ 1 ∷ 2 ∷ 4 ∷ 0 ∷ []
turned_places = refl

-- ---- the arrow: 1 is joined to 2, 3 and 4. Eliminated first, it fills everything in; third, nothing

-- the parents and the counts of four columns
abbrev pub columns_of : (ℕ → ℕ → Bool) → List ℕ × List ℕ
columns_of joined = (parents_of joined 4, counts_of joined 4)

abbrev pub arrow : ℕ → ℕ → Bool
arrow = joined_by ((1, 2) ∷ (1, 3) ∷ (1, 4) ∷ [])

pub arrow_columns : columns_of arrow ≡ (2 ∷ 3 ∷ 4 ∷ 0 ∷ [], 4 ∷ 3 ∷ 2 ∷ 1 ∷ [])
unfolding graph_at eliminate
arrow_columns = refl

pub turned_arrow_columns : columns_of (renumbered arrow turned) ≡ (3 ∷ 3 ∷ 4 ∷ 0 ∷ [], 2 ∷ 2 ∷ 2 ∷ 1 ∷ [])
unfolding graph_at eliminate
turned_arrow_columns = refl

-- ---- two disjoint pairs, side by side and crossed

pub two_pairs_columns : columns_of (joined_by ((1, 2) ∷ (3, 4) ∷ [])) ≡ (2 ∷ 0 ∷ 4 ∷ 0 ∷ [], 2 ∷ 1 ∷ 2 ∷ 1 ∷ [])
unfolding graph_at eliminate
two_pairs_columns = refl

pub crossed_pairs_columns : columns_of (joined_by ((1, 3) ∷ (2, 4) ∷ [])) ≡ (3 ∷ 4 ∷ 0 ∷ 0 ∷ [], 2 ∷ 2 ∷ 1 ∷ 1 ∷ [])
unfolding graph_at eliminate
crossed_pairs_columns = refl

-- ---- the grid of 2 by 2: 1 and 4 stand across, as 2 and 3 do. The elimination of 1 joins 2 and 3

abbrev pub grid : ℕ → ℕ → Bool
grid = joined_by ((1, 2) ∷ (1, 3) ∷ (2, 4) ∷ (3, 4) ∷ [])

pub grid_structures : map (λ j. map (structure_of grid j) (range_with_len 1 4)) (range_with_len 1 4)
    ≡ (true ∷ true ∷ true ∷ false ∷ []) ∷ (false ∷ true ∷ true ∷ true ∷ [])
    ∷ (false ∷ false ∷ true ∷ true ∷ []) ∷ (false ∷ false ∷ false ∷ true ∷ []) ∷ []
unfolding graph_at eliminate
grid_structures = refl

pub grid_columns : columns_of grid ≡ (2 ∷ 3 ∷ 4 ∷ 0 ∷ [], 3 ∷ 3 ∷ 2 ∷ 1 ∷ [])
unfolding graph_at eliminate
grid_columns = refl

-- the pair 2 3 is filled in
pub grid_filled : filled grid 2 2 3 ≡ true
unfolding filled
grid_filled = refl

-- ---- minimum degree

-- the arrow: its middle goes third, when it has one neighbour left, since it has the lower number
pub arrow_order : plain_order arrow 4 ≡ turned
unfolding eliminate
arrow_order = refl

-- the grid, step by step: how many neighbours each vertex has once these were eliminated
abbrev pub degrees_after : List ℕ → List ℕ
degrees_after gone = map (degree_of (eliminated grid gone) 4) (range_with_len 1 4)

pub grid_degrees : map degrees_after ([] ∷ (1 ∷ []) ∷ (1 ∷ 2 ∷ []) ∷ (1 ∷ 2 ∷ 3 ∷ []) ∷ [])
    ≡ (2 ∷ 2 ∷ 2 ∷ 2 ∷ []) ∷ (0 ∷ 2 ∷ 2 ∷ 2 ∷ []) ∷ (0 ∷ 0 ∷ 1 ∷ 1 ∷ []) ∷ (0 ∷ 0 ∷ 0 ∷ 0 ∷ []) ∷ []
unfolding eliminate
grid_degrees = refl

pub grid_order : plain_order grid 4 ≡ 1 ∷ 2 ∷ 3 ∷ 4 ∷ []
unfolding eliminate
grid_order = refl

-- a path of three, and a triangle that hangs on it: 1 - 2 - 3, and 3, 4 and 5 joined to each other
abbrev pub kite : ℕ → ℕ → Bool
kite = joined_by ((1, 2) ∷ (2, 3) ∷ (3, 4) ∷ (3, 5) ∷ (4, 5) ∷ [])

pub kite_order : plain_order kite 5 ≡ 1 ∷ 2 ∷ 3 ∷ 4 ∷ 5 ∷ []
unfolding eliminate
kite_order = refl
