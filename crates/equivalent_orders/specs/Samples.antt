-- No public clause names this.
-- Worked examples: the arrow by minimum degree, and in another order of its fronts.
use Rattle.std.specs.Prelude.{◌≡◌, ℕ, List, [], ◌∷◌, map, refl}
use Rattle.std.specs.List.{range_with_len}
use Rattle.ordering.specs.Fill.{eliminate, graph_at}
use Rattle.ordering.specs.Samples.{arrow, turned}
use Rattle.assembly_tree.specs.Samples.{turned_arrow}
use Rattle.equivalent_orders.specs.Fronts.{vertices_in_front, vertices_along}
use Rattle.equivalent_orders.specs.Orders.{parent_vertex, column_count}

-- 2 and 3 have a front each, and 1 and 4 one together
pub arrow_vertices : map (vertices_in_front turned turned_arrow) (1 ∷ 2 ∷ 3 ∷ []) ≡ (2 ∷ []) ∷ (3 ∷ []) ∷ (1 ∷ 4 ∷ []) ∷ []
arrow_vertices = refl

-- the second front first
pub arrow_order : vertices_along turned turned_arrow (2 ∷ 1 ∷ 3 ∷ []) ≡ 3 ∷ 2 ∷ 1 ∷ 4 ∷ []
arrow_order = refl

-- the parents and the counts of the vertices 1 to 4
abbrev pub columns_by_vertex : List ℕ → List ℕ × List ℕ
columns_by_vertex order = (map (parent_vertex arrow order) (range_with_len 1 4), map (column_count arrow order) (range_with_len 1 4))

-- they are the same in both orders
pub arrow_columns : columns_by_vertex turned ≡ (4 ∷ 1 ∷ 1 ∷ 0 ∷ [], 2 ∷ 2 ∷ 2 ∷ 1 ∷ [])
unfolding graph_at eliminate
arrow_columns = refl

pub other_arrow_columns : columns_by_vertex (3 ∷ 2 ∷ 1 ∷ 4 ∷ []) ≡ (4 ∷ 1 ∷ 1 ∷ 0 ∷ [], 2 ∷ 2 ∷ 2 ∷ 1 ∷ [])
unfolding graph_at eliminate
other_arrow_columns = refl

-- with 1 before 2 and 3, its children, everything is filled in
pub full_arrow_columns : columns_by_vertex (1 ∷ 2 ∷ 3 ∷ 4 ∷ []) ≡ (2 ∷ 3 ∷ 4 ∷ 0 ∷ [], 4 ∷ 3 ∷ 2 ∷ 1 ∷ [])
unfolding graph_at eliminate
full_arrow_columns = refl
