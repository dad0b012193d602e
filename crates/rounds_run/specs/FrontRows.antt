-- The row list of a front: the structure of the first column of its supernode in the filled graph (crate `ordering`, `Fill`). Duff and
-- Reid, The multifrontal solution of indefinite sparse symmetric linear equations, 1983; Liu, The multifrontal method, 1992.
use Rattle.std.specs.Prelude.{ℕ, ◌-◌, Bool, List, [], filter, slice_index_or}
use Rattle.std.specs.List.{range_with_len}
use Rattle.ordering.specs.Fill.{structure_of}

-- of n columns, the rows of column j in the filled graph, in rising order
abbrev pub rows_of_front : (ℕ → ℕ → Bool) → ℕ → ℕ → List ℕ
rows_of_front joined n j = filter (structure_of joined j) (range_with_len 1 n)

-- the list of a supernode, where they are listed by number, from 1
abbrev pub list_of_front : List (List ℕ) → ℕ → List ℕ
list_of_front lists s = slice_index_or lists (s - 1) []
