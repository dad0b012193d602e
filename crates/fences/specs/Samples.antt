-- No public clause names this.
-- Worked examples: a tree of five nodes, with no fence, with one, and with fences along an order; and items that are there from the start.
-- Each time amounts certify what some moment uses, so no amounts certify less.
use Rattle.std.specs.Prelude.{◌≡◌, ℕ, Some, None, List, [], ◌∷◌, ◌++◌, map, refl}
use Rattle.mp_system.specs.System.{TaskSystem}
use Rattle.mp_system.specs.Samples.{tree, task, item}
use Rattle.fences.specs.Moments.{numbers_of, used_memory}
use Rattle.fences.specs.Runs.{first_moment, moment_after_all}
use Rattle.fences.specs.Runs.Change.{starts, ends}
use Rattle.fences.specs.Amounts.{received_by, handed_on_by, drawn_by, certified_bound}
use Rattle.fences.specs.Fences.{fence, chained}

-- both leaves run at once
pub both_leaves : used_memory tree (moment_after_all first_moment (starts 1 ∷ starts 3 ∷ [])) ≡ 20
both_leaves = refl

-- each leaf hands all its memory on to the node above it, and that to the root
abbrev pub all_of_it : List ℕ
all_of_it = 10 ∷ 10 ∷ 10 ∷ 10 ∷ 0 ∷ []

pub received : map (received_by tree all_of_it) (numbers_of tree) ≡ 0 ∷ 10 ∷ 0 ∷ 10 ∷ 20 ∷ []
received = refl

pub handed_on : map (handed_on_by tree all_of_it) (numbers_of tree) ≡ 10 ∷ 10 ∷ 10 ∷ 10 ∷ 0 ∷ []
handed_on = refl

-- so only the leaves draw
pub drawn : map (drawn_by tree all_of_it) (numbers_of tree) ≡ 10 ∷ 0 ∷ 10 ∷ 0 ∷ 0 ∷ []
drawn = refl

pub certified : certified_bound tree all_of_it ≡ 20
certified = refl

-- where only the sizes are handed on, each leaf and each node above one draws too
pub certified_by_sizes : certified_bound tree (1 ∷ 5 ∷ 1 ∷ 5 ∷ 0 ∷ []) ≡ 30
certified_by_sizes = refl

-- the second leaf waits for the first, and so runs beside the node above that at worst
abbrev pub fenced : TaskSystem
fenced = record { tasks = tree.tasks; items = tree.items ++ fence 1 3 ∷ [] }

pub leaf_and_node : used_memory fenced (moment_after_all first_moment (starts 1 ∷ ends 1 ∷ starts 2 ∷ starts 3 ∷ [])) ≡ 16
leaf_and_node = refl

-- the first leaf hands 10 on over the fence, and 6 to the node above it
pub certified_of_fenced : certified_bound fenced (6 ∷ 6 ∷ 10 ∷ 10 ∷ 0 ∷ 10 ∷ []) ≡ 16
certified_of_fenced = refl

-- along the order 1, 3, 2, 4, 5, whose peak is 11
pub certified_of_chained : certified_bound (chained tree (1 ∷ 3 ∷ 2 ∷ 4 ∷ 5 ∷ [])) (1 ∷ 5 ∷ 1 ∷ 5 ∷ 0 ∷ 10 ∷ 9 ∷ 5 ∷ 1 ∷ []) ≡ 11
certified_of_chained = refl

-- blocks of 7 and 2 that are there from the start are taken up by two tasks, which need 1 and 4; a block of 3 stays
abbrev pub stocked : TaskSystem
stocked = record {
  tasks = task 1 0 ∷ task 4 0 ∷ [];
  items = item 7 None (Some 1) ∷ item 2 None (Some 2) ∷ item 3 None None ∷ [];
}

pub both_at_once : used_memory stocked (moment_after_all first_moment (starts 1 ∷ starts 2 ∷ [])) ≡ 17
both_at_once = refl

pub certified_of_stocked : certified_bound stocked (7 ∷ 2 ∷ 3 ∷ []) ≡ 17
certified_of_stocked = refl
