-- The steps of an order.
use Rattle.std.specs.Prelude.{◌==◌, ℕ, suc, if◌then◌else◌, List, [], ◌∷◌}

-- the step of a task in an order, counted from 0; that of one that does not stand there is past the last
abbrev pub step_of : List ℕ → ℕ → ℕ
step_of [] task = 0
step_of (u ∷ order) task = if u == task then 0 else suc (step_of order task)
