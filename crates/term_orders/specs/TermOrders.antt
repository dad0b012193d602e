-- Two orders of the tasks of a term: from left to right, and with the parts side by side from right to left.
use Rattle.std.specs.Prelude.{ℕ, ◌+◌, List, [], ◌∷◌, ◌++◌}
use Rattle.sp_terms.specs.Term.{Term, hold, series, par, Parts, no_parts, part}
use Rattle.sp_terms.specs.SystemOfTerm.{task_count, own_number}
use Rattle.term_orders.specs.declared.side.Side.{Side}
use Rattle.term_orders.specs.declared.side.Side.TheVariants.{FirstPart, LastPart}

-- the tasks of the part that comes first, and then those of the other parts
abbrev pub in_turn : Side → List ℕ → List ℕ → List ℕ
in_turn FirstPart own others = own ++ others
in_turn LastPart own others = others ++ own

-- the tasks of a term, which are numbered from `base` on: the task of a series stands between those of its parts
abbrev mutual
  pub order_of : Side → ℕ → Term → List ℕ
  order_of side base (hold size) = []
  order_of side base (series a v b) = order_of side base a ++ (own_number base a b ∷ order_of side (base + task_count a) b)
  order_of side base (par ts) = order_of_parts side base ts

  pub order_of_parts : Side → ℕ → Parts → List ℕ
  order_of_parts side base no_parts = []
  order_of_parts side base (part t ts) = in_turn side (order_of side base t) (order_of_parts side (base + task_count t) ts)
