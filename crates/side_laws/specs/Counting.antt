-- How many segments are moved when parts are made of smaller parts, and the smaller side is moved into the larger each time.
-- The measure is 2 ^ moves ≤ tasks ^ tasks: then fewer than 2 ^ d tasks need at most d moves each.
use Rattle.std.specs.Prelude.{ℕ, ◌+◌, ◌^◌, ◌≤◌, max, List, [], ◌∷◌}

-- a part: how many segments its making moved, how many tasks it has, and how many segments its two sides have
pub record Counted : Type 0 where
  pub moves : ℕ
  pub tasks : ℕ
  pub front : ℕ
  pub back : ℕ

-- the greatest of these numbers, and 0 where there is none
abbrev pub greatest_of : {X : Type 0} → (X → ℕ) → List X → ℕ
greatest_of f [] = 0
greatest_of f (x ∷ xs) = max (f x) (greatest_of f xs)

-- few moves for its tasks, and no more segments than tasks
abbrev pub IsCounted : Counted → Type 0
IsCounted p = (2 ^ p.moves ≤ p.tasks ^ p.tasks) × (p.front + p.back ≤ p.tasks)
