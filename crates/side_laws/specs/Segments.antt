-- Segments that lead from a level of memory down to a lower one, each over a hill to a valley.
-- Source: J. W. H. Liu, An application of generalized tree pebbling to sparse matrix factorization, 1987.
use Rattle.std.specs.Prelude.{ℕ, ◌+◌, ◌-◌, ◌<◌, ◌≤◌, max, if◌then◌else◌, nat_lt, List, [], ◌∷◌, ⊤}

-- `up` is the greatest memory of the segment above the level at which it starts, `net` is how much lower it ends
pub record Segment : Type 0 where
  pub up : ℕ
  pub net : ℕ

-- how much lower the level is after all of them
abbrev pub net_sum : List Segment → ℕ
net_sum [] = 0
net_sum (s ∷ ss) = s.net + net_sum ss

-- run from this level, the memory of all of them stays below the limit
abbrev pub Passes : ℕ → ℕ → List Segment → Type 0
Passes limit level [] = ⊤
Passes limit level (s ∷ ss) = (level + s.up < limit) × Passes limit (level - s.net) ss

-- the level at which the next segment would reach the limit, or the level after the last
abbrev pub lowest : ℕ → ℕ → List Segment → ℕ
lowest limit level [] = level
lowest limit level (s ∷ ss) = if nat_lt (level + s.up) limit then lowest limit (level - s.net) ss else level

-- the greatest of the level and of the memories that the segments reach
abbrev pub top : ℕ → List Segment → ℕ
top level [] = level
top level (s ∷ ss) = max (level + s.up) (top (level - s.net) ss)

-- the `up` of the last segment, and 0 where there is none
abbrev pub last_up : List Segment → ℕ
last_up [] = 0
last_up (s ∷ []) = s.up
last_up (s ∷ t ∷ ss) = last_up (t ∷ ss)

-- the first segment, if there is one, goes higher than `up`
abbrev pub StartsAbove : ℕ → List Segment → Type 0
StartsAbove up [] = ⊤
StartsAbove up (s ∷ ss) = up < s.up

-- the `up` values rise strictly
abbrev pub IsRising : List Segment → Type 0
IsRising [] = ⊤
IsRising (s ∷ ss) = StartsAbove s.up ss × IsRising ss

-- the next segment, if there is one, would reach the limit
abbrev pub IsStuck : ℕ → ℕ → List Segment → Type 0
IsStuck limit level [] = ⊤
IsStuck limit level (s ∷ ss) = limit ≤ level + s.up
