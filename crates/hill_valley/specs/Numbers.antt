-- The numbers of segments without their tasks, and the first segments of a side.
use Rattle.std.specs.Prelude.{ℕ, ◌-◌, if◌then◌else◌, nat_le, List, [], ◌∷◌, map}
use Rattle.side_laws.specs.Segments.{Segment}
use Rattle.hill_valley.specs.declared.numbers.Numbers.{Numbers}

abbrev pub segments_listed : List Numbers → List Segment
segments_listed ns = map (λ n. record { up = n.up; net = n.net }) ns

-- the first segments of a side that is run from this level, as long as they start at `stop` or above
abbrev pub first_down_to : ℕ → ℕ → List Segment → List Segment
first_down_to stop level [] = []
first_down_to stop level (s ∷ ss) = if nat_le stop level then s ∷ first_down_to stop (level - s.net) ss else []
