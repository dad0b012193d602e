-- A segment put at the end of a side, and a side that goes on over a hill to another.
use Rattle.std.specs.Prelude.{ℕ, ◌+◌, ◌-◌, max, if◌then◌else◌, nat_lt, nat_le, List, [], ◌∷◌}
use Rattle.std.specs.List.{fold}
use Rattle.side_laws.specs.Segments.{Segment}

-- with a segment of this `up` and `net` at the end. One that goes no higher than the last is joined to it
abbrev pub append_segment : ℕ → ℕ → List Segment → List Segment
append_segment up net [] = record { up = up; net = net } ∷ []
append_segment up net (s ∷ []) =
    if nat_lt s.up up then s ∷ record { up = up; net = net } ∷ [] else record { up = s.up; net = s.net + net } ∷ []
append_segment up net (s ∷ t ∷ ss) = s ∷ append_segment up net (t ∷ ss)

-- with the segments of `far` at the end of `near`, one after another
abbrev pub append_segments : List Segment → List Segment → List Segment
append_segments far near = fold (λ ss s. append_segment s.up s.net ss) near far

-- `near` ends at the level `end`. From there the memory goes over a hill up to `hill` and down to `level`, from where `far` leads on.
-- As long as the level is above `end` the way is not lower than it was, so the next segment of `far` belongs to the hill
abbrev pub cross_hill : ℕ → ℕ → ℕ → List Segment → List Segment → List Segment
cross_hill end hill level [] near = append_segment (hill - end) (end - level) near
cross_hill end hill level (s ∷ far) near =
    if nat_le level end
    then append_segments (s ∷ far) (append_segment (hill - end) (end - level) near)
    else cross_hill end (max hill (level + s.up)) (level - s.net) far near
