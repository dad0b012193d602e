-- No public clause names this.
-- The levels at which parts side by side are stuck, from what was noted of them, and what is wanted of the parts.
use Rattle.std.specs.Prelude.{ℕ, ◌+◌, ◌-◌, ◌≤◌, if◌then◌else◌, nat_lt, nat_le, List, [], ◌∷◌, take, drop, length, Option, Some, None, ⊤}
use Rattle.limits.specs.Limits.{most_total}
use Rattle.side_laws.specs.Segments.{Segment, net_sum}
use Rattle.sp_terms.specs.Term.{Direction, forward, backward}
use Rattle.plans.specs.Plan.{direction_of}
use Rattle.sp_cuts.specs.declared.notes.PartNote.{PartNote}
use Rattle.plan_claims.specs.declared.wanted.Wanted.{Wanted}

-- the level above this one from which the segments that go up by `over` or more lead down
abbrev pub kept_level : ℕ → ℕ → List Segment → ℕ
kept_level over level [] = level
kept_level over level (s ∷ ss) = kept_level over (if nat_lt s.up over then level else level + s.net) ss

-- ---- a part, whose segments stand first

abbrev pub noted_side : Direction → PartNote → List Segment → List Segment
noted_side forward n gone = take n.front gone
noted_side backward n gone = take n.back (drop n.front gone)

abbrev pub noted_up : Direction → PartNote → ℕ
noted_up forward n = n.front_up
noted_up backward n = n.back_up

-- the level of a part that was read, where the whole is stuck at `over` below the limit
abbrev pub noted_level : Direction → ℕ → PartNote → List Segment → ℕ
noted_level d over n gone = kept_level over n.least (noted_side d n gone)

-- they are there, and lead down from within the limit
pub record HasPlace (n : PartNote) (gone : List Segment) : Type 0 where
  pub there : n.front + n.back ≤ length gone
  pub front : n.least + net_sum (take n.front gone) ≤ most_total
  pub back : n.least + net_sum (take n.back (drop n.front gone)) ≤ most_total

-- ---- the parts, whose segments stand one after the other

-- how many these are
abbrev pub counted : List PartNote → ℕ
counted [] = 0
counted (n ∷ ns) = (n.front + n.back) + counted ns

abbrev pub HavePlaces : List PartNote → List Segment → Type 0
HavePlaces [] gone = ⊤
HavePlaces (n ∷ ns) gone = HasPlace n gone × HavePlaces ns (drop (n.front + n.back) gone)

-- the total, less the levels of the parts that were read
abbrev pub left_over : Direction → ℕ → ℕ → List PartNote → List Segment → ℕ
left_over d over total [] gone = total
left_over d over total (n ∷ ns) gone =
    left_over d over (total - (if n.read then noted_level d over n gone else 0)) ns (drop (n.front + n.back) gone)

-- what is wanted of a part at a level: below a limit of its own, which is as far above the level as the whole's limit is above where the
-- whole is stuck. The part does not pass below it where its side goes up by as much
abbrev pub wanted_at : Wanted → PartNote → ℕ → Option Wanted
wanted_at w n level =
    if nat_le (w.limit - w.low) (noted_up (direction_of w.dir) n)
    then Some (record { dir = w.dir; limit = w.limit - (w.low - level); low = level })
    else None

-- the part that was not read has what is left over
abbrev pub wanted_each : Wanted → ℕ → ℕ → List PartNote → List Segment → List (Option Wanted)
wanted_each w over rest [] gone = []
wanted_each w over rest (n ∷ ns) gone =
    wanted_at w n (if n.read then noted_level (direction_of w.dir) over n gone else rest)
    ∷ wanted_each w over rest ns (drop (n.front + n.back) gone)
