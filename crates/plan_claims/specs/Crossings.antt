-- No public clause names this.
-- What a series' side that goes over its task does, in numbers, and what is wanted of the parts.
use Rattle.std.specs.Prelude.{◌≡◌, ℕ, ◌+◌, ◌-◌, ◌<◌, ◌≤◌, ◌↔◌, max, min, if◌then◌else◌, nat_lt, MatchOption, List, Option, Some, None}
use Rattle.sp_terms.specs.Term.{Direction, forward, backward}
use Rattle.sp_term_laws.specs.Moves.{other}
use Rattle.plans.specs.Plan.{direction_of}
use Rattle.side_laws.specs.Segments.{Segment, lowest, last_up}
use Rattle.hill_valley.specs.Numbers.{first_down_to}
use Rattle.hill_valley.specs.Side.{run_profile}
use Rattle.cut_laws.specs.Cuts.{Cut, side_of, start_of, top_of, lowest_of}
use Rattle.sp_cuts.specs.declared.notes.SeriesNote.{SeriesNote}
use Rattle.plan_claims.specs.declared.wanted.Wanted.{Wanted}
use Rattle.plan_claims.specs.Wants.{ShowsIf}

-- how high the last run of a side goes
abbrev pub up_of : Direction → Cut → ℕ
up_of d c = last_up (run_profile (side_of d c))

-- ---- what was noted

-- the direction whose side goes over the task
abbrev pub note_direction : SeriesNote → Direction
note_direction n = if n.in_first then backward else forward

-- in direction d the side goes over the near part's other side, and on along the far part's
pub record IsCrossing (d : Direction) (near far : Cut) (n : SeriesNote) (between beyond : List Segment) : Type 0 where
  pub near_up : n.near_up ≡ up_of d near
  pub least_is : n.near_least ≡ near.least
  pub between_start : n.between_start ≡ start_of (other d) near
  pub between_is : between ≡ run_profile (side_of (other d) near)
  pub far_start : n.far_start ≡ start_of d far
  pub beyond_is : beyond ≡ first_down_to (near.least + 1) (start_of d far) (run_profile (side_of d far))

-- ---- what the side does

-- in direction d the whole goes over the near part and the hill, and on along the far part; in the other one it is the far part
pub record LeadsOver (d : Direction) (near far whole : Cut) (hill : ℕ) : Type 0 where
  pub far_top : top_of (other d) whole ≡ top_of (other d) far
  pub far_low : (limit : ℕ) → lowest_of (other d) limit whole ≡ lowest_of (other d) limit far
  pub top_is : top_of d whole ≡ max (top_of d near) (max (max (top_of (other d) near) hill) (top_of d far))
  pub low_is : (limit : ℕ) → lowest_of d limit whole
      ≡ (if nat_lt (max (top_of d near) (max (top_of (other d) near) hill)) limit then min near.least (lowest_of d limit far)
      else lowest_of d limit near)
  pub near_low : (limit : ℕ) → top_of d near < limit → lowest_of d limit near ≡ near.least
  -- whether the near part's sides pass, from how high they go last
  pub near_stuck : (limit : ℕ) → (limit ≤ top_of d near) ↔ (limit - lowest_of d limit near ≤ up_of d near)
  pub turned_stuck : (limit : ℕ) → (limit ≤ top_of (other d) near) ↔ (limit - lowest_of (other d) limit near ≤ up_of (other d) near)

-- the first thing on the way that does not pass below the limit
pub data IsObstacle (d : Direction) (near : Cut) (hill : ℕ) (w : Wanted) (p q : Option Wanted) : Type 0 where
  far_stuck : direction_of w.dir ≡ other d → p ≡ None → q ≡ Some w → IsObstacle d near hill w p q
  near_stuck : direction_of w.dir ≡ d → p ≡ Some w → q ≡ None → IsObstacle d near hill w p q
  near_closed : direction_of w.dir ≡ d → w.low ≤ near.least → (v : Wanted) → p ≡ Some v → q ≡ None → direction_of v.dir ≡ other d
      → v.limit ≡ w.limit → IsObstacle d near hill w p q
  hill_above : direction_of w.dir ≡ d → w.low ≤ near.least → p ≡ None → q ≡ None → w.limit ≤ hill → IsObstacle d near hill w p q
  last_stuck : direction_of w.dir ≡ d → w.low ≤ near.least → (v : Wanted) → p ≡ None → q ≡ Some v → direction_of v.dir ≡ d
      → v.limit ≡ w.limit → w.low ≤ v.low → IsObstacle d near hill w p q

-- where the near part's other side is stuck below the limit
abbrev pub turned_low : ℕ → List Segment → Wanted → ℕ
turned_low start between w = lowest w.limit start between

-- what is wanted of the near part in the other direction: that side at the same limit, if it does not pass
abbrev pub IsTurned : ℕ → List Segment → Wanted → Option Wanted → Type 0
IsTurned start between w v =
    MatchOption v (last_up between < w.limit - turned_low start between w)
    (λ x. (w.limit - turned_low start between w ≤ last_up between) × (direction_of x.dir ≡ other (direction_of w.dir))
    × (x.limit ≡ w.limit) × (x.low ≡ turned_low start between w))

-- what is wanted of the near part and of the far one
pub record AreHandedOver (d : Direction) (near far : Cut) (hill : ℕ) (w : Wanted) (p q : Option Wanted) : Type 0 where
  pub near_shows : ShowsIf near p
  pub far_shows : ShowsIf far q
  pub obstacle : IsObstacle d near hill w p q
