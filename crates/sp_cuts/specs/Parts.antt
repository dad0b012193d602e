-- Parts as cuts: what the planner's data stands for.
use Rattle.std.specs.Prelude.{◌≡◌, ℕ, ◌+◌, ◌-◌, ◌≤◌, max, min, if◌then◌else◌, nat_le, List, length, map}
use Rattle.std.specs.Bool.{MatchBool}
use Rattle.std.specs.List.{AllByRecursion}
use Rattle.limits.specs.Limits.{most_total}
use Rattle.mp_system.specs.declared.system.Task.{Task}
use Rattle.hill_valley.specs.declared.side.Seg.{Seg}
use Rattle.hill_valley.specs.Side.{HaveRopes, runs_of}
use Rattle.segment_merge.specs.Merging.{segment_count, longest}
use Rattle.cut_laws.specs.Cuts.{Cut, front_peak, back_peak}
use Rattle.cut_laws.specs.Tops.{MeetsAtLeast, BothRise}
use Rattle.sp_cuts.specs.declared.parts.Part.{Part}

-- a part, with the lists that its ropes stand for
abbrev pub cut_of : List (List ℕ) → Part → Cut
cut_of lists p = record { front = runs_of lists p.front; back = runs_of lists p.back; initial = p.initial; fin = p.fin; least = p.least }

-- both sides lead down to the same memory in rising segments, and their ropes are of these
pub record HasSides (lists : List (List ℕ)) (p : Part) : Type 0 where
  pub front_ropes : HaveRopes lists p.front
  pub back_ropes : HaveRopes lists p.back
  pub meets : MeetsAtLeast (cut_of lists p)
  pub rising : BothRise (cut_of lists p)

-- a part with its peak, which is within the limit
pub record IsPart (lists : List (List ℕ)) (p : Part) : Type 0 where
  pub both : HasSides lists p
  pub peak : p.peak ≡ max (front_peak (cut_of lists p)) (back_peak (cut_of lists p))
  pub within : p.peak ≤ most_total

-- ---- a series

-- the memory while a task runs between two parts
abbrev pub hill_between : Part → Task → Part → ℕ
hill_between a v b = a.fin + ((v.extra + b.initial) - v.share)

-- the task can run between the parts: its share is at most what the first one leaves, and at most its extra and what the second one
-- starts with
pub record CanJoin (a : Part) (v : Task) (b : Part) : Type 0 where
  pub inputs : v.share ≤ a.fin
  pub outputs : v.share ≤ v.extra + b.initial
  pub hill : hill_between a v b ≤ most_total

-- how many segments are moved at most: of the side of the part in which the series is cut, and of the side over the hill, which has one
-- segment more than that of the other part, those of the shorter one
abbrev pub moves_between : Part → Part → ℕ
moves_between a b =
    if nat_le a.least b.least then min (length a.back) (length b.back + 1) else min (length b.front) (length a.front + 1)

-- of a side of `whole` segments some are of one side, at least and at most so many, and the others of another one: those of the fewer are
-- counted
pub record CountsFewer (least most whole old new : ℕ) : Type 0 where
  pub own : ℕ
  pub at_least : least ≤ own
  pub at_most : own ≤ most
  pub within : own ≤ whole
  pub counted : new ≡ old + min own (whole - own)

-- the side of a series that goes over the hill has the segments of the near part's side, and one more where the hill is higher
abbrev pub CountsMoves : Part → Part → Part → ℕ → ℕ → Type 0
CountsMoves a b whole old new =
    MatchBool (nat_le a.least b.least) (CountsFewer (length b.back) (length b.back + 1) (length whole.back) old new)
    (CountsFewer (length a.front) (length a.front + 1) (length whole.front) old new)

-- ---- several parts

abbrev pub AreParts : List (List ℕ) → List Part → Type 0
AreParts lists ps = AllByRecursion (IsPart lists) ps

abbrev pub cuts_of : List (List ℕ) → List Part → List Cut
cuts_of lists ps = map (cut_of lists) ps

abbrev pub front_sides : List Part → List (List Seg)
front_sides ps = map (λ p. p.front) ps

abbrev pub backs_of : List Part → List (List Seg)
backs_of ps = map (λ p. p.back) ps

-- how many segments are moved where those of the longest front and of the longest back stay
abbrev pub moves_in : List Part → ℕ
moves_in ps = (segment_count (front_sides ps) - longest (front_sides ps)) + (segment_count (backs_of ps) - longest (backs_of ps))
