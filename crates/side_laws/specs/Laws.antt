-- The laws, as statements.
use Rattle.std.specs.Prelude.{◌≡◌, ℕ, ◌+◌, ◌-◌, ◌*◌, ◌^◌, ◌<◌, ◌≤◌, max, min, if◌then◌else◌, nat_lt, List, [], ◌∷◌, ◌++◌, ◌↔◌}
use Rattle.std.specs.List.{AllByRecursion, sum_by}
use Rattle.side_laws.specs.Segments.{Segment, net_sum, lowest, top, Passes, last_up, IsRising, IsStuck}
use Rattle.side_laws.specs.Appending.{append_segment, cross_hill}
use Rattle.side_laws.specs.Merging.{insert_segment, insert_segments, merge_segments, AllRising, AreStuckAt, IsLeastTogether}
use Rattle.side_laws.specs.Levels.{AllStart, AreLevels}
use Rattle.side_laws.specs.Counting.{Counted, greatest_of, IsCounted}

-- ---- one side

-- the lowest level lies between the levels before the first and after the last segment
abbrev pub LowestBetween : Type 0
LowestBetween = (limit level : ℕ) (ss : List Segment) → (level - net_sum ss ≤ lowest limit level ss) × (lowest limit level ss ≤ level)

-- more memory leads no less far down
abbrev pub LowestMonotone : Type 0
LowestMonotone = (less more level : ℕ) (ss : List Segment) → less ≤ more → lowest more level ss ≤ lowest less level ss

-- where all pass, the lowest level is the one after the last
abbrev pub LowestAfterAll : Type 0
LowestAfterAll = (limit level : ℕ) (ss : List Segment) → Passes limit level ss → lowest limit level ss ≡ level - net_sum ss

-- the lowest level is where the side is stuck: the segments before pass, and the next one, if there is one, does not
abbrev pub LowestIsStuck : Type 0
LowestIsStuck = (limit level : ℕ) (ss : List Segment)
    → (before : List Segment) × (rest : List Segment) × (ss ≡ before ++ rest) × Passes limit level before
    × (lowest limit level ss ≡ level - net_sum before) × IsStuck limit (level - net_sum before) rest

-- the top is at least the level
abbrev pub TopAboveLevel : Type 0
TopAboveLevel = (level : ℕ) (ss : List Segment) → level ≤ top level ss

-- under a limit above the level, all segments pass exactly where the top is below the limit
abbrev pub TopPasses : Type 0
TopPasses = (limit level : ℕ) (ss : List Segment) → (top level ss < limit) ↔ ((level < limit) × Passes limit level ss)

-- a rising side does not pass below a limit exactly where its last segment goes up by as much as the limit is above where it is stuck
abbrev pub StuckByLast : Type 0
StuckByLast = (limit level : ℕ) (ss : List Segment) → IsRising ss → net_sum ss ≤ level
    → (limit ≤ top level ss) ↔ (limit - lowest limit level ss ≤ last_up ss)

-- ---- a segment at the end

abbrev pub NetOfAppend : Type 0
NetOfAppend = (up net : ℕ) (ss : List Segment) → net_sum (append_segment up net ss) ≡ net_sum ss + net

abbrev pub AppendRises : Type 0
AppendRises = (up net : ℕ) (ss : List Segment) → IsRising ss → IsRising (append_segment up net ss)

-- the level is lower by `net` where all segments before pass and the new one does too, and else it stays
abbrev pub LowestOfAppend : Type 0
LowestOfAppend = (limit level up net : ℕ) (ss : List Segment) → net_sum ss + net ≤ level
    → lowest limit level (append_segment up net ss)
    ≡ (if nat_lt (max (top level ss) (lowest limit level ss + up)) limit then lowest limit level ss - net else lowest limit level ss)

abbrev pub TopOfAppend : Type 0
TopOfAppend = (level up net : ℕ) (ss : List Segment) → net_sum ss + net ≤ level
    → top level (append_segment up net ss) ≡ max (top level ss) (level - net_sum ss + up)

-- ---- a side that goes on over a hill

abbrev pub NetOfCrossing : Type 0
NetOfCrossing = (end hill level : ℕ) (far near : List Segment) → level ≤ end + net_sum far → net_sum far ≤ level
    → net_sum (cross_hill end hill level far near) + level ≡ net_sum near + (end + net_sum far)

abbrev pub CrossingRises : Type 0
CrossingRises = (end hill level : ℕ) (far near : List Segment) → IsRising near → IsRising (cross_hill end hill level far near)

-- where `near` and the hill pass, the lower of the end of `near` and the lowest level of `far`
abbrev pub LowestOfCrossing : Type 0
LowestOfCrossing = (limit start hill level : ℕ) (far near : List Segment)
    → net_sum near ≤ start → start - net_sum near ≤ hill → level ≤ start - net_sum near + net_sum far → net_sum far ≤ level
    → lowest limit start (cross_hill (start - net_sum near) hill level far near)
    ≡ (if nat_lt (max (top start near) hill) limit then min (start - net_sum near) (lowest limit level far) else lowest limit start near)

abbrev pub TopOfCrossing : Type 0
TopOfCrossing = (start hill level : ℕ) (far near : List Segment)
    → net_sum near ≤ start → start - net_sum near ≤ hill → level ≤ hill → level ≤ start - net_sum near + net_sum far → net_sum far ≤ level
    → top start (cross_hill (start - net_sum near) hill level far near) ≡ max (top start near) (max hill (top level far))

-- ---- segments put in at their places

abbrev pub NetOfInsert : Type 0
NetOfInsert = (s : Segment) (ss : List Segment) → net_sum (insert_segment s ss) ≡ net_sum ss + s.net

abbrev pub InsertRises : Type 0
InsertRises = (s : Segment) (ss : List Segment) → IsRising ss → IsRising (insert_segment s ss)

-- a segment that passes may be run before all others
abbrev pub LowestOfInsert : Type 0
LowestOfInsert = (limit level : ℕ) (s : Segment) (ss : List Segment) → level + s.up < limit → s.net + net_sum ss ≤ level
    → lowest limit level (insert_segment s ss) ≡ lowest limit (level - s.net) ss

-- the order in which two segments are put in does not matter
abbrev pub InsertsCommute : Type 0
InsertsCommute = (s t : Segment) (ss : List Segment) → insert_segment s (insert_segment t ss) ≡ insert_segment t (insert_segment s ss)

-- ---- sides merged

abbrev pub NetOfInserts : Type 0
NetOfInserts = (ss es : List Segment) → net_sum (insert_segments ss es) ≡ net_sum ss + net_sum es

abbrev pub MergeRises : Type 0
MergeRises = (sides : List (List Segment)) → IsRising (merge_segments sides)

abbrev pub MergeOfOne : Type 0
MergeOfOne = (ss : List Segment) → IsRising ss → merge_segments (ss ∷ []) ≡ ss

-- the lowest level of the merged side is where all sides together are stuck, whichever of them goes on
abbrev pub LowestOfMerge : Type 0
LowestOfMerge = (limit level : ℕ) (sides : List (List Segment)) → AllRising sides → net_sum (merge_segments sides) ≤ level
    → AreStuckAt limit level sides (lowest limit level (merge_segments sides))

-- the top of the merged side is the least memory within which all sides together pass
abbrev pub TopOfMerge : Type 0
TopOfMerge = (level : ℕ) (sides : List (List Segment)) → AllRising sides → net_sum (merge_segments sides) ≤ level
    → IsLeastTogether level sides (top level (merge_segments sides))

-- where all together are stuck, each side alone is stuck at a level of its own
abbrev pub LevelsOfMerge : Type 0
LevelsOfMerge = (limit others : ℕ) (starts : List ℕ) (sides : List (List Segment)) → AllRising sides → AllStart starts sides
    → (levels : List ℕ) × AreLevels limit others starts sides levels

-- ---- moved segments

-- two parts one after another, where the smaller side is moved: no more segments than either has tasks
abbrev pub MovesOfSeries : Type 0
MovesOfSeries = (m n moved a b : ℕ) → 2 ^ m ≤ a ^ a → 2 ^ n ≤ b ^ b → moved ≤ a → moved ≤ b → 2 ^ (m + n + moved) ≤ (a + b) ^ (a + b)

-- parts side by side, where all but the longest fronts and backs are moved
abbrev pub MovesOfParallel : Type 0
MovesOfParallel = (ps : List Counted) → AllByRecursion IsCounted ps → (moves : ℕ)
    → moves ≤ sum_by (λ p. p.moves) ps + (sum_by (λ p. p.front) ps - greatest_of (λ p. p.front) ps)
    + (sum_by (λ p. p.back) ps - greatest_of (λ p. p.back) ps)
    → 2 ^ moves ≤ sum_by (λ p. p.tasks) ps ^ sum_by (λ p. p.tasks) ps

-- more tasks allow as many moves
abbrev pub MovesOfMoreTasks : Type 0
MovesOfMoreTasks = (moves a b : ℕ) → 2 ^ moves ≤ a ^ a → a ≤ b → 2 ^ moves ≤ b ^ b

-- the measure in binary digits
abbrev pub MovesBounded : Type 0
MovesBounded = (moves tasks d : ℕ) → 2 ^ moves ≤ tasks ^ tasks → tasks < 2 ^ d → moves ≤ tasks * d
