-- Several sides merged into one, and what merging is: going down all of them, always by the first segment that is left of one.
-- Source: Liu 1987, where the segments of all subtrees are merged by what they need above the level.
use Rattle.std.specs.Prelude.{◌≡◌, ℕ, ◌+◌, ◌-◌, ◌<◌, ◌≤◌, List, [], ◌∷◌, ◌⊎◌}
use Rattle.std.specs.List.{AllByRecursion}
use Rattle.std.specs.Ordering.{nat_cmp, match_ordering}
use Rattle.side_laws.specs.Segments.{Segment, net_sum, Passes, IsStuck, IsRising}

-- with one more segment at its place by `up`. One of the same `up` is joined with it
abbrev pub insert_segment : Segment → List Segment → List Segment
insert_segment s [] = s ∷ []
insert_segment s (e ∷ es) =
    match_ordering (nat_cmp s.up e.up) (s ∷ e ∷ es) (record { up = e.up; net = e.net + s.net } ∷ es) (e ∷ insert_segment s es)

abbrev pub insert_segments : List Segment → List Segment → List Segment
insert_segments [] es = es
insert_segments (s ∷ ss) es = insert_segment s (insert_segments ss es)

-- the segments of all sides in rising order of `up`
abbrev pub merge_segments : List (List Segment) → List Segment
merge_segments [] = []
merge_segments (side ∷ sides) = insert_segments side (merge_segments sides)

-- x is the first of one of the lists, and `next` are the lists without it
abbrev pub TakesFirst : {X : Type 0} → List (List X) → X → List (List X) → Type 0
TakesFirst [] x next = ⊥
TakesFirst (xs ∷ lists) x [] = ⊥
TakesFirst (xs ∷ lists) x (rest ∷ next) = ((xs ≡ x ∷ rest) × (lists ≡ next)) ⊎ ((xs ≡ rest) × TakesFirst lists x next)

-- each of `run` in turn is the first that is left of one of the lists, and `rests` is what is left after them
abbrev pub TakesAll : {X : Type 0} → List (List X) → List X → List (List X) → Type 0
TakesAll lists [] rests = lists ≡ rests
TakesAll {X} lists (x ∷ run) rests = (next : List (List X)) × TakesFirst lists x next × TakesAll next run rests

abbrev pub AllEmpty : {X : Type 0} → List (List X) → Type 0
AllEmpty lists = AllByRecursion (λ xs. xs ≡ []) lists

-- `run` has the elements of all lists, those of each in their order
abbrev pub IsInterleaving : {X : Type 0} → List (List X) → List X → Type 0
IsInterleaving {X} lists run = (rests : List (List X)) × TakesAll lists run rests × AllEmpty rests

abbrev pub AllRising : List (List Segment) → Type 0
AllRising sides = AllByRecursion IsRising sides

-- no side can go on
abbrev pub AllStuck : ℕ → ℕ → List (List Segment) → Type 0
AllStuck limit level sides = AllByRecursion (IsStuck limit level) sides

-- at the level `stuck` all sides together are stuck, whichever of them goes on
pub record AreStuckAt (limit level : ℕ) (sides : List (List Segment)) (stuck : ℕ) : Type 0 where
  -- some way down leads to where none can go on
  pub some : (run : List Segment) × (rests : List (List Segment)) × TakesAll sides run rests × Passes limit level run
      × AllStuck limit (level - net_sum run) rests
  -- and each way that does so ends at this level
  pub each : (run : List Segment) (rests : List (List Segment)) → TakesAll sides run rests → Passes limit level run
      → AllStuck limit (level - net_sum run) rests → stuck ≡ level - net_sum run

-- there is a way down all sides to their ends below the limit
abbrev pub PassTogether : ℕ → ℕ → List (List Segment) → Type 0
PassTogether limit level sides = (run : List Segment) × IsInterleaving sides run × Passes limit level run

-- `most` is the least memory, of at least the level, within which all sides together pass
pub record IsLeastTogether (level : ℕ) (sides : List (List Segment)) (most : ℕ) : Type 0 where
  pub above : level ≤ most
  pub passes : PassTogether (most + 1) level sides
  pub least : (limit : ℕ) → level < limit → PassTogether limit level sides → most < limit
