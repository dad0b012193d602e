-- A term has one staircase in each direction.
use Rattle.std.proofs.Common.{◌≡◌, ℕ, zero, suc, ◌+◌, ◌-◌, ◌<◌, ◌≤◌, ◌⊎◌, inl, inr, max}
use Rattle.std.proofs.Common.{if◌then◌else◌, nat_lt, List, [], ◌∷◌, length, slice_index_or, refl}
use Rattle.std.proofs.Common.{ap, sym, ◌∙◌, subst, arith}
use Rattle.std.proofs.lemmas.Bool.Decides.{nat_tests}
use Rattle.std.proofs.lemmas.List.Sums.{sum_by-cons}
use Rattle.side_laws.specs.Segments.{Segment, lowest}
use Rattle.hill_valley.specs.declared.steps.Step.{Step}
use Rattle.hill_valley.specs.Laws.{StepsAreUnique}
use Rattle.hill_valley.specs.Side.{run_profile}
use Rattle.hill_valley.specs.Staircase.{IsStaircase, level_at, AreSteps}
use Rattle.sp_terms.specs.declared.position.Position.{Position}
use Rattle.sp_terms.specs.Places.{term_of_position}
use Rattle.sp_terms.specs.Term.{Term, Direction, forward, backward, first_memory, IsAllowed}
use Rattle.sp_terms.specs.Values.{term_at}
use Rattle.cut_laws.specs.Cuts.{Cut, start_of, side_of}
use Rattle.cut_laws.specs.Names.{Names, names_of, numbered}
use Rattle.cut_laws.specs.Standing.{IsLowestReached, StandsFor}
use Rattle.cut_laws.specs.TermCuts.{cut_of_term}
use Rattle.sp_cuts.specs.Stairs.{IsStaircaseOf, BothSteps, AreStairsOf, AreStairsFrom, AreStairs}
use Rattle.sp_cuts.specs.Stairs.{step_total}
use Rattle.sp_cuts.specs.StairLaws.{SomeStaircase, OneStaircase, EachStepIsReached}

-- ---- at most one

same_lowest : (d : Direction) (t : Term) (limit a b : ℕ) → IsLowestReached d t limit a
    → IsLowestReached d t limit b → a ≡ b
same_lowest d t limit a b ha hb =
    let x = ha.some in
    let y = hb.some in
    let le = hb.least x.0 x.1 x.2 x.3 in
    let ge = ha.least y.0 y.1 y.2 y.3 in
    let ea = x.4 in
    let eb = y.4 in
    omega arith

-- a side that has these steps
abbrev segments_of : ℕ → List Step → List Segment
segments_of level [] = []
segments_of level (s ∷ ss) = record { up = s.bound - level; net = level - s.level } ∷ segments_of
    s.level ss

lowest_of_segments : (limit bound level : ℕ) (ss : List Step) → level ≤ bound
    → IsStaircase bound level ss
    → lowest limit level (segments_of level ss) ≡ level_at limit level ss
lowest_of_segments limit bound level [] le h = refl
lowest_of_segments limit bound level (s ∷ ss) le h =
    let first = h.0 in
    let falls = h.1 in
    let e : level + (s.bound - level) ≡ s.bound = omega arith in
    let f : level - (level - s.level) ≡ s.level = omega arith in
    rw (e, f, lowest_of_segments limit (s.bound + 1) s.level ss (omega arith) h.2) refl

steps_of_segments : (level : ℕ) (a : List Step) → IsStaircase level level a
    → AreSteps level (segments_of level a) a
steps_of_segments level a h =
    record {
      staircase = h;
      levels = λ limit lt. sym
          (lowest_of_segments limit level level a (omega arith) h);
    }

pub one_staircase : StepsAreUnique → OneStaircase
one_staircase unique d t a b ha hb =
    let m = first_memory d t in
    let same : (limit : ℕ) → m < limit → level_at limit m b ≡ lowest limit m (segments_of m a) =
    λ limit lt. same_lowest d t limit (level_at limit m b) (level_at limit m a) (hb.lowest limit lt)
    (ha.lowest limit lt)
    ∙ sym (lowest_of_segments limit m m a (omega arith) ha.falls) in
    unique m (segments_of m a) a b (steps_of_segments m a ha.falls)
    (record { staircase = hb.falls; levels = same })

-- ---- a side has steps

-- those that are wanted from a level on, where memory has been at `most`
record Wanted (most level : ℕ) (ss : List Segment) : Type 0 where
  steps : List Step
  falls : IsStaircase most level steps
  levels : (limit : ℕ) → most < limit → level_at limit level steps ≡ lowest limit level ss

stays : (limit most level : ℕ) (steps : List Step) → IsStaircase most level steps → limit ≤ most
    → level_at limit level steps ≡ level
stays limit most level [] h le = refl
stays limit most level (s ∷ ss) h le = grind (arith, nat_tests)

-- over a segment: as after it where it passes, and as before it where it does not
over : (limit most level m low : ℕ) (s : Segment) (steps : List Step) → most < limit
    → m ≡ max most (level + s.up)
    → (m < limit → level_at limit level steps ≡ low) → (limit ≤ m
    → level_at limit level steps ≡ level)
    → level_at limit level steps ≡ (if nat_lt (level + s.up) limit then low else level)
over limit most level m low s steps lt e passes stuck = grind (arith, nat_tests)

begins : (limit m a level : ℕ) (steps : List Step) → m < limit
    → level_at limit level (record { bound = m; level = a } ∷ steps) ≡ level_at limit a steps
begins limit m a level steps lt = grind (arith, nat_tests)

goes_on : (limit a level : ℕ) (s : Step) (ss : List Step) → s.bound < limit
    → level_at limit level (s ∷ ss) ≡ level_at limit a (s ∷ ss)
goes_on limit a level s ss lt = grind (arith, nat_tests)

passes_on : (limit level : ℕ) (s : Step) (ss : List Step) → s.bound < limit
    → level_at limit level (s ∷ ss) ≡ level_at limit s.level ss
passes_on limit level s ss lt = grind (arith, nat_tests)

weaker : (m most level : ℕ) (steps : List Step) → most ≤ m → IsStaircase m level steps
    → IsStaircase most level steps
weaker m most level [] le h = tt
weaker m most level (s ∷ ss) le h = let first = h.0 in (omega arith, h.1, h.2)

order : (m n : ℕ) → m ≤ n → (m ≡ n) ⊎ (m < n)
order m n le = grind arith

module _ (most level : ℕ) (s : Segment) (ss : List Segment) (m : ℕ)
    (is : m ≡ max most (level + s.up)) where
  -- the level is the same
  level_stays : Wanted m level ss → level - s.net ≡ level → Wanted most level (s ∷ ss)
  level_stays w e = record {
    steps = w.steps;
    falls = weaker m most level w.steps (omega arith) w.falls;
    levels = λ limit lt.
        subst (λ (a : ℕ). level_at limit level w.steps ≡
        (if nat_lt (level + s.up) limit then lowest limit a ss else level)) (sym e)
        (over limit most level m (lowest limit level ss) s w.steps lt is (w.levels limit)
        (stays limit m level w.steps w.falls));
  }

  -- one step more
  steps_down : (w : Wanted m (level - s.net) ss) → level - s.net < level
      → IsStaircase (m + 1) (level - s.net) w.steps
      → Wanted most level (s ∷ ss)
  steps_down w lt h =
      let a = level - s.net in
      let steps = record { bound = m; level = a } ∷ w.steps in
      let falls : IsStaircase m level steps = (omega arith, omega arith, h) in
      record {
        steps = steps;
        falls = weaker m most level steps (omega arith) falls;
        levels = λ limit below.
            over limit most level m (lowest limit a ss) s steps below is
            (λ p. begins limit m a level w.steps p ∙ w.levels limit p)
            (stays limit m level steps falls);
      }

  -- the first step already goes further down within the same bound
  goes_further : (w : Wanted m (level - s.net) ss) (x : Step) (xs : List Step) → w.steps ≡ x ∷ xs
      → x.bound ≡ m → level - s.net < level
      → Wanted most level (s ∷ ss)
  goes_further w x xs e b lt =
      let a = level - s.net in
      let was : IsStaircase m a (x ∷ xs) = subst (IsStaircase m a) e w.falls in
      let low = was.1 in
      let falls : IsStaircase m level (x ∷ xs) = (was.0, omega arith, was.2) in
      record {
        steps = x ∷ xs;
        falls = weaker m most level (x ∷ xs) (omega arith) falls;
        levels = λ limit below.
            over limit most level m (lowest limit a ss) s (x ∷ xs) below is
            (λ p. goes_on limit a level x xs (omega arith) ∙ ap (level_at limit a) (sym e)
            ∙ w.levels limit p)
            (stays limit m level (x ∷ xs) falls);
      }

  one_more : Wanted m (level - s.net) ss → Wanted most level (s ∷ ss)
  one_more w = elim (order (level - s.net) level (omega arith)) [
    | inl e ↦ level_stays (subst (λ (a : ℕ). Wanted m a ss) e w) e
    | inr lt ↦ by_first w w.steps refl lt
  ]
    where
      by_first : (w : Wanted m (level - s.net) ss) (steps : List Step) → w.steps ≡ steps
          → level - s.net < level → Wanted most level (s ∷ ss)
      by_first w [] e lt = steps_down w lt (subst (IsStaircase (m + 1) (level - s.net)) (sym e) tt)
      by_first w (x ∷ xs) e lt =
          let was : IsStaircase m (level - s.net) (x ∷ xs) = subst (IsStaircase m (level - s.net)) e
          w.falls in
          elim (order m x.bound was.0) [
            | inl same ↦ goes_further w x xs e (sym same) lt
            | inr higher ↦ steps_down w lt (subst (IsStaircase (m + 1) (level - s.net)) (sym e)
                (omega arith, was.1, was.2))
          ]

wanted : (most level : ℕ) (ss : List Segment) → Wanted most level ss
wanted most level [] = record { steps = []; falls = tt; levels = λ limit lt. refl }
wanted most level (s ∷ ss) =
    one_more most level s ss (max most (level + s.up)) refl
    (wanted (max most (level + s.up)) (level - s.net) ss)

some_steps : (level : ℕ) (ss : List Segment) → (steps : List Step) × AreSteps level ss steps
some_steps level ss = let w = wanted level level ss
    in (w.steps, record { staircase = w.falls; levels = w.levels })

-- ---- a term has a staircase

-- the steps of a side of its cut are the staircase in that direction
pub staircase_of : (d : Direction) (t : Term) (m : ℕ) (side : List Segment) (steps : List Step)
    → m ≡ first_memory d t
    → ((limit : ℕ) → m < limit → IsLowestReached d t limit (lowest limit m side))
    → AreSteps m side steps → IsStaircaseOf d t steps
staircase_of d t m side steps e reached h = record {
  falls = subst (λ (n : ℕ). IsStaircase n n steps) e h.staircase;
  lowest = λ limit lt.
      let above : m < limit = omega (arith, e) in
      subst (λ (n : ℕ). IsLowestReached d t limit (level_at limit n steps)) e
      (subst (IsLowestReached d t limit) (sym (h.levels limit above)) (reached limit above));
}

-- where a cut that stands for the term starts
pub start_is : (d : Direction) (t : Term) (names : List ℕ) (c : Cut) → StandsFor t names c
    → start_of d c ≡ first_memory d t
start_is forward t names c h = h.initial
start_is backward t names c h = h.final

pub some_staircase : ((t : Term) (n : Names t) → IsAllowed t
    → StandsFor t (names_of t n) (cut_of_term t n)) → SomeStaircase
some_staircase stands d t allowed =
    let c = cut_of_term t (numbered 1 t) in
    let h = stands t (numbered 1 t) allowed in
    let side = run_profile (side_of d c) in
    let s = some_steps (start_of d c) side in (
      s.0,
      staircase_of d t (start_of d c) side s.0 (start_is d t (names_of t (numbered 1 t)) c h)
          (h.staircase d) s.1,
    )

-- ---- all positions

both : SomeStaircase → (t : Term) → IsAllowed t → (s : BothSteps) × AreStairsOf t s
both some t allowed =
    let f = some forward t allowed in
    let b = some backward t allowed in
    (record { front = f.0; back = b.0 }, record { front = f.1; back = b.1 })

module _ (some : SomeStaircase) (ps : List Position) (allowed : (k : ℕ) → 1 ≤ k → k ≤ length ps
    → IsAllowed (term_of_position ps k)) where
  pub allowed_at : (k : ℕ) → k < length ps → IsAllowed (term_at ps k)
  allowed_at k lt = let e : k + 1 - 1 ≡ k = omega arith in subst
      (λ (j : ℕ). IsAllowed (term_at ps j)) e (allowed (k + 1) (omega arith) (omega arith))

  from : (n k : ℕ) → k + n ≤ length ps → (all : List BothSteps) × (length all ≡ n)
      × AreStairsFrom ps k all
  from zero k le = ([], refl, tt)
  from (suc n) k le =
      let s = both some (term_at ps k) (allowed_at k (omega arith)) in
      let r = from n (k + 1) (omega arith) in
      (s.0 ∷ r.0, ap suc r.1, (s.1, r.2))

  pub some_stairs : (all : List BothSteps) × AreStairs ps all
  some_stairs = let r = from (length ps) 0 (omega arith) in (r.0, record { many = r.1; each = r.2 })

same_both : OneStaircase → (t : Term) (a b : BothSteps) → AreStairsOf t a → AreStairsOf t b → a ≡ b
same_both one t a b ha hb = equal a b (one forward t a.front b.front ha.front hb.front)
    (one backward t a.back b.back ha.back hb.back)
  where
    equal : (a b : BothSteps) → a.front ≡ b.front → a.back ≡ b.back → a ≡ b
    equal a b e f = rw (e, f) refl

pub one_stairs_from : OneStaircase → (ps : List Position) (k : ℕ) (a b : List BothSteps)
    → length a ≡ length b → AreStairsFrom ps k a
    → AreStairsFrom ps k b → a ≡ b
one_stairs_from one ps k [] [] e ha hb = refl
one_stairs_from one ps k [] (y ∷ b) e ha hb = absurd (omega arith)
one_stairs_from one ps k (x ∷ a) [] e ha hb = absurd (omega arith)
one_stairs_from one ps k (x ∷ a) (y ∷ b) e ha hb =
    rw (
      same_both one (term_at ps k) x y ha.0 hb.0,
      one_stairs_from one ps (k + 1) a b (omega arith)
          ha.1 hb.1,
    ) refl

-- the first of all have no more steps than all
pub first_have_fewer : OneStaircase → (ps : List Position) (k : ℕ) (a b : List BothSteps)
    → length a ≤ length b → AreStairsFrom ps k a
    → AreStairsFrom ps k b → step_total a ≤ step_total b
first_have_fewer one ps k [] b le ha hb = omega arith
first_have_fewer one ps k (x ∷ a) [] le ha hb = absurd (omega arith)
first_have_fewer one ps k (x ∷ a) (y ∷ b) le ha hb =
    let e = same_both one (term_at ps k) x y ha.0 hb.0 in
    let r = first_have_fewer one ps (k + 1) a b (omega arith) ha.1 hb.1 in
    let steps : BothSteps → ℕ = λ s. length s.front + length s.back in
    omega (arith, ap steps e, sum_by-cons steps x a, sum_by-cons steps y b)

-- ---- each step

-- the level within the bound of a step is its own
own_level : (bound level : ℕ) (steps : List Step) (s : Step) (k : ℕ)
    → IsStaircase bound level steps → k < length steps
    → slice_index_or steps k s ≡ s → (bound ≤ s.bound)
    × (level_at (s.bound + 1) level steps ≡ s.level)
own_level bound level [] s k h lt e = absurd (omega arith)
own_level bound level (x ∷ xs) s zero h lt e =
    let first = h.0 in
    let b = ap (λ (y : Step). y.bound) e in
    let l = ap (λ (y : Step). y.level) e in
    let same = stays (s.bound + 1) (x.bound + 1) x.level xs h.2 (omega arith) in
    (omega arith, passes_on (s.bound + 1) level x xs (omega arith) ∙ same ∙ l)
own_level bound level (x ∷ xs) s (suc k) h lt e =
    let first = h.0 in
    let r = own_level (x.bound + 1) x.level xs s k h.2 (omega arith) e in
    let above = r.0 in
    (omega arith, passes_on (s.bound + 1) level x xs (omega arith) ∙ r.1)

pub each_step : EachStepIsReached
each_step d t steps h s is =
    let m = first_memory d t in
    let r = own_level m m steps s is.0 h.falls is.1 is.2 in
    let above = r.0 in
    subst (IsLowestReached d t (s.bound + 1)) r.1 (h.lowest (s.bound + 1) (omega arith))
