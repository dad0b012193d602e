use Rattle.std.proofs.Common.{◌≡◌, ℕ, zero, suc, ◌+◌, ◌-◌, ◌<◌, ◌≤◌, List, [], ◌∷◌, ◌⊎◌, ◌↔◌, refl, ap, arith, subst, inl, inr, length}
use Rattle.std.proofs.lemmas.Bool.Decides.{nat_tests}
use Rattle.side_laws.specs.Segments.{Segment, net_sum, lowest, top, Passes, IsStuck}
use Rattle.side_laws.specs.Merging.{insert_segment, insert_segments, merge_segments, TakesFirst, TakesAll, AllStuck}
use Rattle.side_laws.specs.Merging.{AllRising, AllEmpty, PassTogether, AreStuckAt, IsLeastTogether}
use Rattle.side_laws.proofs.Merge.{merged_takes, total_inserted, rising_run, stuck_merged, stuck_together}
use Rattle.lists.proofs.Orders.{lt_or_le}

-- a number at which a test passes may be written in another way
passes_at : (limit m n : ℕ) (es : List Segment) → m ≡ n → Passes limit m es → Passes limit n es
passes_at limit m n es h p = subst (λ (k : ℕ). Passes limit k es) h p

step_to : (limit level : ℕ) (s e : Segment) (es : List Segment) → level + s.up < limit → s.net + (e.net + net_sum es) ≤ level
    → (e.up < s.up → Passes limit (level - e.net) (insert_segment s es) → Passes limit (level - e.net - s.net) es)
    → Passes limit level (insert_segment s (e ∷ es)) → Passes limit (level - s.net) (e ∷ es)
step_to limit level s e es pass room ih =
    let one = passes_at limit (level - e.net - s.net) (level - s.net - e.net) es (omega arith) in
    let two = passes_at limit (level - (e.net + s.net)) (level - s.net - e.net) es (omega arith) in
    grind (arith, nat_tests, one, two)

step_from : (limit level : ℕ) (s e : Segment) (es : List Segment) → level + s.up < limit → s.net + (e.net + net_sum es) ≤ level
    → (e.up < s.up → Passes limit (level - e.net - s.net) es → Passes limit (level - e.net) (insert_segment s es))
    → Passes limit (level - s.net) (e ∷ es) → Passes limit level (insert_segment s (e ∷ es))
step_from limit level s e es pass room ih =
    let one = passes_at limit (level - s.net - e.net) (level - e.net - s.net) es (omega arith) in
    let two = passes_at limit (level - s.net - e.net) (level - (e.net + s.net)) es (omega arith) in
    grind (arith, nat_tests, one, two)

pub passes_inserted : (limit level : ℕ) (s : Segment) (es : List Segment) → level + s.up < limit
    → s.net + net_sum es ≤ level → Passes limit level (insert_segment s es) → Passes limit (level - s.net) es
passes_inserted limit level s [] pass room p = tt
passes_inserted limit level s (e ∷ es) pass room p =
    step_to limit level s e es pass room (λ lt. passes_inserted limit (level - e.net) s es (omega arith) (omega arith)) p

pub inserted_passes : (limit level : ℕ) (s : Segment) (es : List Segment) → level + s.up < limit
    → s.net + net_sum es ≤ level → Passes limit (level - s.net) es → Passes limit level (insert_segment s es)
inserted_passes limit level s [] pass room p = (pass, tt)
inserted_passes limit level s (e ∷ es) pass room p =
    step_from limit level s e es pass room (λ lt. inserted_passes limit (level - e.net) s es (omega arith) (omega arith)) p

pub passes_run : (limit level : ℕ) (sides : List (List Segment)) (run : List Segment) (rests : List (List Segment))
    → net_sum (merge_segments sides) ≤ level → TakesAll sides run rests → Passes limit level run
    → Passes limit level (merge_segments sides) → Passes limit (level - net_sum run) (merge_segments rests)
passes_run limit level sides [] rests room h pass p = passes_at limit level (level - 0) (merge_segments rests) (omega arith) (rw h at p)
passes_run limit level sides (s ∷ run) rests room (next, first, others) pass p =
    let e = merged_takes sides s next first in
    let t = ap net_sum e in
    let u = total_inserted s (merge_segments next) in
    let room' : s.net + net_sum (merge_segments next) ≤ level = omega arith in
    let q = passes_inserted limit level s (merge_segments next) pass.0 room' (rw e at p) in
    passes_at limit (level - s.net - net_sum run) (level - (s.net + net_sum run)) (merge_segments rests)
    (omega arith) (passes_run limit (level - s.net) next run rests (omega arith) others pass.1 q)

pub run_passes : (limit level : ℕ) (sides : List (List Segment)) (run : List Segment) (rests : List (List Segment))
    → net_sum (merge_segments sides) ≤ level → TakesAll sides run rests → Passes limit level run
    → Passes limit (level - net_sum run) (merge_segments rests) → Passes limit level (merge_segments sides)
run_passes limit level sides [] rests room h pass p = rw h (passes_at limit (level - 0) level (merge_segments rests) (omega arith) p)
run_passes limit level sides (s ∷ run) rests room (next, first, others) pass p =
    let e = merged_takes sides s next first in
    let t = ap net_sum e in
    let u = total_inserted s (merge_segments next) in
    let room' : s.net + net_sum (merge_segments next) ≤ level = omega arith in
    let q = run_passes limit (level - s.net) next run rests (omega arith) others pass.1
    (passes_at limit (level - (s.net + net_sum run)) (level - s.net - net_sum run) (merge_segments rests) (omega arith) p) in
    rw e (inserted_passes limit level s (merge_segments next) pass.0 room' q)

-- some side can go on
pub record GoesOn (limit level : ℕ) (sides : List (List Segment)) : Type 0 where
  pub first : Segment
  pub next : List (List Segment)
  pub takes : TakesFirst sides first next
  pub passes : level + first.up < limit

go_later : (limit level : ℕ) (side : List Segment) (sides : List (List Segment))
    → GoesOn limit level sides → GoesOn limit level (side ∷ sides)
go_later limit level side sides k = record { first = k.first; next = side ∷ k.next; takes = inr (refl, k.takes); passes = k.passes }

go_first : (limit level : ℕ) (side : List Segment) (sides : List (List Segment))
    → GoesOn limit level (side ∷ sides) ⊎ IsStuck limit level side
go_first limit level [] sides = inr tt
go_first limit level (s ∷ ss) sides = elim (lt_or_le (level + s.up) limit) [
  | inl h ↦ inl (record { first = s; next = ss ∷ sides; takes = inl (refl, refl); passes = h })
  | inr h ↦ inr h
]

go_or_stuck : (limit level : ℕ) (sides : List (List Segment)) → GoesOn limit level sides ⊎ AllStuck limit level sides
go_or_stuck limit level [] = inr tt
go_or_stuck limit level (side ∷ sides) = elim (go_first limit level side sides) [
  | inl k ↦ inl k
  | inr h ↦ elim (go_or_stuck limit level sides) [ inl k ↦ inl (go_later limit level side sides k) | inr k ↦ inr (h, k) ]
]

abbrev count : List (List Segment) → ℕ
count [] = 0
count (side ∷ sides) = length side + count sides

count_takes : (sides : List (List Segment)) (s : Segment) (next : List (List Segment))
    → TakesFirst sides s next → count sides ≡ suc (count next)
count_takes [] s next h = absurd h
count_takes (side ∷ sides) s [] h = absurd h
count_takes (side ∷ sides) s (rest ∷ next) (inl h) = let e = ap (length {A = Segment}) h.0 in let f = ap count h.1 in omega (arith, e, f)
count_takes (side ∷ sides) s (rest ∷ next) (inr h) = let e = ap (length {A = Segment}) h.0 in omega (arith, e, count_takes sides s next h.1)

-- a run after which no side can go on
pub record StuckRun (limit level : ℕ) (sides : List (List Segment)) : Type 0 where
  pub run : List Segment
  pub rests : List (List Segment)
  pub takes : TakesAll sides run rests
  pub passes : Passes limit level run
  pub stuck : AllStuck limit (level - net_sum run) rests

stuck_at : (limit m n : ℕ) (rests : List (List Segment)) → m ≡ n → AllStuck limit m rests → AllStuck limit n rests
stuck_at limit m n rests h p = subst (λ (k : ℕ). AllStuck limit k rests) h p

one_more : (limit level : ℕ) (sides : List (List Segment)) (k : GoesOn limit level sides)
    → StuckRun limit (level - k.first.net) k.next → StuckRun limit level sides
one_more limit level sides k r = record {
  run = k.first ∷ r.run;
  rests = r.rests;
  takes = (k.next, k.takes, r.takes);
  passes = (k.passes, r.passes);
  stuck = stuck_at limit (level - k.first.net - net_sum r.run) (level - (k.first.net + net_sum r.run)) r.rests (omega arith) r.stuck;
}

none_more : (limit level : ℕ) (sides : List (List Segment)) → AllStuck limit level sides → StuckRun limit level sides
none_more limit level sides k =
    record { run = []; rests = sides; takes = refl; passes = tt; stuck = stuck_at limit level (level - 0) sides (omega arith) k }

go_on : (n limit level : ℕ) (sides : List (List Segment)) → count sides ≤ n → StuckRun limit level sides
go_on zero limit level sides room = elim (go_or_stuck limit level sides) [
  | inl k ↦ absurd (let e = count_takes sides k.first k.next k.takes in omega arith)
  | inr k ↦ none_more limit level sides k
]
go_on (suc n) limit level sides room = elim (go_or_stuck limit level sides) [
  | inl k ↦ one_more limit level sides k
      (go_on n limit (level - k.first.net) k.next (let e = count_takes sides k.first k.next k.takes in omega arith))
  | inr k ↦ none_more limit level sides k
]

pub stuck_run : (limit level : ℕ) (sides : List (List Segment)) → StuckRun limit level sides
stuck_run limit level sides = go_on (count sides) limit level sides (omega arith)

pub top_from_passes : (limit level : ℕ) (ss : List Segment) → level < limit → Passes limit level ss → top level ss < limit
top_from_passes limit level [] h p = h
top_from_passes limit level (s ∷ ss) h p = let ih = top_from_passes limit (level - s.net) ss (omega arith) p.1 in omega arith

pub passes_from_top : (limit level : ℕ) (ss : List Segment) → top level ss < limit → Passes limit level ss
passes_from_top limit level [] h = tt
passes_from_top limit level (s ∷ ss) h = (omega arith, passes_from_top limit (level - s.net) ss (omega arith))

pub level_le_top : (level : ℕ) (ss : List Segment) → level ≤ top level ss
level_le_top level [] = omega arith
level_le_top level (s ∷ ss) = omega arith

pub top_passes : (limit level : ℕ) (ss : List Segment) → (top level ss < limit) ↔ ((level < limit) × Passes limit level ss)
top_passes limit level ss = (
  λ below. (let l = level_le_top level ss in omega arith, passes_from_top limit level ss below),
  λ h. top_from_passes limit level ss h.0 h.1,
)

-- with a segment put in, a side is not empty
inserted_some_step : (s e : Segment) (es : List Segment) → insert_segment s (e ∷ es) ≡ [] → ⊥
inserted_some_step s e es h = grind (arith, nat_tests)

inserted_some : (s : Segment) (es : List Segment) → insert_segment s es ≡ [] → ⊥
inserted_some s [] h = cc
inserted_some s (e ∷ es) h = inserted_some_step s e es h

all_empty : (sides : List (List Segment)) → merge_segments sides ≡ [] → AllEmpty sides
all_empty [] h = tt
all_empty ([] ∷ sides) h = (refl, all_empty sides h)
all_empty ((s ∷ ss) ∷ sides) h = absurd (inserted_some s (insert_segments ss (merge_segments sides)) h)

empty_merged : (sides : List (List Segment)) → AllEmpty sides → merge_segments sides ≡ []
empty_merged [] h = refl
empty_merged (side ∷ sides) h = rw h.0 (empty_merged sides h.1)

passed_stuck : (limit level : ℕ) (es : List Segment) → IsStuck limit level es → Passes limit level es → es ≡ []
passed_stuck limit level [] b p = refl
passed_stuck limit level (e ∷ es) b p = absurd (omega arith)

pub whole_run : (limit level : ℕ) (sides : List (List Segment)) → AllRising sides
    → net_sum (merge_segments sides) ≤ level → top level (merge_segments sides) < limit → PassTogether limit level sides
whole_run limit level sides rising room below =
    let r = stuck_run limit level sides in
    let p = passes_run limit level sides r.run r.rests room r.takes r.passes (passes_from_top limit level (merge_segments sides) below) in
    let b = stuck_merged limit (level - net_sum r.run) r.rests (rising_run sides r.run r.rests r.takes rising) r.stuck in
    (r.run, (r.rests, r.takes, all_empty r.rests (passed_stuck limit (level - net_sum r.run) (merge_segments r.rests) b p)), r.passes)

pub top_from_run : (limit level : ℕ) (sides : List (List Segment)) → net_sum (merge_segments sides) ≤ level
    → level < limit → PassTogether limit level sides → top level (merge_segments sides) < limit
top_from_run limit level sides room below (run, (rests, takes, ends), passes) =
    top_from_passes limit level (merge_segments sides) below
    (run_passes limit level sides run rests room takes passes (rw (empty_merged rests ends) tt))

pub are_stuck_at : (limit level : ℕ) (sides : List (List Segment)) → AllRising sides
    → net_sum (merge_segments sides) ≤ level → AreStuckAt limit level sides (lowest limit level (merge_segments sides))
are_stuck_at limit level sides rising room =
    let r = stuck_run limit level sides in
    record {
      some = (r.run, r.rests, r.takes, r.passes, r.stuck);
      each = λ run rests takes passes stuck. stuck_together limit level sides run rests rising room takes passes stuck;
    }

pub is_least_together : (level : ℕ) (sides : List (List Segment)) → AllRising sides
    → net_sum (merge_segments sides) ≤ level → IsLeastTogether level sides (top level (merge_segments sides))
is_least_together level sides rising room =
    let most = top level (merge_segments sides) in
    record {
      above = level_le_top level (merge_segments sides);
      passes = whole_run (most + 1) level sides rising room (omega arith);
      least = λ limit lt pass. top_from_run limit level sides room lt pass;
    }
