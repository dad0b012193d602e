use Rattle.std.proofs.Common.{◌≡◌, ℕ, ◌+◌, ◌-◌, ◌≤◌, List, [], ◌∷◌, refl, ap, ◌∙◌, arith, inl, inr}
use Rattle.std.proofs.lemmas.Bool.Decides.{nat_tests}
use Rattle.side_laws.specs.Segments.{Segment, net_sum, lowest, Passes, StartsAbove, IsRising, IsStuck}
use Rattle.side_laws.specs.Merging.{insert_segment, insert_segments, merge_segments, TakesFirst, TakesAll, AllStuck, AllRising}
use Rattle.side_laws.proofs.Insert.{lowest_inserted}

total_step : (s e : Segment) (es : List Segment) → net_sum (insert_segment s es) ≡ s.net + net_sum es
    → net_sum (insert_segment s (e ∷ es)) ≡ s.net + net_sum (e ∷ es)
total_step s e es ih = grind (arith, nat_tests)

pub total_inserted : (s : Segment) (es : List Segment) → net_sum (insert_segment s es) ≡ s.net + net_sum es
total_inserted s [] = refl
total_inserted s (e ∷ es) = total_step s e es (total_inserted s es)

-- a run with its net changed to an equal one
same_net : (u m n : ℕ) (es : List Segment) → m ≡ n → record { up = u; net = m } ∷ es ≡ record { up = u; net = n } ∷ es
same_net u m n es h = ap {B = List Segment} (λ (k : ℕ). record { up = u; net = k } ∷ es) h

comm_nil : (s t : Segment) → insert_segment s (t ∷ []) ≡ insert_segment t (s ∷ [])
comm_nil s t =
    let same = λ (n : ℕ). same_net n (t.net + s.net) (s.net + t.net) [] (omega arith) in
    grind (arith, nat_tests, same s.up, same t.up)

comm_step : (s t e : Segment) (es : List Segment) → insert_segment s (insert_segment t es) ≡ insert_segment t (insert_segment s es)
    → insert_segment s (insert_segment t (e ∷ es)) ≡ insert_segment t (insert_segment s (e ∷ es))
comm_step s t e es ih =
    let one = same_net e.up (e.net + t.net + s.net) (e.net + s.net + t.net) es (omega arith) in
    let two = λ (n : ℕ). same_net n (t.net + s.net) (s.net + t.net) (e ∷ es) (omega arith) in
    grind (arith, nat_tests, one, two s.up, two t.up)

-- the order in which two runs are put in does not matter
pub inserted_comm : (s t : Segment) (es : List Segment) → insert_segment s (insert_segment t es) ≡ insert_segment t (insert_segment s es)
inserted_comm s t [] = comm_nil s t
inserted_comm s t (e ∷ es) = comm_step s t e es (inserted_comm s t es)

pub inserted_all_comm : (ss : List Segment) (t : Segment) (es : List Segment)
    → insert_segments ss (insert_segment t es) ≡ insert_segment t (insert_segments ss es)
inserted_all_comm [] t es = refl
inserted_all_comm (s ∷ ss) t es = ap (insert_segment s) (inserted_all_comm ss t es) ∙ inserted_comm s t (insert_segments ss es)

-- what is taken first may be put in last
pub merged_takes : (sides : List (List Segment)) (s : Segment) (next : List (List Segment))
    → TakesFirst sides s next → merge_segments sides ≡ insert_segment s (merge_segments next)
merged_takes [] s next h = absurd h
merged_takes (side ∷ sides) s [] h = absurd h
merged_takes (side ∷ sides) s (rest ∷ next) (inl h) = rw (h.0, h.1) refl
merged_takes (side ∷ sides) s (rest ∷ next) (inr h) =
    rw (h.0, merged_takes sides s next h.1) (inserted_all_comm rest s (merge_segments next))

rising_takes : (sides : List (List Segment)) (s : Segment) (next : List (List Segment))
    → TakesFirst sides s next → AllRising sides → AllRising next
rising_takes [] s next h r = absurd h
rising_takes (side ∷ sides) s [] h r = absurd h
rising_takes (side ∷ sides) s (rest ∷ next) (inl h) r = ((rw h.0 at r.0).1, rw h.1 at r.1)
rising_takes (side ∷ sides) s (rest ∷ next) (inr h) r = (rw h.0 at r.0, rising_takes sides s next h.1 r.1)

pub total_run : (sides : List (List Segment)) (run : List Segment) (rests : List (List Segment))
    → TakesAll sides run rests → net_sum (merge_segments sides) ≡ net_sum run + net_sum (merge_segments rests)
total_run sides [] rests h = rw h (omega arith)
total_run sides (s ∷ run) rests (next, first, others) =
    let ih = total_run next run rests others in
    let e = ap net_sum (merged_takes sides s next first) in
    omega (arith, e, ih, total_inserted s (merge_segments next))

pub rising_run : (sides : List (List Segment)) (run : List Segment) (rests : List (List Segment))
    → TakesAll sides run rests → AllRising sides → AllRising rests
rising_run sides [] rests h r = rw h at r
rising_run sides (s ∷ run) rests (next, first, others) r = rising_run next run rests others (rising_takes sides s next first r)

-- a run that passes leaves the lowest level of all sides as it was
pub lowest_run : (limit level : ℕ) (sides : List (List Segment)) (run : List Segment) (rests : List (List Segment))
    → net_sum (merge_segments sides) ≤ level → TakesAll sides run rests → Passes limit level run
    → lowest limit level (merge_segments sides) ≡ lowest limit (level - net_sum run) (merge_segments rests)
lowest_run limit level sides [] rests room h pass =
    rw h (ap (λ n. lowest limit n (merge_segments rests)) (let e : level ≡ level - 0 = omega arith in e))
lowest_run limit level sides (s ∷ run) rests room (next, first, others) pass =
    let e = merged_takes sides s next first in
    let t = ap net_sum e in
    let u = total_inserted s (merge_segments next) in
    let room' : s.net + net_sum (merge_segments next) ≤ level = omega arith in
    let ih = lowest_run limit (level - s.net) next run rests (omega arith) others pass.1 in
    let m : level - s.net - net_sum run ≡ level - (s.net + net_sum run) = omega arith in
    ap (lowest limit level) e ∙ lowest_inserted limit level s (merge_segments next) pass.0 room'
    ∙ ih ∙ ap (λ n. lowest limit n (merge_segments rests)) m

stuck_step : (limit level : ℕ) (s e : Segment) (es : List Segment) → limit ≤ level + s.up
    → limit ≤ level + e.up → IsStuck limit level (insert_segment s (e ∷ es))
stuck_step limit level s e es hs he = grind (arith, nat_tests)

pub stuck_inserted : (limit level : ℕ) (s : Segment) (es : List Segment)
    → limit ≤ level + s.up → IsStuck limit level es → IsStuck limit level (insert_segment s es)
stuck_inserted limit level s [] hs he = hs
stuck_inserted limit level s (e ∷ es) hs he = stuck_step limit level s e es hs he

pub stuck_after : (limit level : ℕ) (s : Segment) (ss : List Segment) → limit ≤ level + s.up → StartsAbove s.up ss → IsStuck limit level ss
stuck_after limit level s [] h a = tt
stuck_after limit level s (t ∷ ss) h a = omega arith

pub stuck_all : (limit level : ℕ) (ss es : List Segment) → IsRising ss
    → IsStuck limit level ss → IsStuck limit level es → IsStuck limit level (insert_segments ss es)
stuck_all limit level [] es r hs he = he
stuck_all limit level (s ∷ ss) es r hs he =
    stuck_inserted limit level s (insert_segments ss es) hs (stuck_all limit level ss es r.1 (stuck_after limit level s ss hs r.0) he)

pub stuck_merged : (limit level : ℕ) (sides : List (List Segment)) → AllRising sides
    → AllStuck limit level sides → IsStuck limit level (merge_segments sides)
stuck_merged limit level [] r h = tt
stuck_merged limit level (side ∷ sides) r h =
    stuck_all limit level side (merge_segments sides) r.0 h.0 (stuck_merged limit level sides r.1 h.1)

pub lowest_stuck : (limit level : ℕ) (es : List Segment) → IsStuck limit level es → lowest limit level es ≡ level
lowest_stuck limit level [] h = refl
lowest_stuck limit level (s ∷ ss) h = grind (arith, nat_tests)

-- whichever sides go on: where all are stuck, the level is that of the merge_segments side
pub stuck_together : (limit level : ℕ) (sides : List (List Segment)) (run : List Segment) (rests : List (List Segment))
    → AllRising sides → net_sum (merge_segments sides) ≤ level → TakesAll sides run rests → Passes limit level run
    → AllStuck limit (level - net_sum run) rests → lowest limit level (merge_segments sides) ≡ level - net_sum run
stuck_together limit level sides run rests rising room takes pass stuck =
    lowest_run limit level sides run rests room takes pass
    ∙ lowest_stuck limit (level - net_sum run) (merge_segments rests)
    (stuck_merged limit (level - net_sum run) rests (rising_run sides run rests takes rising) stuck)
