-- A segment that is put into a row, as the list of segments sees it.
use Rattle.std.proofs.Common.{◌≡◌, ℕ, zero, suc, ◌+◌, ◌<◌, ◌≤◌, List, [], ◌∷◌, length, get_or, set, refl, ap, sym, ◌∙◌, arith, Bool, ◌≢◌, Some}
use Rattle.std.specs.List.{insert}
use Rattle.std.proofs.lemmas.Bool.Decides.{nat_tests}
use Rattle.side_laws.specs.Segments.{IsRising, StartsAbove, net_sum, last_up}
use Rattle.hill_valley.specs.declared.side.Seg.{Seg}
use Rattle.hill_valley.specs.Ropes.{IsRope, Extends}
use Rattle.hill_valley.specs.Side.{profile, HaveRopes, Run, run_of, runs_of, join_runs, insert_run}
use Rattle.hill_valley.specs.Descents.{first_up}
use Rattle.hill_valley.specs.Places.{up_at, IsPlace, IsGap, IsThere}
use Rattle.hill_valley.proofs.Kept.{list_kept, runs_kept}
use Rattle.lists.proofs.Options.{none_some, some_same}

-- ---- the place

pub there_up : (ss : List Seg) (i : ℕ) (s : Seg) → i < length ss → s ≡ get_or ss i s → s.up ≡ up_at i ss
there_up [] i s lt e = absurd (omega arith)
there_up (t ∷ ss) zero s lt e = ap (λ (x : Seg). x.up) e
there_up (t ∷ ss) (suc i) s lt e = there_up ss i s (omega arith) e

least_first : (s : Seg) (ss : List Seg) (i : ℕ) → IsRising (profile (s ∷ ss)) → i < length (s ∷ ss) → s.up ≤ up_at i (s ∷ ss)
least_first s ss zero h lt = omega arith
least_first s [] (suc i) h lt = absurd (omega arith)
least_first s (t ∷ ss) (suc i) h lt = let e = least_first t ss i h.1 (omega arith) in let f = h.0 in omega arith

place_rest : (k i : ℕ) (s : Seg) (ss : List Seg) → IsPlace k (suc i) (s ∷ ss) → IsPlace k i ss
place_rest k i s ss p = record {
  within = let w = p.within in omega arith;
  below = λ j e. p.below (suc j) (omega arith);
  above = λ lt. p.above (omega arith);
}

before_place : (k i : ℕ) (s : Seg) (ss : List Seg) → IsRising (profile (s ∷ ss)) → IsPlace k (suc i) (s ∷ ss) → s.up < k
before_place k i s ss h p =
    let w = p.within in
    let least = least_first s ss i h (omega arith) in
    let last = p.below i (omega arith) in
    omega arith

pub gap : (k i : ℕ) (ss : List Seg) → IsRising (profile ss) → IsPlace k i ss → (i < length ss → k ≢ up_at i ss) → IsGap k i ss
gap k zero [] h p other = tt
gap k (suc i) [] h p other = absurd (let w = p.within in omega arith)
gap k zero (s ∷ ss) h p other = let a = p.above (omega arith) in let o = other (omega arith) in omega arith
gap k (suc i) (s ∷ ss) h p other = (before_place k i s ss h p, gap k i ss h.1 (place_rest k i s ss p) (λ lt. other (omega arith)))

pub there : (k i : ℕ) (ss : List Seg) (own : Seg) → IsRising (profile ss)
    → IsPlace k i ss → i < length ss → own ≡ get_or ss i own → own.up ≡ k → IsThere k i ss own
there k i [] own h p lt e same = absurd (omega arith)
there k zero (s ∷ ss) own h p lt e same = (sym e, ap (λ (x : Seg). x.up) (sym e) ∙ same)
there k (suc i) (s ∷ ss) own h p lt e same = (before_place k i s ss h p, there k i ss own h.1 (place_rest k i s ss p) (omega arith) e same)

-- ---- the search for it

pub below_more : (k m : ℕ) (ss : List Seg) (s : Seg) → m < length ss
    → s ≡ get_or ss m s → s.up < k → (i : ℕ) → i + 1 ≡ m + 1 → up_at i ss < k
below_more k m ss s lt e h i same = let u = there_up ss m s lt e in let n : i ≡ m = omega arith in rw n (omega arith)

pub above_at : (k m : ℕ) (ss : List Seg) (s : Seg) → m < length ss → s ≡ get_or ss m s → k ≤ s.up → k ≤ up_at m ss
above_at k m ss s lt e h = let u = there_up ss m s lt e in omega arith

-- ---- the runs

pub less : (before : Bool) (r t : Run) (rs : List Run) → r.up < t.up → insert_run before r (t ∷ rs) ≡ r ∷ t ∷ rs
less before r t rs h = grind (arith, nat_tests)

pub same : (before : Bool) (r t : Run) (rs : List Run) → t.up ≡ r.up → insert_run before r (t ∷ rs) ≡ join_runs before r t ∷ rs
same before r t rs h = grind (arith, nat_tests)

pub more : (before : Bool) (r t : Run) (rs : List Run) → t.up < r.up → insert_run before r (t ∷ rs) ≡ t ∷ insert_run before r rs
more before r t rs h = grind (arith, nat_tests)

pub put_gap : (lists : List (List ℕ)) (before : Bool) (s : Seg) (i : ℕ) (ss : List Seg)
    → IsGap s.up i ss → runs_of lists (insert ss i s) ≡ insert_run before (run_of lists s) (runs_of lists ss)
put_gap lists before s zero [] h = refl
put_gap lists before s (suc i) [] h = absurd h
put_gap lists before s zero (t ∷ ss) h = sym (less before (run_of lists s) (run_of lists t) (runs_of lists ss) h)
put_gap lists before s (suc i) (t ∷ ss) h =
    ap (λ (l : List Run). run_of lists t ∷ l) (put_gap lists before s i ss h.1)
    ∙ sym (more before (run_of lists s) (run_of lists t) (runs_of lists ss) h.0)

pub gap_runs : (lists : List (List ℕ)) (before : Bool) (s : Seg) (i : ℕ) (items side items' : List Seg)
    → items ≡ side → IsGap s.up i items → items' ≡ insert items i s
    → runs_of lists items' ≡ insert_run before (run_of lists s) (runs_of lists side)
gap_runs lists before s i items side items' view h e = rw (e, ← view) (put_gap lists before s i items h)

pub ropes_gap : (lists : List (List ℕ)) (s : Seg) (i : ℕ) (ss : List Seg)
    → HaveRopes lists ss → IsRope lists s.tasks → HaveRopes lists (insert ss i s)
ropes_gap lists s zero ss h r = (r, h)
ropes_gap lists s (suc i) [] h r = (r, tt)
ropes_gap lists s (suc i) (t ∷ ss) h r = (h.0, ropes_gap lists s i ss h.1 r)

module _ (old new : List (List ℕ)) (kept : Extends old new) (before : Bool) (s own whole : Seg)
    (is : run_of new whole ≡ join_runs before (run_of old s) (run_of old own)) where
  kept_run : (t : Seg) → IsRope old t.tasks → run_of new t ≡ run_of old t
  kept_run t h = ap (λ (l : List ℕ). record { up = t.up; net = t.net; tasks = l }) (list_kept old new t.tasks h kept)

  pub put_there : (i : ℕ) (ss : List Seg) → IsThere s.up i ss own → HaveRopes old ss
      → runs_of new (set ss i whole) ≡ insert_run before (run_of old s) (runs_of old ss)
  put_there i [] h ropes = absurd h
  put_there zero (t ∷ ss) h ropes =
      rw (runs_kept old new ss ropes.1 kept)
      (ap (λ (r : Run). r ∷ runs_of old ss) (is ∙ ap (λ (x : Seg). join_runs before (run_of old s) (run_of old x)) (sym h.0))
      ∙ sym (same before (run_of old s) (run_of old t) (runs_of old ss) h.1))
  put_there (suc i) (t ∷ ss) h ropes =
      rw (kept_run t ropes.0, put_there i ss h.1 ropes.1) (sym (more before (run_of old s) (run_of old t) (runs_of old ss) h.0))

  pub there_runs : (i : ℕ) (items side : List Seg) → items ≡ side → IsThere s.up i items own → HaveRopes old side
      → runs_of new (set items i whole) ≡ insert_run before (run_of old s) (runs_of old side)
  there_runs i items side view h ropes = rw (← view) (put_there i items h (rw view ropes))

pub ropes_there : (lists : List (List ℕ)) (whole : Seg) (i : ℕ) (ss : List Seg)
    → HaveRopes lists ss → IsRope lists whole.tasks → HaveRopes lists (set ss i whole)
ropes_there lists whole i [] h r = tt
ropes_there lists whole zero (t ∷ ss) h r = (r, h.1)
ropes_there lists whole (suc i) (t ∷ ss) h r = (h.0, ropes_there lists whole i ss h.1 r)

-- a segment that goes up less than the first
pub below_all : (lists : List (List ℕ)) (before : Bool) (s : Seg) (k : ℕ) (ss : List Seg) → first_up ss ≡ Some k → s.up < k
    → StartsAbove s.up (profile ss) × (runs_of lists (s ∷ ss) ≡ insert_run before (run_of lists s) (runs_of lists ss))
below_all lists before s k [] e lt = absurd (none_some e)
below_all lists before s k (t ∷ ss) e lt =
    let u : t.up ≡ k = some_same e in
    let h : s.up < t.up = omega arith in
    (h, sym (less before (run_of lists s) (run_of lists t) (runs_of lists ss) h))

-- ---- what is there

pub there_rope : (lists : List (List ℕ)) (k i : ℕ) (ss : List Seg) (own : Seg)
    → IsThere k i ss own → HaveRopes lists ss → IsRope lists own.tasks
there_rope lists k i [] own h r = absurd h
there_rope lists k zero (s ∷ ss) own h r = rw h.0 at r.0
there_rope lists k (suc i) (s ∷ ss) own h r = there_rope lists k i ss own h.1 r.1

pub there_net : (k i : ℕ) (ss : List Seg) (own : Seg) → IsThere k i ss own → own.net ≤ net_sum (profile ss)
there_net k i [] own h = absurd h
there_net k zero (s ∷ ss) own h = let e = ap (λ (x : Seg). x.net) h.0 in omega arith
there_net k (suc i) (s ∷ ss) own h = let e = there_net k i ss own h.1 in omega arith

pub there_within : (k i : ℕ) (ss : List Seg) (own : Seg) → IsThere k i ss own → i < length ss
there_within k i [] own h = absurd h
there_within k zero (s ∷ ss) own h = omega arith
there_within k (suc i) (s ∷ ss) own h = let e = there_within k i ss own h.1 in omega arith

pub gap_within : (k i : ℕ) (ss : List Seg) → IsGap k i ss → i ≤ length ss
gap_within k zero ss h = omega arith
gap_within k (suc i) [] h = absurd h
gap_within k (suc i) (s ∷ ss) h = let e = gap_within k i ss h.1 in omega arith

-- ---- the last

pub last_in : (ss : List Seg) (i : ℕ) (s : Seg) → i + 1 ≡ length ss → s ≡ get_or ss i s → s.up ≡ last_up (profile ss)
last_in [] i s h e = absurd (omega arith)
last_in (t ∷ []) zero s h e = ap (λ (x : Seg). x.up) e
last_in (t ∷ []) (suc i) s h e = absurd (omega arith)
last_in (t ∷ u ∷ ss) zero s h e = absurd (omega arith)
last_in (t ∷ u ∷ ss) (suc i) s h e = last_in (u ∷ ss) i s (omega arith) e

pub none_left : (ss : List Seg) → length ss ≡ 0 → ss ≡ []
none_left [] h = refl
none_left (s ∷ ss) h = absurd (omega arith)
