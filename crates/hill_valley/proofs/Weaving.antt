-- Two sides taken as one row, the lesser segment first.
use Rattle.std.proofs.Common.{◌≡◌, ℕ, ◌+◌, ◌<◌, ◌≤◌, List, [], ◌∷◌, ◌++◌, refl, ap, sym, ◌∙◌, arith}
use Rattle.std.proofs.Common.{subst, append_assoc, Bool, Option, Some, None, MatchOption}
use Rattle.std.proofs.lemmas.Grind.{common_steps}
use Rattle.limits.specs.Limits.{most_total}
use Rattle.side_laws.specs.Segments.{Segment, net_sum, StartsAbove, IsRising}
use Rattle.side_laws.specs.Laws.{NetOfInsert, InsertRises}
use Rattle.hill_valley.specs.declared.side.Seg.{Seg}
use Rattle.hill_valley.specs.Ropes.{IsRope, Extends}
use Rattle.hill_valley.specs.Side.{profile, AllUpsWithin, IsSide, HaveRopes, Run, run_of, runs_of}
use Rattle.hill_valley.specs.Side.{run_numbers, run_profile, join_runs, insert_run, move_runs}
use Rattle.hill_valley.specs.Descents.{first_up}
use Rattle.hill_valley.specs.Merging.{IsNextMoved}
use Rattle.hill_valley.proofs.Kept.{runs_kept, ropes_kept, extends_on, extends_self}
use Rattle.hill_valley.proofs.Profiles.{profile_runs, profile_insert}
use Rattle.hill_valley.proofs.Inserting.{side_after}
use Rattle.hill_valley.proofs.Fronts.{side_front}
use Rattle.hill_valley.proofs.InRow.{less, same, more}

-- ---- which run comes first

above_rest : (u v : ℕ) (ss : List Segment) → u < v → StartsAbove v ss → StartsAbove u ss
above_rest u v [] h a = tt
above_rest u v (s ∷ ss) h a = omega arith

-- a run below all that are moved stays the first
own_first : (before : Bool) (ss : List Run) (r : Run) (rs : List Run) → StartsAbove r.up (run_profile ss)
    → IsRising (run_profile ss) → move_runs before ss (r ∷ rs) ≡ r ∷ move_runs before ss rs
own_first before [] r rs a h = refl
own_first before (s ∷ ss) r rs a h =
    ap (λ (l : List Run). move_runs before ss l) (more before s r rs a)
    ∙ own_first before ss r (insert_run before s rs) (above_rest r.up s.up (run_profile ss) a h.0) h.1

both_first : (before : Bool) (s : Run) (ss : List Run) (r : Run) (rs : List Run) → s.up ≡ r.up → IsRising (run_profile (s ∷ ss))
    → move_runs before (s ∷ ss) (r ∷ rs) ≡ join_runs before s r ∷ move_runs before ss rs
both_first before s ss r rs e h =
    ap (λ (l : List Run). move_runs before ss l) (same before s r rs (sym e))
    ∙ own_first before ss (join_runs before s r) rs (subst (λ (u : ℕ). StartsAbove u (run_profile ss)) e h.0) h.1

other_first : (before : Bool) (s : Run) (ss rs : List Run) → StartsAbove s.up (run_profile rs)
    → IsRising (run_profile (s ∷ ss)) → move_runs before (s ∷ ss) rs ≡ s ∷ move_runs before ss rs
other_first before s ss [] a h = own_first before ss s [] h.0 h.1
other_first before s ss (r ∷ rs) a h =
    ap (λ (l : List Run). move_runs before ss l) (less before s r rs a) ∙ own_first before ss s (r ∷ rs) h.0 h.1

-- ---- the same of segments

runs_rise : (lists : List (List ℕ)) (ss : List Seg) → IsRising (profile ss) → IsRising (run_profile (runs_of lists ss))
runs_rise lists ss h = rw (profile_runs lists ss) h

runs_above : (lists : List (List ℕ)) (u : ℕ) (ss : List Seg) → StartsAbove u (profile ss) → StartsAbove u (run_profile (runs_of lists ss))
runs_above lists u ss h = rw (profile_runs lists ss) h

pub from_other : (lists : List (List ℕ)) (before : Bool) (other own other' : List Seg) (o : Option Seg)
    → IsRising (profile other) → None ≡ first_up own
    → MatchOption o ((other ≡ []) × (other' ≡ [])) (λ s. other ≡ s ∷ other') → IsNextMoved before lists lists other own other' own o
from_other lists before other [] other' None h none m = rw m.0 refl
from_other lists before other [] other' (Some s) h none m =
    rw m (other_first before (run_of lists s) (runs_of lists other') [] tt (runs_rise lists (s ∷ other') (rw m at h)))
from_other lists before other (r ∷ own) other' o h none m = absurd (cc)

pub from_own : (lists : List (List ℕ)) (before : Bool) (other own other' own' : List Seg) (up : ℕ) (o : Option Seg)
    → IsRising (profile other) → Some up ≡ first_up own
    → (other' ≡ other) × StartsAbove up (profile other) → MatchOption o ((own ≡ []) × (own' ≡ [])) (λ s. own ≡ s ∷ own')
    → IsNextMoved before lists lists other own other' own' o
from_own lists before other own other' own' up None h first skipped m = absurd (none own up first m.0)
  where
    none : (ss : List Seg) (u : ℕ) → Some u ≡ first_up ss → ss ≡ [] → ⊥
    none ss u f e = let g : Some u ≡ None = rw e at f in cc
from_own lists before other own other' own' up (Some s) h first skipped m =
    let g : Some up ≡ Some s.up = rw m at first in
    let u : up ≡ s.up = cc in
    rw (m, skipped.0)
    (own_first before (runs_of lists other) (run_of lists s) (runs_of lists own')
    (runs_above lists s.up other (rw u at skipped.1)) (runs_rise lists other h))

own_above : (lists : List (List ℕ)) (u up : ℕ) (own : List Seg)
    → Some up ≡ first_up own → u < up → StartsAbove u (run_profile (runs_of lists own))
own_above lists u up [] h lt = tt
own_above lists u up (r ∷ own) h lt = let e : up ≡ r.up = cc in omega arith

pub lesser_of_other : (lists : List (List ℕ)) (before : Bool) (other own other' : List Seg) (up : ℕ) (s : Seg)
    → IsRising (profile other) → Some up ≡ first_up own → other ≡ s ∷ other' → s.up < up
    → IsNextMoved before lists lists other own other' own (Some s)
lesser_of_other lists before other own other' up s h first m lt =
    rw m
    (other_first before (run_of lists s) (runs_of lists other') (runs_of lists own)
    (own_above lists s.up up own first lt) (runs_rise lists (s ∷ other') (rw m at h)))

pub of_both : (old new : List (List ℕ)) (before : Bool) (other own other' own' : List Seg) (up : ℕ) (s first whole : Seg)
    → Extends old new → HaveRopes old other → HaveRopes old own
    → IsRising (profile other) → Some up ≡ first_up own → other ≡ s ∷ other' → own ≡ first ∷ own'
    → s.up ≡ up → run_of new whole ≡ join_runs before (run_of old s) (run_of old first)
    → IsNextMoved before old new other own other' own' (Some whole)
of_both old new before other own other' own' up s first whole kept ropes own_ropes h is m n e run =
    let r = rw m at ropes in
    let q = rw n at own_ropes in
    let g : Some up ≡ Some first.up = rw n at is in
    let u : s.up ≡ first.up = cc in
    rw (m, n, run, runs_kept old new other' r.1 kept, runs_kept old new own' q.1 kept)
    (both_first before (run_of old s) (runs_of old other') (run_of old first) (runs_of old own') u (runs_rise old (s ∷ other') (rw m at h)))

pub rest_kept : (old new : List (List ℕ)) (ss rest : List Seg) (s : Seg)
    → Extends old new → HaveRopes old ss → ss ≡ s ∷ rest → HaveRopes new rest
rest_kept old new ss rest s kept h e = let r = rw e at h in ropes_kept old new rest r.1 kept

-- ---- a whole side moved in

pub moved_net : NetOfInsert → (before : Bool) (ss rs : List Run)
    → net_sum (run_profile (move_runs before ss rs)) ≡ net_sum (run_profile ss) + net_sum (run_profile rs)
moved_net net before [] rs = omega arith
moved_net net before (s ∷ ss) rs =
    let later = moved_net net before ss (insert_run before s rs) in
    let put = ap net_sum (profile_insert before s rs) in
    let law = net (run_numbers s) (run_profile rs) in
    omega (arith, later, put, law)

moved_side : NetOfInsert → InsertRises → (before : Bool) (ss rs : List Run) → AllUpsWithin (run_profile ss)
    → IsSide (run_profile rs) → net_sum (run_profile ss) + net_sum (run_profile rs) ≤ most_total
    → IsSide (run_profile (move_runs before ss rs))
moved_side net rises before [] rs ups side room = side
moved_side net rises before (s ∷ ss) rs ups side room =
    let put = profile_insert before s rs in
    let sum = ap net_sum put in
    let law = net (run_numbers s) (run_profile rs) in
    moved_side net rises before ss (insert_run before s rs) ups.1
    (side_after (run_numbers s) (run_profile rs) (run_profile (insert_run before s rs)) put side net rises ups.0 (omega arith))
    (omega (arith, sum, law))

pub net_moved : NetOfInsert → (before : Bool) (old new : List (List ℕ)) (other own own' : List Seg)
    → runs_of new own' ≡ move_runs before (runs_of old other) (runs_of old own)
    → net_sum (profile own') ≡ net_sum (profile other) + net_sum (profile own)
net_moved net before old new other own own' e =
    let m = rw (profile_runs old other, profile_runs old own) at (moved_net net before (runs_of old other) (runs_of old own)) in
    ap net_sum (sym (profile_runs new own') ∙ ap run_profile e) ∙ m

-- ---- the loop

run_profile_behind : (a b : List Run) → run_profile (a ++ b) ≡ run_profile a ++ run_profile b
run_profile_behind [] b = refl
run_profile_behind (r ∷ a) b = ap (λ (l : List Segment). run_numbers r ∷ l) (run_profile_behind a b)

runs_behind : (lists : List (List ℕ)) (a b : List Seg) → runs_of lists (a ++ b) ≡ runs_of lists a ++ runs_of lists b
runs_behind lists [] b = refl
runs_behind lists (s ∷ a) b = ap (λ (l : List Run). run_of lists s ∷ l) (runs_behind lists a b)

ropes_behind : (lists : List (List ℕ)) (a b : List Seg) → HaveRopes lists a → HaveRopes lists b → HaveRopes lists (a ++ b)
ropes_behind lists [] b h k = k
ropes_behind lists (s ∷ a) b h k = (h.0, ropes_behind lists a b h.1 k)

-- `other` and `own` are left of other0 and own0, and the row has the others
pub record Weaving (before : Bool) (ropes0 ropes : List (List ℕ)) (other0 own0 other own row : List Seg) : Type 0 where
  pub told : runs_of ropes row ++ move_runs before (runs_of ropes other) (runs_of ropes own)
      ≡ move_runs before (runs_of ropes0 other0) (runs_of ropes0 own0)
  pub row_ropes : HaveRopes ropes row
  pub other_ropes : HaveRopes ropes other
  pub own_ropes : HaveRopes ropes own
  pub kept : Extends ropes0 ropes
  pub net : net_sum (profile other) + net_sum (profile own) ≤ most_total

pub weaving_starts : (before : Bool) (ropes : List (List ℕ)) (other own row : List Seg) → row ≡ []
    → HaveRopes ropes other → HaveRopes ropes own → net_sum (profile other) + net_sum (profile own) ≤ most_total
    → Weaving before ropes ropes other own other own row
weaving_starts before ropes other own row e o w n =
    rw e (record { told = refl; row_ropes = tt; other_ropes = o; own_ropes = w; kept = extends_self ropes; net = n })

-- what both sides come to is a side
pub woven_side : NetOfInsert → InsertRises → (before : Bool) (lists : List (List ℕ)) (other own : List Seg)
    → IsSide (profile other) → IsSide (profile own) → net_sum (profile other) + net_sum (profile own) ≤ most_total
    → IsSide (run_profile (move_runs before (runs_of lists other) (runs_of lists own)))
woven_side net rises before lists other own h k room =
    let a = profile_runs lists other in
    let b = profile_runs lists own in
    moved_side net rises before (runs_of lists other) (runs_of lists own) (rw a h.1) (rw b k) (rw (a, b) room)

module _ (before : Bool) (ropes0 ropes ropes' : List (List ℕ)) (other0 own0 other own other' own' row : List Seg)
    (w : Weaving before ropes0 ropes other0 own0 other own row) (kept : Extends ropes ropes') where
  module _ (s : Seg) (next : IsNextMoved before ropes ropes' other own other' own' (Some s)) where
    put : runs_of ropes' (row ++ s ∷ []) ++ move_runs before (runs_of ropes' other') (runs_of ropes' own')
        ≡ move_runs before (runs_of ropes0 other0) (runs_of ropes0 own0)
    put =
        ap (λ (l : List Run). l ++ move_runs before (runs_of ropes' other') (runs_of ropes' own')) (runs_behind ropes' row (s ∷ []))
        ∙ append_assoc (runs_of ropes' row) (run_of ropes' s ∷ []) (move_runs before (runs_of ropes' other') (runs_of ropes' own'))
        ∙ ap (λ (l : List Run). l ++ (run_of ropes' s ∷ move_runs before (runs_of ropes' other') (runs_of ropes' own')))
        (runs_kept ropes ropes' row w.row_ropes kept)
        ∙ ap (λ (l : List Run). runs_of ropes row ++ l) (sym next)
        ∙ w.told

    pub weaving_side : IsSide (run_profile (move_runs before (runs_of ropes0 other0) (runs_of ropes0 own0)))
        → IsSide (profile (row ++ s ∷ []))
    weaving_side side =
        let rest = move_runs before (runs_of ropes' other') (runs_of ropes' own') in
        let e = ap (λ (l : List Segment). l ++ run_profile rest) (sym (profile_runs ropes' (row ++ s ∷ [])))
        ∙ sym (run_profile_behind (runs_of ropes' (row ++ s ∷ [])) rest) ∙ ap run_profile put in
        side_front (profile (row ++ s ∷ [])) (run_profile rest) (subst IsSide (sym e) side)

    pub weaving_on : (row' : List Seg) → row' ≡ row ++ s ∷ [] → IsRope ropes' s.tasks → HaveRopes ropes' other' → HaveRopes ropes' own'
        → net_sum (profile other') + net_sum (profile own') ≤ net_sum (profile other) + net_sum (profile own)
        → Weaving before ropes0 ropes' other0 own0 other' own' row'
    weaving_on row' e rope other_in own_in net = let n = w.net in rw e (record {
      told = put;
      row_ropes = ropes_behind ropes' row (s ∷ []) (ropes_kept ropes ropes' row w.row_ropes kept) (rope, tt);
      other_ropes = other_in;
      own_ropes = own_in;
      kept = extends_on ropes0 ropes ropes' w.kept kept;
      net = omega arith;
    })

  pub weaving_ends : IsNextMoved before ropes ropes' other own other' own' None
      → runs_of ropes' row ≡ move_runs before (runs_of ropes0 other0) (runs_of ropes0 own0)
  weaving_ends none =
      runs_kept ropes ropes' row w.row_ropes kept ∙ sym (nothing_behind (runs_of ropes row))
      ∙ ap (λ (l : List Run). runs_of ropes row ++ l) (sym none) ∙ w.told
    where
      nothing_behind : (l : List Run) → l ++ [] ≡ l
      nothing_behind l = grind (arith, common_steps)
