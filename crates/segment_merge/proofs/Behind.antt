-- Behind a side that is lower throughout, putting in and putting behind are the same.
use Rattle.std.proofs.Common.{◌≡◌, ℕ, ◌<◌, max, List, [], ◌∷◌, refl, ap, sym, ◌∙◌, arith, subst, false}
use Rattle.side_laws.specs.Segments.{Segment, IsRising, StartsAbove, last_up}
use Rattle.hill_valley.specs.Side.{Run, run_numbers, run_profile, insert_run, append_run}
use Rattle.segment_merge.specs.Merging.{insert_runs, move_runs}
use Rattle.segment_merge.specs.Crossing.{append_runs}
use Rattle.hill_valley.specs.Laws.{RunLaws}
use Rattle.segment_merge.proofs.Order.{rising_put, moved_behind}
use Rattle.std.proofs.lemmas.Bool.Decides.{nat_tests}
use Rattle.hill_valley.proofs.Last.{lift_self}

last_behind_step : (s e : Run) → e.up < s.up → last_up (run_profile (insert_run false s (e ∷ []))) ≡ s.up
last_behind_step s e h = grind (arith, nat_tests)

further : (s m n : Run) (ms : List Run) → m.up < s.up → n.up < s.up
    → last_up (run_profile (insert_run false s (m ∷ n ∷ ms))) ≡ last_up (run_profile (insert_run false s (n ∷ ms)))
further s m n ms h k = grind (arith, nat_tests)

last_from : (m n : Segment) (ms : List Segment) → IsRising (m ∷ n ∷ ms) → m.up < last_up (n ∷ ms)
last_from m n [] r = r.0
last_from m n (o ∷ ms) r = let h = last_from n o ms r.1 in let q = r.0 in omega arith

low : (s f : Run) (es : List Run) → IsRising (run_profile (f ∷ es)) → last_up (run_profile (f ∷ es)) < s.up → f.up < s.up
low s f [] r h = h
low s f (g ∷ es) r h = let q = last_from (run_numbers f) (run_numbers g) (run_profile es) r in omega arith

pub last_behind : (s : Run) (es : List Run) → IsRising (run_profile es)
    → last_up (run_profile es) < s.up → last_up (run_profile (insert_run false s es)) ≡ s.up
last_behind s [] r h = refl
last_behind s (e ∷ []) r h = last_behind_step s e h
last_behind s (e ∷ f ∷ es) r h =
    further s e f es (let q = last_from (run_numbers e) (run_numbers f) (run_profile es) r in omega arith) (low s f es r.1 h)
    ∙ last_behind s (f ∷ es) r.1 h

pub appends_moved : RunLaws → (far near : List Run) → IsRising (run_profile near) → IsRising (run_profile far)
    → StartsAbove (last_up (run_profile near)) (run_profile far) → append_runs far near ≡ move_runs false far near
appends_moved laws [] near rn rf h = refl
appends_moved laws (s ∷ far) near rn rf h =
    let m : max (last_up (run_profile near)) s.up ≡ s.up = omega arith in
    let one : append_run s near ≡ insert_run false s near =
    laws.appended s near rn ∙ ap (λ (r : Run). insert_run false r near) (lift_self (max (last_up (run_profile near)) s.up) s m) in
    ap (append_runs far) one
    ∙ appends_moved laws far (insert_run false s near) (rising_put laws s near rn) rf.1
    (subst (λ (k : ℕ). StartsAbove k (run_profile far)) (sym (last_behind s near rn h)) rf.0)

-- so either side may be moved into the other
pub appends_insert : RunLaws → (far near : List Run) → IsRising (run_profile near) → IsRising (run_profile far)
    → StartsAbove (last_up (run_profile near)) (run_profile far) → append_runs far near ≡ insert_runs near far
appends_insert laws far near rn rf h = appends_moved laws far near rn rf h ∙ moved_behind laws far near rf rn
