-- The last segment, and a run put behind it.
use Rattle.std.proofs.Common.{◌≡◌, ℕ, suc, ◌-◌, ◌<◌, ◌≤◌, max, List, [], ◌∷◌, refl, ap}
use Rattle.std.proofs.Common.{sym, ◌∙◌, arith, subst, Some, inl, inr, false, length}
use Rattle.std.specs.List.{slice_get}
use Rattle.std.proofs.lemmas.Bool.Decides.{nat_tests}
use Rattle.std.proofs.lemmas.Grind.{common_steps}
use Rattle.limits.specs.Limits.{most_total}
use Rattle.side_laws.specs.Segments.{Segment, IsRising, last_up}
use Rattle.hill_valley.specs.Side.{profile, AllUpsWithin, Run, run_numbers, run_profile, join_runs, insert_run, append_run}
use Rattle.hill_valley.specs.Descents.{segs_of}
use Rattle.hill_valley.proofs.Inserting.{Entry}
use Rattle.lists.proofs.Orders.{lt_or_le}
use Rattle.side_laws.proofs.Lowest.{last_ge}

pub last_within : (ss : List Segment) → AllUpsWithin ss → last_up ss ≤ most_total
last_within [] h = omega arith
last_within (s ∷ []) h = h.0
last_within (s ∷ t ∷ ss) h = last_within (t ∷ ss) h.1

pub last_at : (es : List Entry) (e : Entry) → slice_get es (length es - 1) ≡ Some e → e.0 ≡ last_up (profile (segs_of es))
last_at [] e h = absurd (cc)
last_at (f ∷ []) e h = let z : length (f ∷ []) - 1 ≡ 0 = omega arith in
    let h' = subst (λ (k : ℕ). slice_get (f ∷ []) k ≡ Some e) z h in
    grind (arith, common_steps)
last_at (f ∷ g ∷ es) e h = last_at (g ∷ es) e
    (let z : length (f ∷ g ∷ es) - 1 ≡ suc (length (g ∷ es) - 1) = omega arith in subst (λ (k : ℕ). slice_get (f ∷ g ∷ es) k ≡ Some e) z h)

-- a run with another `up`
abbrev pub lift : ℕ → Run → Run
lift k r = record { up = k; net = r.net; tasks = r.tasks }

past_step : (k : ℕ) (r s : Run) (ss : List Run) → s.up < k → insert_run false (lift k r) (s ∷ ss) ≡ s ∷ insert_run false (lift k r) ss
past_step k r s ss h = grind (arith, nat_tests)

at_step : (k : ℕ) (r s : Run) (ss : List Run) → k ≡ s.up → insert_run false (lift k r) (s ∷ ss) ≡ join_runs false r s ∷ ss
at_step k r s ss h = grind (arith, nat_tests)

append_step : (r s t : Run) (ss : List Run) (top : ℕ) → s.up < t.up → t.up ≤ top
    → append_run r (t ∷ ss) ≡ insert_run false (lift (max top r.up) r) (t ∷ ss)
    → append_run r (s ∷ t ∷ ss) ≡ insert_run false (lift (max top r.up) r) (s ∷ t ∷ ss)
append_step r s t ss top lt le ih =
    let high : s.up < max top r.up = omega arith in
    ap (λ (l : List Run). s ∷ l) ih ∙ sym (past_step (max top r.up) r s (t ∷ ss) high)

pub lower : (r s : Run) → r.up ≤ s.up → append_run r (s ∷ []) ≡ join_runs false r s ∷ []
lower r s h = grind (arith, nat_tests)

pub behind : (r s : Run) → s.up < r.up → append_run r (s ∷ []) ≡ s ∷ r ∷ []
behind r s h = grind (arith, nat_tests)

pub lift_self : (k : ℕ) (r : Run) → k ≡ r.up → lift k r ≡ r
lift_self k r h = rw h refl

higher : (r s : Run) → s.up < r.up → append_run r (s ∷ []) ≡ insert_run false (lift (max s.up r.up) r) (s ∷ [])
higher r s h = behind r s h ∙ ap (λ (x : Run). s ∷ x ∷ []) (sym (lift_self (max s.up r.up) r (omega arith)))
    ∙ sym (past_step (max s.up r.up) r s [] (omega arith))

one_step : (r s : Run) → append_run r (s ∷ []) ≡ insert_run false (lift (max s.up r.up) r) (s ∷ [])
one_step r s = elim (lt_or_le s.up r.up) [
  | inl h ↦ higher r s h
  | inr h ↦ lower r s h ∙ sym (at_step (max s.up r.up) r s [] (omega arith))
]

-- a run behind the last is one that is put in at its `up`, or at that of the last
pub append_is : (r : Run) (ss : List Run) → IsRising (run_profile ss)
    → append_run r ss ≡ insert_run false (lift (max (last_up (run_profile ss)) r.up) r) ss
append_is r [] h = ap (λ (x : Run). x ∷ []) (sym (lift_self (max 0 r.up) r (omega arith)))
append_is r (s ∷ []) h = one_step r s
append_is r (s ∷ t ∷ ss) h =
    append_step r s t ss (last_up (run_profile (t ∷ ss))) h.0 (last_ge (run_numbers t) (run_profile ss) h.1) (append_is r (t ∷ ss) h.1)
