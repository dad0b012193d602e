-- Sides that are run: each segment's tasks lead from its level to the next.
use Rattle.std.proofs.Common.{◌≡◌, ℕ, ◌+◌, ◌-◌, ◌<◌, ◌≤◌, inl, inr, max, refl, sym, subst, ap, arith, ◌∙◌, List, [], ◌∷◌, ◌++◌}
use Rattle.std.proofs.lemmas.Bool.Decides.{nat_tests}
use Rattle.mp_system.specs.declared.system.Task.{Task}
use Rattle.side_laws.specs.Segments.{net_sum, top}
use Rattle.hill_valley.specs.Side.{Run, run_profile, tasks_of, append_run}
use Rattle.segment_merge.specs.Crossing.{append_runs, hill_run, cross_hill_runs}
use Rattle.sp_terms.specs.Term.{Term, series, Direction, forward, backward, hill_of, first_memory}
use Rattle.sp_term_laws.specs.Moves.{State, memory_of, first_state}
use Rattle.cut_laws.specs.Below.{TermLaws}
use Rattle.cut_laws.specs.Cuts.{over_task}
use Rattle.cut_laws.proofs.Leading.{LeadsDown}
use Rattle.cut_laws.specs.Names.{Names}
use Rattle.cut_laws.proofs.NamedWays.{NamedWay, still}
use Rattle.lists.proofs.Orders.{lt_or_le}
use Rattle.cut_laws.proofs.Ways.{way_is, way_begin, way_joined, one_step, way_back, in_first, in_second}
use Rattle.hill_valley.proofs.Last.{lower, behind}

pub down_net : (d : Direction) (t : Term) (n : Names t) (s : State t) (gs : List Run) (s' : State t)
    → LeadsDown d t n s gs s' → memory_of t s' + net_sum (run_profile gs) ≡ memory_of t s
down_net d t n s [] s' e = omega (arith, ap (memory_of t) e)
down_net d t n s (g ∷ gs) s' (m, w, e, h) = omega (arith, e, down_net d t n m gs s' h)

pub down_way : (d : Direction) (t : Term) (n : Names t) (s : State t) (gs : List Run) (s' : State t)
    → LeadsDown d t n s gs s' → NamedWay d t n s (tasks_of gs) (top (memory_of t s) (run_profile gs)) s'
down_way d t n s [] s' e = subst (NamedWay d t n s [] (memory_of t s)) e (still s)
down_way d t n s (g ∷ gs) s' (m, w, e, h) =
    let level : memory_of t m ≡ memory_of t s - g.net = omega arith in
    way_is refl (ap (λ x. max (memory_of t s + g.up) (top x (run_profile gs))) level) (way_joined w (down_way d t n m gs s' h))

down_in_first :
    (d : Direction) (a : Term) (w : Task) (b : Term) (na : Names a) (x : ℕ) (nb : Names b) (s : State a) (gs : List Run) (s' : State a)
    → LeadsDown d a na s gs s' → LeadsDown d (series a w b) (na, x, nb) (inl s) gs (inl s')
down_in_first d a w b na x nb s [] s' e = ap inl e
down_in_first d a w b na x nb s (g ∷ gs) s' (m, u, e, h) = (inl m, in_first w b x nb u, e, down_in_first d a w b na x nb m gs s' h)

down_in_second :
    (d : Direction) (a : Term) (w : Task) (b : Term) (na : Names a) (x : ℕ) (nb : Names b) (s : State b) (gs : List Run) (s' : State b)
    → LeadsDown d b nb s gs s' → LeadsDown d (series a w b) (na, x, nb) (inr s) gs (inr s')
down_in_second d a w b na x nb s [] s' e = ap inr e
down_in_second d a w b na x nb s (g ∷ gs) s' (m, u, e, h) = (inr m, in_second a w na x u, e, down_in_second d a w b na x nb m gs s' h)

-- ---- a run at the end

pub down_append : (d : Direction) (t : Term) (n : Names t) (s : State t) (gs : List Run) (r : Run) (s' s'' : State t)
    → LeadsDown d t n s gs s' → NamedWay d t n s' r.tasks (memory_of t s' + r.up) s''
    → memory_of t s'' + r.net ≡ memory_of t s' → LeadsDown d t n s (append_run r gs) s''
down_append d t n s [] r s' s'' e w k =
    (s'', subst (λ x. NamedWay d t n x r.tasks (memory_of t x + r.up) s'') (sym e) w, k ∙ ap (memory_of t) (sym e), refl)
down_append d t n s (a ∷ []) r s' s'' (m, u, f, e) w k = elim (lt_or_le a.up r.up) [
  | inl h ↦ subst (λ x. LeadsDown d t n s x s'') (sym (behind r a h))
      (m, u, f, (s'', subst (λ x. NamedWay d t n x r.tasks (memory_of t x + r.up) s'') (sym e) w, k ∙ ap (memory_of t) (sym e), refl))
  | inr h ↦ subst (λ x. LeadsDown d t n s x s'') (sym (lower r a h))
      (let q = ap (memory_of t) e in (
        s'',
        way_is refl (omega (arith, q, f)) (way_joined (subst (NamedWay d t n s a.tasks (memory_of t s + a.up)) e u) w),
        omega (arith, q, f, k),
        refl,
      ))
]
down_append d t n s (a ∷ b ∷ gs) r s' s'' (m, u, f, h) w k = (m, u, f, down_append d t n m (b ∷ gs) r s' s'' h w k)

down_append_all : (d : Direction) (t : Term) (n : Names t) (s : State t) (far near : List Run) (s' s'' : State t)
    → LeadsDown d t n s near s' → LeadsDown d t n s' far s'' → LeadsDown d t n s (append_runs far near) s''
down_append_all d t n s [] near s' s'' h e = subst (LeadsDown d t n s near) e h
down_append_all d t n s (r ∷ rs) near s' s'' h (m, w, k, l) =
    down_append_all d t n s rs (append_run r near) m s'' (down_append d t n s near r s' m h w k) l

-- ---- over a hill

stop_is : (end hill level : ℕ) (ts : List ℕ) (s : Run) (ss near : List Run) → level ≤ end
    → cross_hill_runs end hill level ts (s ∷ ss) near ≡ append_runs (s ∷ ss) (append_run (hill_run end hill level ts) near)
stop_is end hill level ts s ss near h = grind (arith, nat_tests)

on_is : (end hill level : ℕ) (ts : List ℕ) (s : Run) (ss near : List Run) → end < level
    → cross_hill_runs end hill level ts (s ∷ ss) near
    ≡ cross_hill_runs end (max hill (level + s.up)) (level - s.net) (ts ++ s.tasks) ss near
on_is end hill level ts s ss near h = grind (arith, nat_tests)

down_over : (d : Direction) (t : Term) (n : Names t) (hill : ℕ) (ts : List ℕ) (s0 s1 s2 : State t) (near : List Run)
    → LeadsDown d t n s0 near s1 → NamedWay d t n s1 ts hill s2 → memory_of t s2 ≤ memory_of t s1
    → LeadsDown d t n s0 (append_run (hill_run (memory_of t s1) hill (memory_of t s2) ts) near) s2
down_over d t n hill ts s0 s1 s2 near h w le =
    down_append d t n s0 near (hill_run (memory_of t s1) hill (memory_of t s2) ts) s1 s2 h
    (way_is refl (omega (arith, way_begin w)) w) (omega arith)

pub down_through : (d : Direction) (t : Term) (n : Names t) (hill : ℕ) (ts : List ℕ) (s0 s1 s2 s3 : State t) (far near : List Run)
    → LeadsDown d t n s0 near s1 → NamedWay d t n s1 ts hill s2 → LeadsDown d t n s2 far s3
    → memory_of t s2 ≤ memory_of t s1 + net_sum (run_profile far)
    → LeadsDown d t n s0 (cross_hill_runs (memory_of t s1) hill (memory_of t s2) ts far near) s3
down_through d t n hill ts s0 s1 s2 s3 [] near h w e le =
    subst (LeadsDown d t n s0 (append_run (hill_run (memory_of t s1) hill (memory_of t s2) ts) near)) e
    (down_over d t n hill ts s0 s1 s2 near h w (omega arith))
down_through d t n hill ts s0 s1 s2 s3 (a ∷ far) near h w (s, u, f, k) le = elim (lt_or_le (memory_of t s1) (memory_of t s2)) [
  | inl m ↦ subst (λ x. LeadsDown d t n s0 x s3) (sym (on_is (memory_of t s1) hill (memory_of t s2) ts a far near m))
      (let level : memory_of t s ≡ memory_of t s2 - a.net = omega arith in
      subst (λ x. LeadsDown d t n s0 (cross_hill_runs (memory_of t s1) (max hill (memory_of t s2 + a.up)) x (ts ++ a.tasks) far near) s3)
      level
      (down_through d t n (max hill (memory_of t s2 + a.up)) (ts ++ a.tasks) s0 s1 s s3 far near h (way_joined w u) k (omega arith)))
  | inr m ↦ subst (λ x. LeadsDown d t n s0 x s3) (sym (stop_is (memory_of t s1) hill (memory_of t s2) ts a far near m))
      (down_append_all d t n s0 (a ∷ far) (append_run (hill_run (memory_of t s1) hill (memory_of t s2) ts) near) s2 s3
      (down_over d t n hill ts s0 s1 s2 near h w m) (s, u, f, k))
]

-- ---- the sides of a series

module _ (laws : TermLaws) (a : Term) (w : Task) (b : Term) (na : Names a)
    (x : ℕ) (nb : Names b) (allowed : w.share ≤ first_memory backward a) where
  pub first_here : (sa : List Run) (ca : State a) → LeadsDown forward a na (first_state forward a) sa ca
      → LeadsDown forward (series a w b) (na, x, nb) (inl (first_state forward a)) sa (inl ca)
  first_here sa ca h = down_in_first forward a w b na x nb (first_state forward a) sa ca h

  pub second_here : (sb : List Run) (cb : State b) → LeadsDown backward b nb (first_state backward b) sb cb
      → LeadsDown backward (series a w b) (na, x, nb) (inr (first_state backward b)) sb (inr cb)
  second_here sb cb h = down_in_second backward a w b na x nb (first_state backward b) sb cb h

  -- the back leads over the second part and the task
  pub first_over : (sa sb ob : List Run) (ca : State a) (cb : State b) → memory_of a ca ≤ memory_of b cb
      → LeadsDown backward b nb (first_state backward b) sb cb
      → LeadsDown forward b nb (first_state forward b) ob cb → LeadsDown backward a na (first_state backward a) sa ca
      → LeadsDown backward (series a w b) (na, x, nb) (inr (first_state backward b))
      (cross_hill_runs (memory_of b cb) (max (top (first_memory forward b) (run_profile ob)) (hill_of a w b))
      (first_memory backward a) (over_task ob x) sa sb) (inl ca)
  first_over sa sb ob ca cb le hb ob_down ha =
      let up = way_back forward (down_way forward b nb (first_state forward b) ob cb ob_down) in
      let fa = laws.first backward a in
      let fb = laws.first forward b in
      let mid = one_step {d = backward} {t = series a w b} {n = (na, x, nb)} {s = inr (first_state forward b)}
      {s' = inl (first_state backward a)} x (hill_of a w b) (refl, refl, refl, refl) in
      let high : ℕ = max (top (first_memory forward b) (run_profile ob)) (hill_of a w b) in
      let over : NamedWay backward (series a w b) (na, x, nb) (inr cb) (over_task ob x) high (inl (first_state backward a)) =
      way_is refl (omega (arith, fa, fb, ap (λ n. top n (run_profile ob)) fb)) (way_joined (in_second a w na x up) mid) in
      let net = down_net backward a na (first_state backward a) sa ca ha in
      subst (λ n. LeadsDown backward (series a w b) (na, x, nb) (inr (first_state backward b))
      (cross_hill_runs (memory_of b cb) high n (over_task ob x) sa sb) (inl ca)) fa
      (down_through backward (series a w b) (na, x, nb) high (over_task ob x)
      (inr (first_state backward b)) (inr cb) (inl (first_state backward a)) (inl ca) sa sb
      (down_in_second backward a w b na x nb (first_state backward b) sb cb hb) over
      (down_in_first backward a w b na x nb (first_state backward a) sa ca ha) (omega arith))

  -- the front leads over the first part and the task
  pub second_over : (sa oa sb : List Run) (ca : State a) (cb : State b) → memory_of b cb ≤ memory_of a ca
      → LeadsDown forward a na (first_state forward a) sa ca
      → LeadsDown backward a na (first_state backward a) oa ca → LeadsDown forward b nb (first_state forward b) sb cb
      → LeadsDown forward (series a w b) (na, x, nb) (inl (first_state forward a))
      (cross_hill_runs (memory_of a ca) (max (top (first_memory backward a) (run_profile oa)) (hill_of a w b))
      (first_memory forward b) (over_task oa x) sb sa) (inr cb)
  second_over sa oa sb ca cb le ha oa_down hb =
      let up = way_back backward (down_way backward a na (first_state backward a) oa ca oa_down) in
      let fa = laws.first backward a in
      let fb = laws.first forward b in
      let mid =
      one_step {d = forward} {t = series a w b} {n = (na, x, nb)} {s = inl (first_state backward a)} {s' = inr (first_state forward b)}
      x (hill_of a w b) (refl, refl, refl, refl) in
      let high : ℕ = max (top (first_memory backward a) (run_profile oa)) (hill_of a w b) in
      let over : NamedWay forward (series a w b) (na, x, nb) (inl ca) (over_task oa x) high (inr (first_state forward b)) =
      way_is refl (omega (arith, fa, fb, ap (λ n. top n (run_profile oa)) fa)) (way_joined (in_first w b x nb up) mid) in
      let net = down_net forward b nb (first_state forward b) sb cb hb in
      subst (λ n. LeadsDown forward (series a w b) (na, x, nb) (inl (first_state forward a))
      (cross_hill_runs (memory_of a ca) high n (over_task oa x) sb sa) (inr cb)) fb
      (down_through forward (series a w b) (na, x, nb) high (over_task oa x)
      (inl (first_state forward a)) (inl ca) (inr (first_state forward b)) (inr cb) sb sa
      (down_in_first forward a w b na x nb (first_state forward a) sa ca ha) over
      (down_in_second forward a w b na x nb (first_state forward b) sb cb hb) (omega arith))
