-- Walks with the tasks that they run and the greatest memory on them.
use Rattle.std.proofs.Common.{◌≡◌, ℕ, ◌+◌, ◌≤◌, inl, inr, max, refl, sym, subst, ap, arith, ◌∙◌, List, [], ◌∷◌, ◌++◌, reverse, append_assoc}
use Rattle.std.proofs.lemmas.List.{append-nil, reverse-append}
use Rattle.mp_system.specs.declared.system.Task.{Task}
use Rattle.sp_terms.specs.SystemOfTerm.{task_count}
use Rattle.sp_terms.specs.Term.{Term, hold, series, par, Parts, no_parts, part, Direction, forward, backward}
use Rattle.sp_term_laws.specs.Moves.{other}
use Rattle.sp_term_laws.specs.Moves.{State, States, memory_of, memory_of_parts}
use Rattle.sp_term_laws.specs.Ways.{Run, Runs, Way, still, onward, Ways, stills, onwards}

mutual
  run_flipped : (d : Direction) (base : ℕ) (t : Term) (s : State t) (v r : ℕ) (s' : State t)
      → Run d base t s v r s' → Run (other d) base t s' v r s
  run_flipped d base (hold size) s v r s' h = absurd h
  run_flipped d base (series a w b) (inl s) v r (inl s') h = run_flipped d base a s v r s' h
  run_flipped forward base (series a w b) (inl s) v r (inr s') h = h
  run_flipped backward base (series a w b) (inl s) v r (inr s') h = absurd h
  run_flipped forward base (series a w b) (inr s) v r (inl s') h = absurd h
  run_flipped backward base (series a w b) (inr s) v r (inl s') h = h
  run_flipped d base (series a w b) (inr s) v r (inr s') h = run_flipped d (base + task_count a) b s v r s' h
  run_flipped d base (par ts) ss v r ss' h = runs_flipped d base ts ss v r ss' h

  runs_flipped : (d : Direction) (base : ℕ) (ts : Parts) (ss : States ts) (v r : ℕ) (ss' : States ts)
      → Runs d base ts ss v r ss' → Runs (other d) base ts ss' v r ss
  runs_flipped d base no_parts ss v r ss' h = absurd h
  runs_flipped d base (part t ts) (s, ss) v r (s', ss') (inl (e, (q, h, k))) =
      inl (sym e, (q, run_flipped d base t s v q s' h, k ∙ ap (λ x. q + memory_of_parts ts x) e))
  runs_flipped d base (part t ts) (s, ss) v r (s', ss') (inr (e, (q, h, k))) =
      inr (sym e, (q, runs_flipped d (base + task_count t) ts ss v q ss' h, k ∙ ap (λ x. memory_of t x + q) e))

pub way_is : {d : Direction} {base : ℕ} {t : Term} {s s' : State t} {xs ys : List ℕ} {h k : ℕ}
    → xs ≡ ys → h ≡ k → Way d base t s xs h s' → Way d base t s ys k s'
way_is {d} {base} {t} {s} {s'} {xs} {ys} {h} {k} e f w = subst (λ z. Way d base t s z k s') e (subst (λ z. Way d base t s xs z s') f w)

pub ways_is : {d : Direction} {base : ℕ} {ts : Parts} {s s' : States ts} {xs ys : List ℕ} {h k : ℕ}
    → xs ≡ ys → h ≡ k → Ways d base ts s xs h s' → Ways d base ts s ys k s'
ways_is {d} {base} {ts} {s} {s'} {xs} {ys} {h} {k} e f w =
    subst (λ z. Ways d base ts s z k s') e (subst (λ z. Ways d base ts s xs z s') f w)

pub way-end : {d : Direction} {base : ℕ} {t : Term} {s s' : State t} {xs : List ℕ} {h : ℕ} → Way d base t s xs h s' → memory_of t s' ≤ h
way-end (still s) = omega arith
way-end (onward v r w step) = omega arith

pub way-begin : {d : Direction} {base : ℕ} {t : Term} {s s' : State t} {xs : List ℕ} {h : ℕ} → Way d base t s xs h s' → memory_of t s ≤ h
way-begin (still s) = omega arith
way-begin (onward v r w step) = omega (arith, way-begin w)

ways-end : {d : Direction} {base : ℕ} {ts : Parts} {s s' : States ts} {xs : List ℕ} {h : ℕ}
    → Ways d base ts s xs h s' → memory_of_parts ts s' ≤ h
ways-end (stills s) = omega arith
ways-end (onwards v r w step) = omega arith

pub way_joined : {d : Direction} {base : ℕ} {t : Term} {s s' s'' : State t} {xs ys : List ℕ} {h k : ℕ}
    → Way d base t s xs h s' → Way d base t s' ys k s'' → Way d base t s (xs ++ ys) (max h k) s''
way_joined {xs = xs} w (still s) = way_is (sym (append-nil xs)) (omega (arith, way-end w)) w
way_joined {xs = xs} w (onward {xs = ys} v r u step) = way_is (append_assoc xs ys (v ∷ [])) (omega arith) (onward v r (way_joined w u) step)

pub ways_joined : {d : Direction} {base : ℕ} {ts : Parts} {s s' s'' : States ts} {xs ys : List ℕ} {h k : ℕ}
    → Ways d base ts s xs h s' → Ways d base ts s' ys k s'' → Ways d base ts s (xs ++ ys) (max h k) s''
ways_joined {xs = xs} w (stills s) = ways_is (sym (append-nil xs)) (omega (arith, ways-end w)) w
ways_joined {xs = xs} w (onwards {xs = ys} v r u step) =
    ways_is (append_assoc xs ys (v ∷ [])) (omega arith) (onwards v r (ways_joined w u) step)

pub one_step : {d : Direction} {base : ℕ} {t : Term} {s s' : State t} (v r : ℕ)
    → Run d base t s v r s' → Way d base t s (v ∷ []) (max (memory_of t s) (max r (memory_of t s'))) s'
one_step {s = s} v r step = onward v r (still s) step

-- the way back
pub way_back : (d : Direction) {base : ℕ} {t : Term} {s s' : State t} {xs : List ℕ} {h : ℕ}
    → Way d base t s xs h s' → Way (other d) base t s' (reverse xs) h s
way_back d (still s) = still s
way_back d {base} {t} (onward {s = s} {s' = s'} {s'' = s''} {xs = xs} v r w step) =
    way_is (sym (reverse_snoc xs v)) (omega (arith, way-end w))
    (way_joined (one_step v r (run_flipped d base t s' v r s'' step)) (way_back d w))
  where
    reverse_snoc : (xs : List ℕ) (v : ℕ) → reverse (xs ++ v ∷ []) ≡ v ∷ reverse xs
    reverse_snoc xs v = reverse-append xs (v ∷ [])

-- ways of parts are ways of the whole
pub in_first : {d : Direction} {base : ℕ} {a : Term} (w : Task) (b : Term) {s s' : State a} {xs : List ℕ} {h : ℕ}
    → Way d base a s xs h s' → Way d base (series a w b) (inl s) xs h (inl s')
in_first w b (still s) = still (inl s)
in_first w b (onward v r u step) = onward v r (in_first w b u) step

pub in_second : {d : Direction} {base : ℕ} (a : Term) (w : Task) {b : Term} {s s' : State b} {xs : List ℕ} {h : ℕ}
    → Way d (base + task_count a) b s xs h s' → Way d base (series a w b) (inr s) xs h (inr s')
in_second a w (still s) = still (inr s)
in_second a w (onward v r u step) = onward v r (in_second a w u) step

pub in_par : {d : Direction} {base : ℕ} {ts : Parts} {s s' : States ts} {xs : List ℕ} {h : ℕ}
    → Ways d base ts s xs h s' → Way d base (par ts) s xs h s'
in_par (stills s) = still s
in_par (onwards v r u step) = onward v r (in_par u) step

pub in_head : {d : Direction} {base : ℕ} {t : Term} (ts : Parts) (ss : States ts) {s s' : State t} {xs : List ℕ} {h : ℕ}
    → Way d base t s xs h s' → Ways d base (part t ts) (s, ss) xs (h + memory_of_parts ts ss) (s', ss)
in_head ts ss (still s) = stills (s, ss)
in_head {d} {base} {t} ts ss (onward {s'' = s''} v r u step) =
    ways_is refl (omega arith) (onwards v (r + memory_of_parts ts ss) (in_head ts ss u) (inl (refl, (r, step, refl))))

pub in_tail : {d : Direction} {base : ℕ} (t : Term) (s : State t) {ts : Parts} {ss ss' : States ts} {xs : List ℕ} {h : ℕ}
    → Ways d (base + task_count t) ts ss xs h ss' → Ways d base (part t ts) (s, ss) xs (memory_of t s + h) (s, ss')
in_tail t s (stills ss) = stills (s, ss)
in_tail {d} {base} t s {ts} (onwards v r u step) =
    ways_is refl (omega arith) (onwards v (memory_of t s + r) (in_tail t s u) (inr (refl, (r, step, refl))))
