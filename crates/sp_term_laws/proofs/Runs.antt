-- The traversals of a term's system are the ways through its states from the first to the last.
use Rattle.std.proofs.Common.{◌≡◌, ℕ, ◌+◌, ◌<◌, ◌≤◌, inl, inr, max, refl, sym, subst, ap, arith}
use Rattle.std.proofs.Common.{◌∙◌, List, [], ◌∷◌, ◌++◌, length, reverse, append_assoc, None}
use Rattle.std.specs.Prelude.{◌↔◌}
use Rattle.std.proofs.lemmas.List.{append-nil}
use Rattle.mp_system.specs.System.{TaskSystem}
use Rattle.mp_system.specs.Memory.{peak_from, peak_of}
use Rattle.mp_system.specs.Traversal.{IsTraversal}
use Rattle.sp_terms.specs.SystemOfTerm.{own_number, task_count, tasks_of_term, items_of_term, system_of_term}
use Rattle.sp_terms.specs.Term.{Term, hold, series, par, Parts, no_parts, part, Direction, forward, backward, IsAllowed, AreAllowed}
use Rattle.sp_term_laws.specs.Along.{memory_after, memory_while}
use Rattle.sp_term_laws.specs.Moves.{State, States, memory_of, memory_of_parts, first_state, Step, Steps, Reached, begin, next}
use Rattle.sp_term_laws.specs.Ways.{Run, Runs, Way, still, onward}
use Rattle.sp_term_laws.proofs.At.{At, Ended}
use Rattle.sp_term_laws.proofs.Every.{legal_traversal, legal_append}
use Rattle.sp_term_laws.proofs.Forth.{run-next}
use Rattle.sp_term_laws.proofs.InTurn.{trail-to, trail-from}
use Rattle.sp_term_laws.proofs.Named.{run-at}
use Rattle.sp_term_laws.proofs.Next.{length-tasks, at-ended}
use Rattle.sp_term_laws.proofs.Orders.{IsLegal, legal_split, ended_last, memory_at, start_at, traversal-legal, traversal-ended}
use Rattle.sp_term_laws.proofs.Parts.{HasParts}
use Rattle.sp_term_laws.proofs.Trails.{Trail}
use Rattle.sp_term_laws.proofs.Walks.{mem-first}
use Rattle.sp_term_laws.proofs.Ways.{way_is, way-begin, way_joined, one_step, way_back}

-- one more task at the front of a way

pub way-cons : {d : Direction} {base : ℕ} {t : Term} {s s1 s' : State t} {xs : List ℕ} {h : ℕ} (v r : ℕ)
    → Run d base t s v r s1 → Way d base t s1 xs h s' → Way d base t s (v ∷ xs) (max (memory_of t s) (max r h)) s'
way-cons {d} {base} {t} {s} {s1} v r step w = way_is refl (omega (arith, way-begin w)) (way_joined (one_step v r step) w)

-- the peak with one more task at the end

peak-push : (s : TaskSystem) (done p : List ℕ) (v : ℕ)
    → peak_from s done (p ++ v ∷ [])
    ≡ max (peak_from s done p) (max (memory_while s (done ++ p) v) (memory_after s ((done ++ p) ++ v ∷ [])))
peak-push s done [] v = let same : done ++ [] ≡ done = append-nil done in rw same (omega arith)
peak-push s done (x ∷ p) v =
    let more = peak-push s (done ++ x ∷ []) p v in
    let same : (done ++ x ∷ []) ++ p ≡ done ++ x ∷ p = append_assoc done (x ∷ []) p in
    let running = ap (λ (l : List ℕ). memory_while s l v) same in
    let after = ap (λ (l : List ℕ). memory_after s (l ++ v ∷ [])) same in
    omega (arith, more, running, after)

module _ (t : Term) (g : HasParts t) where
  pub record Walks (done rest : List ℕ) (s : State t) : Type 0 where
    pub after : State t
    pub stands : At 1 (done ++ rest) t after
    pub way : Way forward 1 t s rest (peak_from (system_of_term t) done rest) after

  pub legal-way : (done rest : List ℕ) (s : State t) → At 1 done t s
      → IsLegal (length (tasks_of_term t)) (items_of_term 1 None None t) done rest → Walks done rest s
  legal-way done [] s h l = record { after = s; stands = rw append-nil h; way = way_is refl (sym (memory_at t g done s h)) (still s) }
  legal-way done (v ∷ rest) s h (m, n, r, l) =
      let y = run-next 1 None None done t s v g h m.0 (omega (arith, m.1, length-tasks t)) refl n r in
      let z = legal-way (done ++ v ∷ []) rest y.after y.stands l in
      record {
        after = z.after;
        stands = rw (append_assoc done (v ∷ []) rest) at z.stands;
        way = way_is refl (omega (arith, y.is, memory_at t g done s h)) (way-cons v y.running y.step z.way);
      }

  pub record Legal (done : List ℕ) (xs : List ℕ) (h : ℕ) (after : State t) : Type 0 where
    pub legal : IsLegal (length (tasks_of_term t)) (items_of_term 1 None None t) done xs
    pub stands : At 1 (done ++ xs) t after
    pub peak : h ≡ peak_from (system_of_term t) done xs

  pub way-legal : (done : List ℕ) {s s' : State t} {xs : List ℕ} {h : ℕ} → At 1 done t s → Way forward 1 t s xs h s' → Legal done xs h s'
  way-legal done at (still s) = record { legal = tt; stands = rw append-nil at; peak = sym (memory_at t g done s at) }
  way-legal done at (onward {s' = s1} {s'' = s2} {xs = xs} v r w step) =
      let z = way-legal done at w in
      let y = run-at 1 None None (done ++ xs) t s1 v r s2 z.stands step refl (λ a p q. refl) (λ a p q. refl) in
      let stands : At 1 ((done ++ xs) ++ v ∷ []) t s2 = subst (λ u. At 1 ((done ++ xs) ++ u ∷ []) t s2) y.same y.stands in
      let known : (1 ≤ v) × (v ≤ length (tasks_of_term t)) =
      subst (λ x. (1 ≤ x) × (x ≤ length (tasks_of_term t))) y.same (y.low, omega (arith, y.high, length-tasks t)) in
      let legal_one : IsLegal (length (tasks_of_term t)) (items_of_term 1 None None t) (done ++ xs) (v ∷ []) =
      subst (λ x. IsLegal (length (tasks_of_term t)) (items_of_term 1 None None t) (done ++ xs) (x ∷ [])) y.same
      ((y.low, omega (arith, y.high, length-tasks t)), y.new, y.ready, tt) in
      let running : r ≡ memory_while (system_of_term t) (done ++ xs) v = subst (λ x. r ≡ memory_while (system_of_term t) (done ++ xs) x)
      y.same (y.is ∙ (omega (arith, memory_at t g (done ++ xs) s1 z.stands))) in
      record {
        legal = legal_append _ _ done xs (v ∷ []) z.legal legal_one;
        stands = rw (append_assoc done xs (v ∷ [])) at stands;
        peak = omega (arith, z.peak, running, memory_at t g ((done ++ xs) ++ v ∷ []) s2 stands, peak-push (system_of_term t) done xs v);
      }

  ends : (order : List ℕ) → IsTraversal (system_of_term t) order → Ended 1 (task_count t) order
  ends order tr v l m = traversal-ended (system_of_term t) order tr v l (omega (arith, length-tasks t))

  pub traversal-way : (order : List ℕ) → IsTraversal (system_of_term t) order
      → Way forward 1 t (first_state forward t) order (peak_of (system_of_term t) order) (first_state backward t)
  traversal-way order tr =
      let z = legal-way [] order (first_state forward t) (start_at t g) (traversal-legal (system_of_term t) order tr) in
      subst (λ s. Way forward 1 t (first_state forward t) order (peak_of (system_of_term t) order) s)
      (ended_last 1 order t z.after z.stands (ends order tr)) z.way

  pub way-traversal : (order : List ℕ) (h : ℕ) → Way forward 1 t (first_state forward t) order h (first_state backward t)
      → IsTraversal (system_of_term t) order × (h ≡ peak_of (system_of_term t) order)
  way-traversal order h w =
      let z = way-legal [] (start_at t g) w in
      (legal_traversal (system_of_term t) order z.legal (λ v l m. at-ended 1 order t z.stands v l (omega (arith, length-tasks t))), z.peak)

  -- a traversal that is cut

  pub record Cut (done rest : List ℕ) (s : State t) (h k : ℕ) : Type 0 where
    pub traversal : IsTraversal (system_of_term t) (done ++ rest)
    pub memory : memory_after (system_of_term t) done ≡ memory_of t s
    pub before : h ≡ peak_of (system_of_term t) done
    pub after : k ≡ peak_from (system_of_term t) done rest

  pub ways-cut : (done rest : List ℕ) (s : State t) (h k : ℕ) → Way forward 1 t (first_state forward t) done h s
      → Way forward 1 t s rest k (first_state backward t) → Cut done rest s h k
  ways-cut done rest s h k w u =
      let one = way-legal [] (start_at t g) w in
      let two = way-legal done one.stands u in
      record {
        traversal = legal_traversal (system_of_term t) (done ++ rest) (legal_append _ _ [] done rest one.legal two.legal)
            (λ v l m. at-ended 1 (done ++ rest) t two.stands v l (omega (arith, length-tasks t)));
        memory = memory_at t g done s one.stands;
        before = one.peak;
        after = two.peak;
      }

  pub cut-ways : (done rest : List ℕ) → IsTraversal (system_of_term t) (done ++ rest)
      → (s : State t) × (memory_after (system_of_term t) done ≡ memory_of t s)
      × Way forward 1 t (first_state forward t) done (peak_of (system_of_term t) done) s
      × Way forward 1 t s rest (peak_from (system_of_term t) done rest) (first_state backward t)
  cut-ways done rest tr =
      let split = legal_split (length (tasks_of_term t)) (items_of_term 1 None None t) [] done rest
      (traversal-legal (system_of_term t) (done ++ rest) tr) in
      let one = legal-way [] done (first_state forward t) (start_at t g) split.0 in
      let two = legal-way done rest one.after one.stands split.1 in (
        one.after,
        memory_at t g done one.after one.stands,
        one.way,
        subst (λ s. Way forward 1 t one.after rest (peak_from (system_of_term t) done rest) s)
            (ended_last 1 (done ++ rest) t two.after two.stands (ends (done ++ rest) tr)) two.way,
      )

-- steps without and with the number of their task

mutual
  pub step-run : (d : Direction) (base : ℕ) (t : Term) (s : State t) (r : ℕ) (s' : State t)
      → Step d t s r s' → (v : ℕ) × Run d base t s v r s'
  step-run d base (hold size) s r s' h = absurd h
  step-run d base (series a w b) (inl s) r (inl s') h = step-run d base a s r s' h
  step-run forward base (series a w b) (inl s) r (inr s') (e, f, k) = (own_number base a b, (e, f, k, refl))
  step-run backward base (series a w b) (inl s) r (inr s') h = absurd h
  step-run forward base (series a w b) (inr s) r (inl s') h = absurd h
  step-run backward base (series a w b) (inr s) r (inl s') (e, f, k) = (own_number base a b, (e, f, k, refl))
  step-run d base (series a w b) (inr s) r (inr s') h = step-run d (base + task_count a) b s r s' h
  step-run d base (par ts) ss r ss' h = steps-runs d base ts ss r ss' h

  steps-runs : (d : Direction) (base : ℕ) (ts : Parts) (ss : States ts) (r : ℕ) (ss' : States ts)
      → Steps d ts ss r ss' → (v : ℕ) × Runs d base ts ss v r ss'
  steps-runs d base no_parts ss r ss' h = absurd h
  steps-runs d base (part t ts) (s, ss) r (s', ss') (inl (e, (q, h, k))) = let (v, run) = step-run d base t s q s' h in
      (v, inl (e, (q, run, k)))
  steps-runs d base (part t ts) (s, ss) r (s', ss') (inr (e, (q, h, k))) =
      let (v, run) = steps-runs d (base + task_count t) ts ss q ss' h in
      (v, inr (e, (q, run, k)))

mutual
  pub run-step : (d : Direction) (base : ℕ) (t : Term) (s : State t) (v r : ℕ) (s' : State t) → Run d base t s v r s' → Step d t s r s'
  run-step d base (hold size) s v r s' h = absurd h
  run-step d base (series a w b) (inl s) v r (inl s') h = run-step d base a s v r s' h
  run-step forward base (series a w b) (inl s) v r (inr s') (e, f, k, lab) = (e, f, k)
  run-step backward base (series a w b) (inl s) v r (inr s') h = absurd h
  run-step forward base (series a w b) (inr s) v r (inl s') h = absurd h
  run-step backward base (series a w b) (inr s) v r (inl s') (e, f, k, lab) = (e, f, k)
  run-step d base (series a w b) (inr s) v r (inr s') h = run-step d (base + task_count a) b s v r s' h
  run-step d base (par ts) ss v r ss' h = runs-steps d base ts ss v r ss' h

  runs-steps : (d : Direction) (base : ℕ) (ts : Parts) (ss : States ts) (v r : ℕ) (ss' : States ts)
      → Runs d base ts ss v r ss' → Steps d ts ss r ss'
  runs-steps d base no_parts ss v r ss' h = absurd h
  runs-steps d base (part t ts) (s, ss) v r (s', ss') (inl (e, (q, h, k))) = inl (e, (q, run-step d base t s v q s' h, k))
  runs-steps d base (part t ts) (s, ss) v r (s', ss') (inr (e, (q, h, k))) =
      inr (e, (q, runs-steps d (base + task_count t) ts ss v q ss' h, k))

-- reached is what a way below the limit leads to

pub reached-way : (d : Direction) (t : Term) (limit : ℕ) (s : State t) → Reached d t limit s
    → (xs : List ℕ) × (h : ℕ) × Way d 1 t (first_state d t) xs h s × (h < limit)
reached-way d t limit s (begin m) = ([], memory_of t (first_state d t), still (first_state d t), m)
reached-way d t limit s (next {s = s0} {r = r} w step lt m) =
    let (xs, h, way, below) = reached-way d t limit s0 w in
    let (v, run) = step-run d 1 t s0 r s step in
    (xs ++ v ∷ [], max h (max r (memory_of t s)), onward v r way run, omega (arith, below, lt, m))

way-reached : (d : Direction) (t : Term) (limit : ℕ) {s0 s : State t} {xs : List ℕ} {h : ℕ}
    → s0 ≡ first_state d t → Way d 1 t s0 xs h s → h < limit → Reached d t limit s
way-reached d t limit e (still s) lt = subst (λ z. Reached d t limit z) (sym e) (begin (omega (arith, ap (memory_of t) e, lt)))
way-reached d t limit e (onward {s' = s1} {s'' = s2} {h = h} v r w step) lt =
    next (way-reached d t limit e w (omega (arith, lt))) (run-step d 1 t s1 v r s2 step) (omega (arith, lt)) (omega (arith, lt))

pub reached-ways : (d : Direction) (t : Term) (limit : ℕ) (s : State t)
    → Reached d t limit s ↔ ((xs : List ℕ) × (h : ℕ) × Way d 1 t (first_state d t) xs h s × (h < limit))
reached-ways d t limit s = (reached-way d t limit s, λ (xs, h, w, lt). way-reached d t limit refl w lt)

-- every state is come to from both ends

trail-way : (base : ℕ) (t : Term) (s : State t) (xs : List ℕ) (s' : State t) → Trail base t s xs s' → (h : ℕ) × Way forward base t s xs h s'
trail-way base t s [] s' e = (memory_of t s, subst (λ z. Way forward base t s [] (memory_of t s) z) e (still s))
trail-way base t s (v ∷ xs) s' (s1, (r, step), w) = let (h, way) = trail-way base t s1 xs s' w in
    (max (memory_of t s) (max r h), way-cons v r step way)

pub to_each : (d : Direction) (base : ℕ) (t : Term) (s : State t) → (xs : List ℕ) × (h : ℕ) × Way d base t (first_state d t) xs h s
to_each forward base t s = let (xs, trail) = trail-to base t s in
    let (h, way) = trail-way base t (first_state forward t) xs s trail in
    (xs, h, way)
to_each backward base t s = let (xs, trail) = trail-from base t s in
    let (h, way) = trail-way base t s xs (first_state backward t) trail in
    (reverse xs, h, way_back forward way)

-- a running task's memory is at least that of the states before and after it

mutual
  pub step-running : (d : Direction) (t : Term) (s : State t) (r : ℕ) (s' : State t)
      → IsAllowed t → Step d t s r s' → (memory_of t s ≤ r) × (memory_of t s' ≤ r)
  step-running d (hold size) s r s' g h = absurd h
  step-running d (series a v b) (inl s) r (inl s') (x, y, g, k) h = step-running d a s r s' g h
  step-running forward (series a v b) (inl s) r (inr s') (x, y, g, k) (e, f, is) =
      let left = ap (memory_of a) e ∙ mem-first backward a in
      let right = ap (memory_of b) f ∙ mem-first forward b in
      (omega (arith, left, is), omega (arith, right, is, x, y))
  step-running backward (series a v b) (inl s) r (inr s') g h = absurd h
  step-running forward (series a v b) (inr s) r (inl s') g h = absurd h
  step-running backward (series a v b) (inr s) r (inl s') (x, y, g, k) (e, f, is) =
      let left = ap (memory_of a) e ∙ mem-first backward a in
      let right = ap (memory_of b) f ∙ mem-first forward b in
      (omega (arith, right, is, x, y), omega (arith, left, is))
  step-running d (series a v b) (inr s) r (inr s') (x, y, g, k) h = step-running d b s r s' k h
  step-running d (par ts) ss r ss' (n, g) h = steps-running d ts ss r ss' g h

  steps-running : (d : Direction) (ts : Parts) (ss : States ts) (r : ℕ) (ss' : States ts)
      → AreAllowed ts → Steps d ts ss r ss' → (memory_of_parts ts ss ≤ r) × (memory_of_parts ts ss' ≤ r)
  steps-running d no_parts ss r ss' g h = absurd h
  steps-running d (part t ts) (s, ss) r (s', ss') (g, k) (inl (e, (q, h, is))) =
      let one = step-running d t s q s' g h in
      let same = ap (memory_of_parts ts) e in
      (omega (arith, one.0, is), omega (arith, one.1, is, same))
  steps-running d (part t ts) (s, ss) r (s', ss') (g, k) (inr (e, (q, h, is))) =
      let more = steps-running d ts ss q ss' k h in
      let same = ap (memory_of t) e in
      (omega (arith, more.0, is), omega (arith, more.1, is, same))
