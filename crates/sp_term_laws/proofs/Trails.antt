-- The traversals of a term's system are its walks; those of a series are walks of its parts in turn, those of a `par` interleave them.
use Rattle.std.proofs.Common.{◌≡◌, ℕ, suc, ◌+◌, ◌-◌, ◌<◌, ◌≤◌, ◌⊎◌, inl, inr, true, false, refl, sym, subst}
use Rattle.std.proofs.Common.{ap, arith, ◌∙◌, List, [], ◌∷◌, ◌++◌, map, length, None, append_assoc}
use Rattle.std.specs.Prelude.{◌↔◌, ◌&&◌, nat_le, nat_lt}
use Rattle.std.proofs.lemmas.List.{append-nil}
use Rattle.std.proofs.lemmas.List.Elements.{All-nil, All-cons, All-head, All-tail}
use Rattle.mp_system.specs.Memory.{stands_in}
use Rattle.mp_system.specs.Traversal.{IsTraversal}
use Rattle.mp_system.specs.declared.system.Task.{Task}
use Rattle.sp_terms.specs.SystemOfTerm.{own_number, task_count, task_count_of_parts, tasks_of_term, items_of_term, system_of_term}
use Rattle.sp_terms.specs.Term.{Term, hold, series, par, Parts, no_parts, part, forward, backward, hill_of}
use Rattle.sp_term_laws.proofs.Parts.{HasParts, HaveParts}
use Rattle.sp_term_laws.specs.Moves.{State, States, memory_of, memory_of_parts, first_state, first_states}
use Rattle.sp_term_laws.specs.Interleaved.{numbers_within, AreWithin, EachTraversal}
use Rattle.sp_term_laws.proofs.At.{At, Ended}
use Rattle.sp_term_laws.proofs.Ends.{split2}
use Rattle.sp_term_laws.proofs.Next.{length-tasks, at-ended, Ready}
use Rattle.sp_term_laws.proofs.Forth.{run-next}
use Rattle.sp_term_laws.proofs.Named.{run-at}
use Rattle.sp_term_laws.proofs.Orders.{IsLegal, ended_last, start_at, traversal-legal, traversal-ended}
use Rattle.sp_term_laws.proofs.Every.{legal_traversal}
use Rattle.sp_term_laws.specs.Ways.{Run, Runs}

-- a walk forwards along these tasks
abbrev pub Trail : ℕ → (t : Term) → State t → List ℕ → State t → Type 0
Trail base t s [] s' = s ≡ s'
Trail base t s (v ∷ xs) s' = (s1 : State t) × ((r : ℕ) × Run forward base t s v r s1) × Trail base t s1 xs s'

abbrev pub IsWalk : (t : Term) → List ℕ → Type 0
IsWalk t xs = Trail 1 t (first_state forward t) xs (first_state backward t)

module _ (t : Term) (g : HasParts t) where
  legal-trail : (done rest : List ℕ) (s : State t) → At 1 done t s
      → IsLegal (length (tasks_of_term t)) (items_of_term 1 None None t) done rest
      → Ended 1 (task_count t) (done ++ rest) → Trail 1 t s rest (first_state backward t)
  legal-trail done [] s h l e = ended_last 1 done t s h (rw append-nil at e)
  legal-trail done (v ∷ rest) s h (m, n, r, l) e =
      let y = run-next 1 None None done t s v g h m.0 (omega (arith, m.1, length-tasks t)) refl n r in
      (y.after, (y.running, y.step), legal-trail (done ++ v ∷ []) rest y.after y.stands l (rw (append_assoc done (v ∷ []) rest) e))

  pub trail-legal : (done rest : List ℕ) (s s' : State t) → At 1 done t s → Trail 1 t s rest s'
      → IsLegal (length (tasks_of_term t)) (items_of_term 1 None None t) done rest × At 1 (done ++ rest) t s'
  trail-legal done [] s s' h e = (tt, rw append-nil (subst (At 1 done t) e h))
  trail-legal done (v ∷ rest) s s' h (s1, (r, step), w) =
      let y = run-at 1 None None done t s v r s1 h step refl (λ a p q. refl) (λ a p q. refl) in
      let st = subst (λ z. At 1 (done ++ z ∷ []) t s1) y.same y.stands in
      let z = trail-legal (done ++ v ∷ []) rest s1 s' st w in (
        (
          subst (λ x. (1 ≤ x) × (x ≤ length (tasks_of_term t))) y.same (y.low, omega (arith, y.high, length-tasks t)),
          subst (λ x. stands_in done x ≡ false) y.same y.new,
          subst (Ready done (items_of_term 1 None None t)) y.same y.ready,
          z.0,
        ),
        rw append_assoc at z.1,
      )

  -- the traversals are the walks
  pub walks : (order : List ℕ) → IsTraversal (system_of_term t) order ↔ IsWalk t order
  walks order = (
    (λ tr. legal-trail [] order (first_state forward t) (start_at t g) (traversal-legal (system_of_term t) order tr)
        (λ v l m. traversal-ended (system_of_term t) order tr v l (omega (arith, length-tasks t)))),
    (λ w. let z = trail-legal [] order (first_state forward t) (first_state backward t) (start_at t g) w in
        legal_traversal (system_of_term t) order z.0 (λ v l m. at-ended 1 order t z.1 v l (omega (arith, length-tasks t)))),
  )

-- series

same_inr : {A B : Type 0} {x y : B} → ◌≡◌ {A = A ⊎ B} (inr x) (inr y) → x ≡ y
same_inr e = cc

inl_inr : {A B : Type 0} {x : A} {y : B} → ◌≡◌ {A = A ⊎ B} (inl x) (inr y) → ⊥
inl_inr e = cc

trail-second : (base : ℕ) (a : Term) (w : Task) (b : Term) (s : State b) (xs : List ℕ) (s' : State b)
    → Trail base (series a w b) (inr s) xs (inr s') → Trail (base + task_count a) b s xs s'
trail-second base a w b s [] s' e = same_inr e
trail-second base a w b s (v ∷ xs) s' (inl s1, (r, step), h) = absurd step
trail-second base a w b s (v ∷ xs) s' (inr s1, (r, step), h) = (s1, (r, step), trail-second base a w b s1 xs s' h)

pub second-trail : (base : ℕ) (a : Term) (w : Task) (b : Term) (s : State b) (xs : List ℕ) (s' : State b)
    → Trail (base + task_count a) b s xs s' → Trail base (series a w b) (inr s) xs (inr s')
second-trail base a w b s [] s' e = ap inr e
second-trail base a w b s (v ∷ xs) s' (s1, step, h) = (inr s1, step, second-trail base a w b s1 xs s' h)

pub record InTurn (base : ℕ) (a : Term) (b : Term) (s : State a) (xs : List ℕ) (s' : State b) : Type 0 where
  pub one : List ℕ
  pub two : List ℕ
  pub is : xs ≡ one ++ (own_number base a b) ∷ two
  pub walk_one : Trail base a s one (first_state backward a)
  pub walk_two : Trail (base + task_count a) b (first_state forward b) two s'

pub trail-split : (base : ℕ) (a : Term) (w : Task) (b : Term) (s : State a) (xs : List ℕ) (s' : State b)
    → Trail base (series a w b) (inl s) xs (inr s') → InTurn base a b s xs s'
trail-split base a w b s [] s' e = absurd (inl_inr e)
trail-split base a w b s (v ∷ xs) s' (inl s1, step, h) =
    let y = trail-split base a w b s1 xs s' h in
    record { one = v ∷ y.one; two = y.two; is = ap (λ z. v ∷ z) y.is; walk_one = (s1, step, y.walk_one); walk_two = y.walk_two }
trail-split base a w b s (v ∷ xs) s' (inr s1, (r, (e, f, k, lab)), h) =
    record {
      one = [];
      two = xs;
      is = ap (λ z. z ∷ xs) lab;
      walk_one = e;
      walk_two = subst (λ z. Trail (base + task_count a) b z xs s') f (trail-second base a w b s1 xs s' h);
    }

pub trail-join : (base : ℕ) (a : Term) (w : Task) (b : Term) (s : State a) (s' : State b) (one two : List ℕ)
    → Trail base a s one (first_state backward a) → Trail (base + task_count a) b (first_state forward b) two s'
    → Trail base (series a w b) (inl s) (one ++ (own_number base a b) ∷ two) (inr s')
trail-join base a w b s s' [] two e h =
    (inr (first_state forward b), (hill_of a w b, (e, refl, refl, refl)), second-trail base a w b (first_state forward b) two s' h)
trail-join base a w b s s' (v ∷ one) two (s1, step, k) h = (inl s1, step, trail-join base a w b s1 s' one two k h)

-- renumbering

mutual
  run-shift : (n base : ℕ) (t : Term) (s : State t) (v r : ℕ) (s' : State t)
      → Run forward base t s v r s' → Run forward (n + base) t s (n + v) r s'
  run-shift n base (hold size) s v r s' h = absurd h
  run-shift n base (series a w b) (inl s) v r (inl s') h = run-shift n base a s v r s' h
  run-shift n base (series a w b) (inl s) v r (inr s') (e, f, k, lab) = (e, f, k, omega arith)
  run-shift n base (series a w b) (inr s) v r (inl s') h = absurd h
  run-shift n base (series a w b) (inr s) v r (inr s') h =
      subst (λ m. Run forward m b s (n + v) r s') (omega arith) (run-shift n (base + task_count a) b s v r s' h)
  run-shift n base (par ts) ss v r ss' h = runs-shift n base ts ss v r ss' h

  runs-shift : (n base : ℕ) (ts : Parts) (ss : States ts) (v r : ℕ) (ss' : States ts)
      → Runs forward base ts ss v r ss' → Runs forward (n + base) ts ss (n + v) r ss'
  runs-shift n base no_parts ss v r ss' h = absurd h
  runs-shift n base (part t ts) (s, ss) v r (s', ss') (inl (e, (q, h, k))) = inl (e, (q, run-shift n base t s v q s' h, k))
  runs-shift n base (part t ts) (s, ss) v r (s', ss') (inr (e, (q, h, k))) =
      inr (e, (q, subst (λ m. Runs forward m ts ss (n + v) q ss') (omega arith) (runs-shift n (base + task_count t) ts ss v q ss' h), k))

mutual
  run-unshift : (n base : ℕ) (t : Term) (s : State t) (v r : ℕ) (s' : State t)
      → Run forward (n + base) t s v r s' → (u : ℕ) × (v ≡ n + u) × Run forward base t s u r s'
  run-unshift n base (hold size) s v r s' h = absurd h
  run-unshift n base (series a w b) (inl s) v r (inl s') h = run-unshift n base a s v r s' h
  run-unshift n base (series a w b) (inl s) v r (inr s') (e, f, k, lab) = (own_number base a b, omega arith, (e, f, k, refl))
  run-unshift n base (series a w b) (inr s) v r (inl s') h = absurd h
  run-unshift n base (series a w b) (inr s) v r (inr s') h =
      run-unshift n (base + task_count a) b s v r s' (subst (λ m. Run forward m b s v r s') (omega arith) h)
  run-unshift n base (par ts) ss v r ss' h = runs-unshift n base ts ss v r ss' h

  runs-unshift : (n base : ℕ) (ts : Parts) (ss : States ts) (v r : ℕ) (ss' : States ts)
      → Runs forward (n + base) ts ss v r ss' → (u : ℕ) × (v ≡ n + u) × Runs forward base ts ss u r ss'
  runs-unshift n base no_parts ss v r ss' h = absurd h
  runs-unshift n base (part t ts) (s, ss) v r (s', ss') (inl (e, (q, h, k))) = let (u, x, y) = run-unshift n base t s v q s' h in
      (u, x, inl (e, (q, y, k)))
  runs-unshift n base (part t ts) (s, ss) v r (s', ss') (inr (e, (q, h, k))) =
      let (u, x, y) = runs-unshift n (base + task_count t) ts ss v q ss' (subst (λ m. Runs forward m ts ss v q ss') (omega arith) h) in
      (u, x, inr (e, (q, y, k)))

pub trail-shift : (n base : ℕ) (t : Term) (s : State t) (xs : List ℕ) (s' : State t)
    → Trail base t s xs s' → Trail (n + base) t s (map (λ k. n + k) xs) s'
trail-shift n base t s [] s' e = e
trail-shift n base t s (v ∷ xs) s' (s1, (r, step), h) = (s1, (r, run-shift n base t s v r s1 step), trail-shift n base t s1 xs s' h)

pub trail-unshift : (n base : ℕ) (t : Term) (s : State t) (xs : List ℕ) (s' : State t)
    → Trail (n + base) t s xs s' → (ys : List ℕ) × (xs ≡ map (λ k. n + k) ys) × Trail base t s ys s'
trail-unshift n base t s [] s' e = ([], refl, e)
trail-unshift n base t s (v ∷ xs) s' (s1, (r, step), h) =
    let (u, x, y) = run-unshift n base t s v r s1 step in
    let (ys, z, k) = trail-unshift n base t s1 xs s' h in
    (u ∷ ys, (λ i. x i ∷ z i), (s1, (r, y), k))

-- the traversals of a series
pub series-walks : (a : Term) (w : Task) (b : Term) → HasParts a → HasParts b → (order : List ℕ)
    → IsTraversal (system_of_term (series a w b)) order
    ↔ ((p q : List ℕ) × IsTraversal (system_of_term a) p × IsTraversal (system_of_term b) q
    × (order ≡ p ++ suc (task_count a + task_count b) ∷ map (λ k. task_count a + k) q))
series-walks a w b ga gb order = (
  (λ tr.
      let y = trail-split 1 a w b (first_state forward a) order (first_state backward b) ((walks (series a w b) (ga, gb) order).0 tr) in
      let (q, e, h) = trail-unshift (task_count a) 1 b (first_state forward b) y.two (first_state backward b)
      (subst (λ m. Trail m b (first_state forward b) y.two (first_state backward b)) (omega arith) y.walk_two) in
      (y.one, q, (walks a ga y.one).1 y.walk_one, (walks b gb q).1 h, y.is ∙ (λ i. y.one ++ (zero_add i) ∷ e i))),
  (λ (p, q, tp, tq, e).
      (walks (series a w b) (ga, gb) order).1
      (subst (λ z. Trail 1 (series a w b) (inl (first_state forward a)) z (inr (first_state backward b)))
      (sym (e ∙ (λ i. p ++ (sym zero_add i) ∷ map (λ k. task_count a + k) q)))
      (trail-join 1 a w b (first_state forward a) (first_state backward b) p _ ((walks a ga p).0 tp)
      (subst (λ m. Trail m b (first_state forward b) (map (λ k. task_count a + k) q) (first_state backward b)) (omega arith)
      (trail-shift (task_count a) 1 b (first_state forward b) q (first_state backward b) ((walks b gb q).0 tq)))))),
)
  where
    zero_add : 1 + (task_count a + task_count b) ≡ suc (task_count a + task_count b)
    zero_add = omega arith

-- par

pub own-low : (base count v : ℕ) (xs : List ℕ) → v < base → numbers_within base count (v ∷ xs) ≡ numbers_within base count xs
own-low base count v xs h = let e : (nat_le base v && nat_lt v (base + count)) ≡ false = grind arith in rw e refl

pub own-high : (base count v : ℕ) (xs : List ℕ) → base + count ≤ v → numbers_within base count (v ∷ xs) ≡ numbers_within base count xs
own-high base count v xs h = let e : (nat_le base v && nat_lt v (base + count)) ≡ false = grind arith in rw e refl

pub own-in : (base count v : ℕ) (xs : List ℕ) → base ≤ v → v < base + count
    → numbers_within base count (v ∷ xs) ≡ v ∷ numbers_within base count xs
own-in base count v xs h k = let e : (nat_le base v && nat_lt v (base + count)) ≡ true = grind arith in rw e refl

mutual
  run-range : (base : ℕ) (t : Term) (s : State t) (v r : ℕ) (s' : State t)
      → Run forward base t s v r s' → (base ≤ v) × (v < base + task_count t)
  run-range base (hold size) s v r s' h = absurd h
  run-range base (series a w b) (inl s) v r (inl s') h = let k = run-range base a s v r s' h in (k.0, omega (arith, k.1))
  run-range base (series a w b) (inl s) v r (inr s') (e, f, k, lab) = (omega arith, omega arith)
  run-range base (series a w b) (inr s) v r (inl s') h = absurd h
  run-range base (series a w b) (inr s) v r (inr s') h = let k = run-range (base + task_count a) b s v r s' h in
      (omega (arith, k.0), omega (arith, k.1))
  run-range base (par ts) ss v r ss' h = runs-range base ts ss v r ss' h

  runs-range : (base : ℕ) (ts : Parts) (ss : States ts) (v r : ℕ) (ss' : States ts)
      → Runs forward base ts ss v r ss' → (base ≤ v) × (v < base + task_count_of_parts ts)
  runs-range base no_parts ss v r ss' h = absurd h
  runs-range base (part t ts) (s, ss) v r (s', ss') (inl (e, (q, h, k))) = let x = run-range base t s v q s' h in (x.0, omega (arith, x.1))
  runs-range base (part t ts) (s, ss) v r (s', ss') (inr (e, (q, h, k))) = let x = runs-range (base + task_count t) ts ss v q ss' h in
      (omega (arith, x.0), omega (arith, x.1))

-- each part walks along its own tasks
abbrev pub EachTrail : ℕ → (ts : Parts) → States ts → List ℕ → States ts → Type 0
EachTrail base no_parts ss xs ss' = Unit {0}
EachTrail base (part t ts) (s, ss) xs (s', ss') =
    Trail base t s (numbers_within base (task_count t) xs) s' × EachTrail (base + task_count t) ts ss xs ss'

each-skip : (base : ℕ) (ts : Parts) (ss : States ts) (v : ℕ) (xs : List ℕ) (ss' : States ts)
    → v < base → EachTrail base ts ss xs ss' → EachTrail base ts ss (v ∷ xs) ss'
each-skip base no_parts ss v xs ss' l h = tt
each-skip base (part t ts) (s, ss) v xs (s', ss') l (h, k) = (
  subst (λ z. Trail base t s z s') (sym (own-low base (task_count t) v xs l)) h,
  each-skip (base + task_count t) ts ss v xs ss' (omega arith) k,
)

each-unskip : (base : ℕ) (ts : Parts) (ss : States ts) (v : ℕ) (xs : List ℕ) (ss' : States ts)
    → v < base → EachTrail base ts ss (v ∷ xs) ss' → EachTrail base ts ss xs ss'
each-unskip base no_parts ss v xs ss' l h = tt
each-unskip base (part t ts) (s, ss) v xs (s', ss') l (h, k) = (
  subst (λ z. Trail base t s z s') (own-low base (task_count t) v xs l) h,
  each-unskip (base + task_count t) ts ss v xs ss' (omega arith) k,
)

each-add : (base : ℕ) (ts : Parts) (ss ss1 : States ts) (v r : ℕ) (xs : List ℕ) (ss' : States ts)
    → Runs forward base ts ss v r ss1 → EachTrail base ts ss1 xs ss' → EachTrail base ts ss (v ∷ xs) ss'
each-add base no_parts ss ss1 v r xs ss' step h = tt
each-add base (part t ts) (s, ss) (s1, ss1) v r xs (s', ss') (inl (e, (q, step, is))) (h, k) =
    let x = run-range base t s v q s1 step in (
      subst (λ z. Trail base t s z s') (sym (own-in base (task_count t) v xs x.0 x.1)) (s1, (q, step), h),
      each-skip (base + task_count t) ts ss v xs ss' x.1 (subst (λ z. EachTrail (base + task_count t) ts z xs ss') (sym e) k),
    )
each-add base (part t ts) (s, ss) (s1, ss1) v r xs (s', ss') (inr (e, (q, step, is))) (h, k) =
    let x = runs-range (base + task_count t) ts ss v q ss1 step in (
      subst (λ z. Trail base t s z s') (sym (own-high base (task_count t) v xs x.0))
          (subst (λ z. Trail base t z (numbers_within base (task_count t) xs) s') (sym e) h),
      each-add (base + task_count t) ts ss ss1 v q xs ss' step k,
    )

each-refl : (base : ℕ) (ts : Parts) (ss ss' : States ts) → ss ≡ ss' → EachTrail base ts ss [] ss'
each-refl base no_parts ss ss' e = tt
each-refl base (part t ts) (s, ss) (s', ss') e = ((λ i. (e i).0), each-refl (base + task_count t) ts ss ss' (λ i. (e i).1))

each-done : (base : ℕ) (ts : Parts) (ss ss' : States ts) → EachTrail base ts ss [] ss' → ss ≡ ss'
each-done base no_parts ss ss' h = refl
each-done base (part t ts) (s, ss) (s', ss') (h, k) = let z = each-done (base + task_count t) ts ss ss' k in λ i. (h i, z i)

pub par-each : (base : ℕ) (ts : Parts) (ss : States ts) (xs : List ℕ) (ss' : States ts)
    → Trail base (par ts) ss xs ss' → EachTrail base ts ss xs ss'
par-each base ts ss [] ss' e = each-refl base ts ss ss' e
par-each base ts ss (v ∷ xs) ss' (ss1, (r, step), h) = each-add base ts ss ss1 v r xs ss' step (par-each base ts ss1 xs ss' h)

record First (base : ℕ) (ts : Parts) (ss : States ts) (v : ℕ) (xs : List ℕ) (ss' : States ts) : Type 0 where
  after : States ts
  running : ℕ
  step : Runs forward base ts ss v running after
  rest : EachTrail base ts after xs ss'

each-first : (base : ℕ) (ts : Parts) (ss : States ts) (v : ℕ) (xs : List ℕ) (ss' : States ts) → base ≤ v
    → v < base + task_count_of_parts ts → EachTrail base ts ss (v ∷ xs) ss' → First base ts ss v xs ss'
each-first base no_parts ss v xs ss' l m h = absurd (omega arith)
each-first base (part t ts) (s, ss) v xs (s', ss') l m (h, k) = split2 v (base + task_count t)
    (λ x.
    let (s1, (q, step), z) = subst (λ y. Trail base t s y s') (own-in base (task_count t) v xs l x) h in
    record {
      after = (s1, ss);
      running = q + memory_of_parts ts ss;
      step = inl (refl, (q, step, refl));
      rest = (z, each-unskip (base + task_count t) ts ss v xs ss' x k);
    })
    (λ x.
    let y = each-first (base + task_count t) ts ss v xs ss' x (omega arith) k in
    record {
      after = (s, y.after);
      running = memory_of t s + y.running;
      step = inr (refl, (y.running, y.step, refl));
      rest = (subst (λ z. Trail base t s z s') (own-high base (task_count t) v xs x) h, y.rest);
    })

pub each-par : (base : ℕ) (ts : Parts) (ss : States ts) (xs : List ℕ) (ss' : States ts)
    → AreWithin base (task_count_of_parts ts) xs → EachTrail base ts ss xs ss' → Trail base (par ts) ss xs ss'
each-par base ts ss [] ss' i h = each-done base ts ss ss' h
each-par base ts ss (v ∷ xs) ss' i h =
    let own = All-head (λ u. (base ≤ u) × (u < base + task_count_of_parts ts)) v xs i in
    let y = each-first base ts ss v xs ss' own.0 own.1 h in (
      y.after,
      (y.running, y.step),
      each-par base ts y.after xs ss' (All-tail (λ u. (base ≤ u) × (u < base + task_count_of_parts ts)) v xs i) y.rest,
    )

each-traversal : (base : ℕ) (ts : Parts) (order : List ℕ) → 1 ≤ base → HaveParts ts
    → EachTrail base ts (first_states forward ts) order (first_states backward ts) → EachTraversal base ts order
each-traversal base no_parts order some g h = tt
each-traversal base (part t ts) order some (g, gs) (h, k) =
    let (q, e, w) =
    trail-unshift (base - 1) 1 t (first_state forward t) (numbers_within base (task_count t) order) (first_state backward t)
    (subst (λ m. Trail m t (first_state forward t) (numbers_within base (task_count t) order) (first_state backward t))
    (omega arith) h) in
    ((q, (walks t g q).1 w, e), each-traversal (base + task_count t) ts order (omega arith) gs k)

traversal-each : (base : ℕ) (ts : Parts) (order : List ℕ) → 1 ≤ base → HaveParts ts
    → EachTraversal base ts order → EachTrail base ts (first_states forward ts) order (first_states backward ts)
traversal-each base no_parts order some g h = tt
traversal-each base (part t ts) order some (g, gs) ((q, tr, e), k) = (
  subst (λ z. Trail base t (first_state forward t) z (first_state backward t)) (sym e)
      (subst (λ m. Trail m t (first_state forward t) (map (λ k. (base - 1) + k) q) (first_state backward t))
      (omega arith) (trail-shift (base - 1) 1 t (first_state forward t) q (first_state backward t) ((walks t g q).0 tr))),
  traversal-each (base + task_count t) ts order (omega arith) gs k,
)

trail-in : (base : ℕ) (ts : Parts) (ss : States ts) (xs : List ℕ) (ss' : States ts)
    → Trail base (par ts) ss xs ss' → AreWithin base (task_count_of_parts ts) xs
trail-in base ts ss [] ss' h = All-nil _
trail-in base ts ss (v ∷ xs) ss' (s1, (r, step), h) = All-cons (λ u. (base ≤ u) × (u < base + task_count_of_parts ts)) v xs
    (runs-range base ts ss v r s1 step) (trail-in base ts s1 xs ss' h)

pub par-walks : (ts : Parts) → HasParts (par ts) → (order : List ℕ)
    → IsTraversal (system_of_term (par ts)) order ↔ (AreWithin 1 (task_count_of_parts ts) order × EachTraversal 1 ts order)
par-walks ts g order = (
  (λ tr. let w = (walks (par ts) g order).0 tr in (
    trail-in 1 ts (first_states forward ts) order (first_states backward ts) w,
    each-traversal 1 ts order (omega arith) g.1 (par-each 1 ts (first_states forward ts) order (first_states backward ts) w),
  )),
  (λ (i, h). (walks (par ts) g order).1
      (each-par 1 ts (first_states forward ts) order (first_states backward ts) i (traversal-each 1 ts order (omega arith) g.1 h))),
)
