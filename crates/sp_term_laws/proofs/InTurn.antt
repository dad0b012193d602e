-- The states and running tasks of a series, from those of its parts; the first, last and least states of a term.
use Rattle.std.proofs.Common.{◌≡◌, ℕ, suc, ◌+◌, ◌-◌, ◌<◌, ◌≤◌, inl, inr, Bool, true, false, refl, sym, subst}
use Rattle.std.proofs.Common.{ap, arith, ◌∙◌, List, [], ◌∷◌, ◌++◌, map, length, get_or, Some, None, eq-eqb}
use Rattle.std.specs.Prelude.{◌==◌, ◌||◌, All}
use Rattle.std.proofs.lemmas.Bool.{eqb-true, ne_eqb as ne-eqb}
use Rattle.std.proofs.lemmas.List.Elements.{All-head, All-tail}
use Rattle.std.proofs.lemmas.List.Folds.{list_any-append}
use Rattle.mp_system.specs.Memory.{stands_in}
use Rattle.mp_system.specs.System.{IsTask, TaskSystem, need_of}
use Rattle.mp_system.specs.Traversal.{IsTraversal}
use Rattle.mp_system.specs.declared.system.Task.{Task}
use Rattle.sp_terms.specs.SystemOfTerm.{task_count, tasks_of_term, items_of_term, own_number, system_of_term}
use Rattle.sp_terms.specs.Term.{Term, hold, series, par, Parts, no_parts, part, forward, backward}
use Rattle.sp_terms.specs.Term.{hill_of, first_memory, least_of, least_of_parts}
use Rattle.sp_term_laws.proofs.Parts.{HasParts}
use Rattle.sp_term_laws.proofs.Words.{is_there, need_with, no_task}
use Rattle.sp_term_laws.specs.Along.{memory_while, memory_after}
use Rattle.sp_term_laws.specs.Moves.{State, States, memory_of, memory_of_parts, first_state, first_states}
use Rattle.sp_term_laws.proofs.At.{Ended, held-append, held-fresh, held-ended}
use Rattle.sp_term_laws.proofs.Ends.{clash, split2}
use Rattle.sp_term_laws.proofs.Walks.{mem-first, least-le}
use Rattle.sp_term_laws.proofs.Next.{made-outside, made-first, length-tasks, need-left, need-right, need-first, need-last, ended-at}
use Rattle.sp_term_laws.proofs.Orders.{all-here, bool_cases, memory_at, start_at, traversal-ended}
use Rattle.sp_term_laws.proofs.Trails.{Trail, walks, trail-legal, trail-join, second-trail}
use Rattle.sp_term_laws.proofs.Composed.{held-same, made-same, eqb-iff}

zero_add : (u : ℕ) → 0 + u ≡ u
zero_add u = omega arith

-- no number above n
abbrev pub Low : ℕ → List ℕ → Type 0
Low n done = (v : ℕ) → n < v → stands_in done v ≡ false

has-first : (done rest : List ℕ) (v : ℕ) → stands_in (done ++ rest) v ≡ false → stands_in done v ≡ false
has-first done rest v h = go (stands_in done v) (stands_in rest v) (sym (list_any-append (λ x. x == v) done rest) ∙ h)
  where
    go : (x y : Bool) → (x || y) ≡ false → x ≡ false
    go true y e = e
    go false y e = refl

all-standing : (P : ℕ → Type 0) (xs : List ℕ) (v : ℕ) → All P xs → stands_in xs v ≡ true → P v
all-standing P [] v h e = absurd (clash (sym e))
all-standing P (x ∷ xs) v h e =
    bool_cases (x == v)
    (λ k. subst P (eqb-true x v k) (All-head P x xs h))
    (λ k. all-standing P xs v (All-tail P x xs h) (ap (λ (b : Bool). b || stands_in xs v) (sym k) ∙ e))

pub traversal-low : (s : TaskSystem) (order : List ℕ) → IsTraversal s order → Low (length s.tasks) order
traversal-low s order t v l =
    bool_cases (stands_in order v) (λ e. let known = all-standing (IsTask s) order v t.tasks e in absurd (omega (arith, known.1))) (λ e. e)

pub part-low : (t : Term) (done rest : List ℕ) → IsTraversal (system_of_term t) (done ++ rest) → Low (task_count t) done
part-low t done rest tr v l = has-first done rest v (traversal-low (system_of_term t) (done ++ rest) tr v (omega (arith, length-tasks t)))

module _ (a : Term) (w : Task) (b : Term) where
  -- while the first part is worked on
  pub first-memory : (done : List ℕ) → Low (task_count a) done
      → memory_after (system_of_term (series a w b)) done ≡ memory_after (system_of_term a) done
  first-memory done low =
      held-append (is_there done) (items_of_term 1 None (Some (own_number 1 a b)) a)
      (items_of_term (1 + task_count a) (Some (own_number 1 a b)) None b)
      ∙ omega (
        arith,
        held-same done done 1 1 None (Some (own_number 1 a b)) None None a (λ u l. refl) refl (low (own_number 1 a b) (omega arith)),
        held-fresh (1 + task_count a) (Some (own_number 1 a b)) None done b
            (λ v l m. low v (omega arith)) (low (own_number 1 a b) (omega arith)),
      )

  pub first-need : (v : ℕ) → 1 ≤ v → v ≤ task_count a → need_of (system_of_term (series a w b)) v ≡ need_of (system_of_term a) v
  first-need v l m =
      need-left (tasks_of_term a) (tasks_of_term b ++ w ∷ []) (items_of_term 1 None (Some (own_number 1 a b)) a)
      (items_of_term (1 + task_count a) (Some (own_number 1 a b)) None b) (v - 1) v
      (omega (arith, length-tasks a)) (made-outside (1 + task_count a) (Some (own_number 1 a b)) None b v
      (λ z. omega arith) (ne-eqb (own_number 1 a b) v (λ e. omega arith)))
      ∙ ap (need_with (get_or (tasks_of_term a) (v - 1) no_task))
      (made-same v v 1 1 None (Some (own_number 1 a b)) None None a (λ u k. refl) refl)

  -- while the second part is worked on
  second-has : (p q : List ℕ) (u : ℕ) → Low (task_count a) p → u < task_count b
      → stands_in (p ++ suc (task_count a + task_count b) ∷ map (λ k. task_count a + k) q) ((1 + task_count a) + u) ≡ stands_in q (1 + u)
  second-has p q u low l =
      list_any-append (λ x. x == ((1 + task_count a) + u)) p (suc (task_count a + task_count b) ∷ map (λ k. task_count a + k) q)
      ∙ (λ i. low ((1 + task_count a) + u) (omega arith) i
      || (ne-eqb (suc (task_count a + task_count b)) ((1 + task_count a) + u) (λ e. omega arith) i || shifted q i))
    where
      shifted : (q : List ℕ) → stands_in (map (λ k. task_count a + k) q) ((1 + task_count a) + u) ≡ stands_in q (1 + u)
      shifted [] = refl
      shifted (x ∷ xs) =
          λ i. eqb-iff (task_count a + x) ((1 + task_count a) + u) x (1 + u) (λ e. omega arith) (λ e. omega arith) i || shifted xs i

  own-has : (p q : List ℕ) → stands_in (p ++ suc (task_count a + task_count b) ∷ q) (own_number 1 a b) ≡ true
  own-has p q =
      list_any-append (λ x. x == (own_number 1 a b)) p (suc (task_count a + task_count b) ∷ q)
      ∙ ap (λ z. stands_in p (own_number 1 a b) || (z || stands_in q (own_number 1 a b)))
      (eq-eqb (suc (task_count a + task_count b)) (own_number 1 a b) (omega arith))
      ∙ or_true (stands_in p (own_number 1 a b))
    where
      or_true : (x : Bool) → (x || true) ≡ true
      or_true true = refl
      or_true false = refl

  more-has : (p q : List ℕ) (v : ℕ) → stands_in p v ≡ true → stands_in (p ++ q) v ≡ true
  more-has p q v h = list_any-append (λ x. x == v) p q ∙ ap (λ z. z || stands_in q v) h

  pub second-memory : (p q : List ℕ) → Low (task_count a) p → Ended 1 (task_count a) p
      → memory_after (system_of_term (series a w b)) (p ++ suc (task_count a + task_count b) ∷ map (λ k. task_count a + k) q)
      ≡ memory_after (system_of_term b) q
  second-memory p q low end =
      let done = p ++ suc (task_count a + task_count b) ∷ map (λ k. task_count a + k) q in
      let own = own-has p (map (λ k. task_count a + k) q) in
      held-append (is_there done) (items_of_term 1 None (Some (own_number 1 a b)) a)
      (items_of_term (1 + task_count a) (Some (own_number 1 a b)) None b)
      ∙ omega (
        arith,
        held-ended 1 None (Some (own_number 1 a b)) done a (λ v l m. more-has p _ v (end v l m)) own,
        held-same done q (1 + task_count a) 1 (Some (own_number 1 a b)) None None None b (λ u l. second-has p q u low l) own refl,
      )

  pub second-need : (v : ℕ) → 1 ≤ v → v ≤ task_count b
      → need_of (system_of_term (series a w b)) (task_count a + v) ≡ need_of (system_of_term b) v
  second-need v l m =
      need-right (tasks_of_term a) (tasks_of_term b ++ w ∷ []) (items_of_term 1 None (Some (own_number 1 a b)) a)
      (items_of_term (1 + task_count a) (Some (own_number 1 a b)) None b) (task_count a + v - 1) (v - 1) (task_count a + v)
      (omega (arith, length-tasks a)) (made-outside 1 None (Some (own_number 1 a b)) a (task_count a + v) (λ z. omega arith) refl)
      ∙ need-first (tasks_of_term b) w (items_of_term (1 + task_count a) (Some (own_number 1 a b)) None b)
      (v - 1) (task_count a + v) (omega (arith, length-tasks b))
      ∙ ap (need_with (get_or (tasks_of_term b) (v - 1) no_task))
      (made-same (task_count a + v) v (1 + task_count a) 1 (Some (own_number 1 a b)) None None None b
      (λ x k. eqb-iff ((1 + task_count a) + x) (task_count a + v) (1 + x) v (λ e. omega arith) (λ e. omega arith))
      (ne-eqb (own_number 1 a b) (task_count a + v) (λ e. omega arith)))

  pub own-need : need_of (system_of_term (series a w b)) (suc (task_count a + task_count b)) ≡ (w.extra + first_memory forward b) - w.share
  own-need =
      let own : ℕ = suc (task_count a + task_count b) in
      need-right (tasks_of_term a) (tasks_of_term b ++ w ∷ []) (items_of_term 1 None (Some (own_number 1 a b)) a)
      (items_of_term (1 + task_count a) (Some (own_number 1 a b)) None b) (own - 1) (length (tasks_of_term b)) own
      (omega (arith, length-tasks a, length-tasks b)) (made-outside 1 None (Some (own_number 1 a b)) a own (λ z. omega arith) refl)
      ∙ need-last (tasks_of_term b) w (items_of_term (1 + task_count a) (Some (own_number 1 a b)) None b) own
      ∙ ap (need_with w)
      (made-first (1 + task_count a) (Some (own_number 1 a b)) None b own
      (λ z. omega arith) (eq-eqb (own_number 1 a b) own (omega arith)))

-- the first and the last state
module _ (t : Term) (g : HasParts t) where
  pub first-state : memory_after (system_of_term t) [] ≡ first_memory forward t
  first-state = memory_at t g [] (first_state forward t) (start_at t g) ∙ mem-first forward t

  pub last-state : (order : List ℕ) → IsTraversal (system_of_term t) order → memory_after (system_of_term t) order ≡ first_memory backward t
  last-state order tr =
      memory_at t g order (first_state backward t)
      (ended-at 1 order t (λ v l m. traversal-ended (system_of_term t) order tr v l (omega (arith, length-tasks t))))
      ∙ mem-first backward t

listed-low : (t : Term) (done rest : List ℕ) (v : ℕ) → IsTraversal (system_of_term t) (done ++ v ∷ rest) → (1 ≤ v) × (v ≤ task_count t)
listed-low t done rest v tr = let known = all-here (IsTask (system_of_term t)) done rest v tr.tasks in
    (known.0, omega (arith, known.1, length-tasks t))

-- the list form of the law for a series
pub first-law : (a : Term) (w : Task) (b : Term) (done rest : List ℕ) → IsTraversal (system_of_term a) (done ++ rest)
    → memory_after (system_of_term (series a w b)) done ≡ memory_after (system_of_term a) done
first-law a w b done rest tr = first-memory a w b done (part-low a done rest tr)

pub first-running-law : (a : Term) (w : Task) (b : Term) (done rest : List ℕ) (v : ℕ) → IsTraversal (system_of_term a) (done ++ v ∷ rest)
    → memory_while (system_of_term (series a w b)) done v ≡ memory_while (system_of_term a) done v
first-running-law a w b done rest v tr = λ i. first-memory a w b done (part-low a done (v ∷ rest) tr) i
    + first-need a w b v (listed-low a done rest v tr).0 (listed-low a done rest v tr).1 i

low-of : (t : Term) (order : List ℕ) → IsTraversal (system_of_term t) order → Low (task_count t) order
low-of t order tr v l = traversal-low (system_of_term t) order tr v (omega (arith, length-tasks t))

end-of : (t : Term) (order : List ℕ) → IsTraversal (system_of_term t) order → Ended 1 (task_count t) order
end-of t order tr v l m = traversal-ended (system_of_term t) order tr v l (omega (arith, length-tasks t))

pub own-law : (a : Term) (w : Task) (b : Term) (p : List ℕ) → HasParts a → IsTraversal (system_of_term a) p
    → memory_while (system_of_term (series a w b)) p (suc (task_count a + task_count b)) ≡ hill_of a w b
own-law a w b p g tr = λ i. (first-memory a w b p (low-of a p tr) ∙ last-state a g p tr) i + own-need a w b i

pub second-law : (a : Term) (w : Task) (b : Term) (p done rest : List ℕ)
    → IsTraversal (system_of_term a) p → IsTraversal (system_of_term b) (done ++ rest)
    → memory_after (system_of_term (series a w b)) (p ++ suc (task_count a + task_count b) ∷ map (λ k. task_count a + k) done)
    ≡ memory_after (system_of_term b) done
second-law a w b p done rest tp tq = second-memory a w b p done (low-of a p tp) (end-of a p tp)

pub second-running-law : (a : Term) (w : Task) (b : Term) (p done rest : List ℕ) (v : ℕ)
    → IsTraversal (system_of_term a) p → IsTraversal (system_of_term b) (done ++ v ∷ rest)
    → memory_while (system_of_term (series a w b)) (p ++ suc (task_count a + task_count b) ∷ map (λ k. task_count a + k) done)
    (task_count a + v) ≡ memory_while (system_of_term b) done v
second-running-law a w b p done rest v tp tq = λ i. second-memory a w b p done (low-of a p tp) (end-of a p tp) i
    + second-need a w b v (listed-low b done rest v tq).0 (listed-low b done rest v tq).1 i

-- every state is one of a walk, and every state of the term is on some walk

trail-cut : (base : ℕ) (t : Term) (s : State t) (xs ys : List ℕ) (s' : State t)
    → Trail base t s (xs ++ ys) s' → (m : State t) × Trail base t s xs m × Trail base t m ys s'
trail-cut base t s [] ys s' h = (s, refl, h)
trail-cut base t s (v ∷ xs) ys s' (s1, step, h) = let (m, k, l) = trail-cut base t s1 xs ys s' h in (m, (s1, step, k), l)

trail-append : (base : ℕ) (t : Term) (s m : State t) (xs ys : List ℕ) (s' : State t)
    → Trail base t s xs m → Trail base t m ys s' → Trail base t s (xs ++ ys) s'
trail-append base t s m [] ys s' e h = subst (λ z. Trail base t z ys s') (sym e) h
trail-append base t s m (v ∷ xs) ys s' (s1, step, k) h = (s1, step, trail-append base t s1 m xs ys s' k h)

first-trail : (base : ℕ) (a : Term) (w : Task) (b : Term) (s : State a) (xs : List ℕ) (s' : State a)
    → Trail base a s xs s' → Trail base (series a w b) (inl s) xs (inl s')
first-trail base a w b s [] s' e = ap inl e
first-trail base a w b s (v ∷ xs) s' (s1, step, h) = (inl s1, step, first-trail base a w b s1 xs s' h)

head-trail : (base : ℕ) (t : Term) (ts : Parts) (ss : States ts) (s : State t) (xs : List ℕ) (s' : State t)
    → Trail base t s xs s' → Trail base (par (part t ts)) (s, ss) xs (s', ss)
head-trail base t ts ss s [] s' e = λ i. (e i, ss)
head-trail base t ts ss s (v ∷ xs) s' (s1, (r, step), h) =
    ((s1, ss), (r + memory_of_parts ts ss, inl (refl, (r, step, refl))), head-trail base t ts ss s1 xs s' h)

tail-trail : (base : ℕ) (t : Term) (ts : Parts) (s : State t) (ss : States ts) (xs : List ℕ) (ss' : States ts)
    → Trail (base + task_count t) (par ts) ss xs ss' → Trail base (par (part t ts)) (s, ss) xs (s, ss')
tail-trail base t ts s ss [] ss' e = λ i. (s, e i)
tail-trail base t ts s ss (v ∷ xs) ss' (ss1, (r, step), h) =
    ((s, ss1), (memory_of t s + r, inr (refl, (r, step, refl))), tail-trail base t ts s ss1 xs ss' h)

mutual
  pub trail-to : (base : ℕ) (t : Term) (s : State t) → (xs : List ℕ) × Trail base t (first_state forward t) xs s
  trail-to base (hold size) s = ([], refl)
  trail-to base (series a w b) (inl s) = let (xs, h) = trail-to base a s in (xs, first-trail base a w b (first_state forward a) xs s h)
  trail-to base (series a w b) (inr s) =
      let (xs, h) = trail-to base a (first_state backward a) in
      let (ys, k) = trail-to (base + task_count a) b s in
      (xs ++ own_number base a b ∷ ys, trail-join base a w b (first_state forward a) s xs ys h k)
  trail-to base (par ts) ss = all_trail-to base ts ss

  pub all_trail-to : (base : ℕ) (ts : Parts) (ss : States ts) → (xs : List ℕ) × Trail base (par ts) (first_states forward ts) xs ss
  all_trail-to base no_parts ss = ([], refl)
  all_trail-to base (part t ts) (s, ss) =
      let (xs, h) = trail-to base t s in
      let (ys, k) = all_trail-to (base + task_count t) ts ss in (
        xs ++ ys,
        trail-append base (par (part t ts)) (first_state forward t, first_states forward ts) (s, first_states forward ts) xs ys
            (s, ss) (head-trail base t ts (first_states forward ts) (first_state forward t) xs s h)
            (tail-trail base t ts s (first_states forward ts) ys ss k),
      )

mutual
  pub trail-from : (base : ℕ) (t : Term) (s : State t) → (xs : List ℕ) × Trail base t s xs (first_state backward t)
  trail-from base (hold size) s = ([], refl)
  trail-from base (series a w b) (inl s) =
      let (xs, h) = trail-from base a s in
      let (ys, k) = trail-from (base + task_count a) b (first_state forward b) in
      (xs ++ own_number base a b ∷ ys, trail-join base a w b s (first_state backward b) xs ys h k)
  trail-from base (series a w b) (inr s) = let (xs, h) = trail-from (base + task_count a) b s in
      (xs, second-trail base a w b s xs (first_state backward b) h)
  trail-from base (par ts) ss = all_trail-from base ts ss

  pub all_trail-from : (base : ℕ) (ts : Parts) (ss : States ts) → (xs : List ℕ) × Trail base (par ts) ss xs (first_states backward ts)
  all_trail-from base no_parts ss = ([], refl)
  all_trail-from base (part t ts) (s, ss) =
      let (xs, h) = trail-from base t s in
      let (ys, k) = all_trail-from (base + task_count t) ts ss in (
        xs ++ ys,
        trail-append base (par (part t ts)) (s, ss) (first_state backward t, ss) xs ys
            (first_state backward t, first_states backward ts) (head-trail base t ts ss s xs (first_state backward t) h)
            (tail-trail base t ts (first_state backward t) ss ys (first_states backward ts) k),
      )

mutual
  pub lowest : (t : Term) → (s : State t) × (memory_of t s ≡ least_of t)
  lowest (hold size) = (tt, refl)
  lowest (series a w b) =
      let (s, e) = lowest a in
      let (u, f) = lowest b in
      split2 (least_of a) (least_of b) (λ h. (inl s, omega (arith, e))) (λ h. (inr u, omega (arith, f)))
  lowest (par ts) = all_lowest ts

  all_lowest : (ts : Parts) → (ss : States ts) × (memory_of_parts ts ss ≡ least_of_parts ts)
  all_lowest no_parts = (tt, refl)
  all_lowest (part t ts) =
      let (s, e) = lowest t in
      let (ss, f) = all_lowest ts in
      ((s, ss), λ i. e i + f i)

pub record LeastStates (t : Term) : Type 0 where
  pub each : (done rest : List ℕ) → IsTraversal (system_of_term t) (done ++ rest) → least_of t ≤ memory_after (system_of_term t) done
  pub some : (done rest : List ℕ) × IsTraversal (system_of_term t) (done ++ rest) × (memory_after (system_of_term t) done ≡ least_of t)

pub least-states : (t : Term) → HasParts t → LeastStates t
least-states t g = record {
  each = λ done rest tr.
      let (m, h, k) = trail-cut 1 t (first_state forward t) done rest (first_state backward t) ((walks t g (done ++ rest)).0 tr) in
      let at = (trail-legal t g [] done (first_state forward t) m (start_at t g) h).1 in
      omega (arith, memory_at t g done m at, least-le t m);
  some =
      let (s, e) = lowest t in
      let (xs, h) = trail-to 1 t s in
      let (ys, k) = trail-from 1 t s in
      let at = (trail-legal t g [] xs (first_state forward t) s (start_at t g) h).1 in (
        xs,
        ys,
        (walks t g (xs ++ ys)).1 (trail-append 1 t (first_state forward t) s xs ys (first_state backward t) h k),
        memory_at t g xs s at ∙ e,
      );
}
