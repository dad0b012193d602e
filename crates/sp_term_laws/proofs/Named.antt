-- A step with its task's own_number is the next task of the system, with that own_number.
use Rattle.std.proofs.Common.{◌≡◌, ℕ, suc, ◌+◌, ◌-◌, ◌<◌, ◌≤◌, inl, inr, true, false, sym, subst}
use Rattle.std.proofs.Common.{ap, arith, ◌∙◌, List, [], ◌∷◌, ◌++◌, length, Option, Some}
use Rattle.mp_system.specs.Memory.{stands_in}
use Rattle.mp_system.specs.declared.system.Item.{Item}
use Rattle.sp_terms.specs.SystemOfTerm.{own_number, task_count, task_count_of_parts, tasks_of_term}
use Rattle.sp_terms.specs.SystemOfTerm.{tasks_of_parts, items_of_term, items_of_parts}
use Rattle.sp_terms.specs.Term.{Term, hold, series, par, Parts, no_parts, part, forward, backward}
use Rattle.sp_term_laws.proofs.Words.{done_or, need_in}
use Rattle.sp_term_laws.specs.Moves.{State, States, memory_of, memory_of_parts}
use Rattle.sp_term_laws.proofs.At.{At, AllAt}
use Rattle.sp_term_laws.proofs.Ends.{near_there}
use Rattle.sp_term_laws.proofs.Walks.{mem-first}
use Rattle.sp_term_laws.proofs.Next.{has-more, has-new, fresh-other, ended-more, at-other, all_at-other, fresh-at, at-ended, made-outside}
use Rattle.sp_term_laws.proofs.Next.{all_made-outside, made-first, length-tasks, need-left, need-first, need-last, need-right, Ready}
use Rattle.std.proofs.lemmas.Bool.{ne_eqb as ne-eqb}
use Rattle.lists.proofs.Bools.{eqb_same}
use Rattle.sp_term_laws.proofs.Back.{Elsewhere, producers, no_consumer, all_no_consumer, ready_both, ready_none}
use Rattle.sp_term_laws.specs.Ways.{Run, Runs}

-- the task of a step
pub record Named (base : ℕ) (done : List ℕ) (t : Term) (s : State t) (v running : ℕ) (after : State t) (all : List Item) : Type 0 where
  pub task : ℕ
  pub same : task ≡ v
  pub low : base ≤ task
  pub high : task < base + task_count t
  pub new : stands_in done task ≡ false
  pub ready : Ready done all task
  pub stands : At base (done ++ task ∷ []) t after
  pub is : running ≡ memory_of t s + need_in (tasks_of_term t) all (task - base) task

pub record NamedAll (base : ℕ) (done : List ℕ) (ts : Parts) (ss : States ts)
    (v running : ℕ) (after : States ts) (all : List Item) : Type 0 where
  pub task : ℕ
  pub same : task ≡ v
  pub low : base ≤ task
  pub high : task < base + task_count_of_parts ts
  pub new : stands_in done task ≡ false
  pub ready : Ready done all task
  pub stands : AllAt base (done ++ task ∷ []) ts after
  pub is : running ≡ memory_of_parts ts ss + need_in (tasks_of_parts ts) all (task - base) task

mutual
  pub run-at : (base : ℕ) (from to : Option ℕ) (done : List ℕ) (t : Term) (s : State t) (n r : ℕ) (after : State t)
      → At base done t s → Run forward base t s n r after → done_or true done from ≡ true
      → Elsewhere base (task_count t) from → Elsewhere base (task_count t) to → Named base done t s n r after (items_of_term base from to t)
  run-at base from to done (hold size) s lab r after h step f m n = absurd step
  run-at base from to done (series a w b) (inl s) lab r (inl after) (h, k) step f m n =
      let y = run-at base from (Some (own_number base a b)) done a s lab r after h step f
      (λ v p q. m v p (omega arith)) (λ v p q. ne-eqb (own_number base a b) v (λ e. omega arith)) in
      let low = y.low in
      let high = y.high in
      let v = y.task in
      record {
        task = y.task;
        same = y.same;
        low = y.low;
        high = omega arith;
        new = y.new;
        ready = ready_both done _ _ y.task y.ready
            (ready_none done _ y.task
            (no_consumer (base + task_count a) (Some (own_number base a b)) to b y.task (λ z. omega arith) (n y.task low (omega arith))));
        stands = (y.stands, fresh-other (base + task_count a) (suc (task_count b)) done y.task (λ z. omega arith) k);
        is = y.is
            ∙ ap (λ z. memory_of a s + z)
            (sym (need-left (tasks_of_term a) (tasks_of_term b ++ w ∷ []) (items_of_term base from (Some (own_number base a b)) a)
            (items_of_term (base + task_count a) (Some (own_number base a b)) to b) (y.task - base) y.task
            (omega (arith, length-tasks a)) (made-outside (base + task_count a) (Some (own_number base a b)) to b y.task
            (λ z. omega arith) (ne-eqb (own_number base a b) y.task (λ e. omega arith)))));
      }
  run-at base from to done (series a w b) (inl s) lab r (inr after) (h, k) (e, x, is, lab_is) f m n =
      let old = at-ended base done a (subst (At base done a) e h) in
      let v : ℕ = own_number base a b in
      record {
        task = own_number base a b;
        same = sym lab_is;
        low = omega arith;
        high = omega arith;
        new = k (own_number base a b) (omega arith) (omega arith);
        ready = ready_both done _ _ (own_number base a b)
            (λ i l to_v. near_there base (task_count a) from i.from done (producers base from (Some (own_number base a b)) a i l) old f)
            (ready_none done _ (own_number base a b)
            (no_consumer (base + task_count a) (Some (own_number base a b)) to b (own_number base a b)
            (λ z. omega arith) (n (own_number base a b) (omega arith) (omega arith))));
        stands = (
          ((λ u p q. has-more done (own_number base a b) u (old u p q)), has-new done (own_number base a b)),
          subst (At (base + task_count a) (done ++ (own_number base a b) ∷ []) b) (sym x)
              (fresh-at (base + task_count a) (done ++ (own_number base a b) ∷ []) b
              (fresh-other (base + task_count a) (task_count b) done (own_number base a b)
              (λ z. omega arith) (λ u p q. k u (omega arith) (omega arith)))),
        );
        is =
            let p = ap (memory_of a) e ∙ mem-first backward a in
            let q = made-first (base + task_count a) (Some (own_number base a b)) to b
            (own_number base a b) (λ z. omega arith) (eqb_same (own_number base a b)) in
            let n = need-right (tasks_of_term a) (tasks_of_term b ++ w ∷ []) (items_of_term base from (Some (own_number base a b)) a)
            (items_of_term (base + task_count a) (Some (own_number base a b)) to b)
            (own_number base a b - base) (length (tasks_of_term b)) (own_number base a b)
            (omega (arith, length-tasks a, length-tasks b)) (made-outside base from (Some (own_number base a b)) a
            (own_number base a b) (λ z. omega arith) (m (own_number base a b) (omega arith) (omega arith))) in
            let z = need-last (tasks_of_term b) w
            (items_of_term (base + task_count a) (Some (own_number base a b)) to b) (own_number base a b) in
            omega (arith, is, p, q, n, z);
      }
  run-at base from to done (series a w b) (inr s) lab r (inl after) h step f m n = absurd step
  run-at base from to done (series a w b) (inr s) lab r (inr after) (k, h) step f m n =
      let y = run-at (base + task_count a) (Some (own_number base a b)) to done b s lab r after h step k.1
      (λ v p q. ne-eqb (own_number base a b) v (λ e. omega arith)) (λ v p q. n v (omega arith) (omega arith)) in
      let low = y.low in
      let high = y.high in
      record {
        task = y.task;
        same = y.same;
        low = omega arith;
        high = omega arith;
        new = y.new;
        ready = ready_both done _ _ y.task (ready_none done _ y.task (no_consumer base from (Some (own_number base a b)) a y.task
            (λ z. omega arith) (ne-eqb (own_number base a b) y.task (λ e. omega arith)))) y.ready;
        stands = ((ended-more base (task_count a) done y.task k.0, has-more done y.task (own_number base a b) k.1), y.stands);
        is = y.is
            ∙ ap (λ z. memory_of b s + z)
            (sym (need-right (tasks_of_term a) (tasks_of_term b ++ w ∷ []) (items_of_term base from (Some (own_number base a b)) a)
            (items_of_term (base + task_count a) (Some (own_number base a b)) to b) (y.task - base) (y.task - (base + task_count a)) y.task
            (omega (arith, length-tasks a))
            (made-outside base from (Some (own_number base a b)) a y.task (λ z. omega arith) (m y.task (omega arith) (omega arith)))
            ∙ need-first (tasks_of_term b) w (items_of_term (base + task_count a) (Some (own_number base a b)) to b)
            (y.task - (base + task_count a)) y.task (omega (arith, length-tasks b))));
      }
  run-at base from to done (par ts) ss lab r after h step f m n =
      let y = all_run-at base from to done ts ss lab r after h step f m n in
      record { task = y.task; same = y.same; low = y.low; high = y.high; new = y.new; ready = y.ready; stands = y.stands; is = y.is }

  pub all_run-at : (base : ℕ) (from to : Option ℕ) (done : List ℕ) (ts : Parts) (ss : States ts) (n r : ℕ) (after : States ts)
      → AllAt base done ts ss → Runs forward base ts ss n r after → done_or true done from ≡ true
      → Elsewhere base (task_count_of_parts ts) from → Elsewhere base (task_count_of_parts ts) to
      → NamedAll base done ts ss n r after (items_of_parts base from to ts)
  all_run-at base from to done no_parts ss lab r after h step f m n = absurd step
  all_run-at base from to done (part t ts) (s, ss) lab r (s', ss') (h, k) (inl (same, (q, step, is))) f m n =
      let y = run-at base from to done t s lab q s' h step f (λ v p q. m v p (omega arith)) (λ v p q. n v p (omega arith)) in
      let low = y.low in
      let high = y.high in
      let o = need-left (tasks_of_term t) (tasks_of_parts ts) (items_of_term base from to t)
      (items_of_parts (base + task_count t) from to ts) (y.task - base) y.task
      (omega (arith, length-tasks t))
      (all_made-outside (base + task_count t) from to ts y.task (λ z. omega arith) (m y.task low (omega arith))) in
      record {
        task = y.task;
        same = y.same;
        low = y.low;
        high = omega arith;
        new = y.new;
        ready = ready_both done _ _ y.task y.ready
            (ready_none done _ y.task
            (all_no_consumer (base + task_count t) from to ts y.task (λ z. omega arith) (n y.task low (omega arith))));
        stands = (
          y.stands,
          subst (AllAt (base + task_count t) (done ++ y.task ∷ []) ts) same
              (all_at-other (base + task_count t) done ts ss y.task (λ z. omega arith) k),
        );
        is = omega (arith, is, y.is, o);
      }
  all_run-at base from to done (part t ts) (s, ss) lab r (s', ss') (h, k) (inr (same, (q, step, is))) f m n =
      let y = all_run-at (base + task_count t) from to done ts ss lab q ss' k step f
      (λ v p q. m v (omega arith) (omega arith)) (λ v p q. n v (omega arith) (omega arith)) in
      let low = y.low in
      let high = y.high in
      let o = need-right (tasks_of_term t) (tasks_of_parts ts) (items_of_term base from to t)
      (items_of_parts (base + task_count t) from to ts) (y.task - base) (y.task - (base + task_count t)) y.task
      (omega (arith, length-tasks t)) (made-outside base from to t y.task (λ z. omega arith) (m y.task (omega arith) (omega arith))) in
      record {
        task = y.task;
        same = y.same;
        low = omega arith;
        high = omega arith;
        new = y.new;
        ready = ready_both done _ _ y.task
            (ready_none done _ y.task (no_consumer base from to t y.task (λ z. omega arith) (n y.task (omega arith) (omega arith))))
            y.ready;
        stands = (subst (At base (done ++ y.task ∷ []) t) same (at-other base done t s y.task (λ z. omega arith) h), y.stands);
        is = omega (arith, is, y.is, o);
      }
