-- The next task of a system is a step of the term with that task's own_number.
use Rattle.std.proofs.Common.{◌≡◌, ℕ, suc, ◌+◌, ◌-◌, ◌<◌, ◌≤◌, inl, inr, false, refl, sym, subst}
use Rattle.std.proofs.Common.{ap, arith, ◌∙◌, List, [], ◌∷◌, ◌++◌, length, Option, Some}
use Rattle.mp_system.specs.Memory.{stands_in}
use Rattle.mp_system.specs.System.{is_named}
use Rattle.sp_terms.specs.SystemOfTerm.{own_number, task_count, task_count_of_parts, tasks_of_term}
use Rattle.sp_terms.specs.SystemOfTerm.{tasks_of_parts, items_of_term, items_of_parts}
use Rattle.sp_terms.specs.Term.{Term, hold, series, par, Parts, no_parts, part, forward, backward, hill_of}
use Rattle.sp_term_laws.proofs.Parts.{HasParts, HaveParts}
use Rattle.sp_term_laws.proofs.Words.{need_in}
use Rattle.sp_term_laws.specs.Moves.{State, States, memory_of, memory_of_parts, first_state}
use Rattle.sp_term_laws.proofs.At.{At, AllAt}
use Rattle.sp_term_laws.proofs.Ends.{split_own, in_left, in_right, clash, split2, has_input, all_out, near_absent}
use Rattle.sp_term_laws.proofs.Walks.{mem-first}
use Rattle.sp_term_laws.proofs.Next.{has-more, has-new, fresh-other, ended-more, at-other, all_at-other, fresh-at, at-ended, made-outside}
use Rattle.sp_term_laws.proofs.Next.{all_made-outside, made-first, length-tasks, need-left, need-first, need-last, need-right, Ready}
use Rattle.std.proofs.lemmas.Bool.{ne_eqb as ne-eqb}
use Rattle.lists.proofs.Bools.{eqb_same}
use Rattle.sp_term_laws.specs.Ways.{Run, Runs}

pub record Walked (base : ℕ) (done : List ℕ) (t : Term) (s : State t) (v need : ℕ) : Type 0 where
  pub after : State t
  pub stands : At base (done ++ v ∷ []) t after
  pub running : ℕ
  pub step : Run forward base t s v running after
  pub is : running ≡ memory_of t s + need

pub record WalkedAll (base : ℕ) (done : List ℕ) (ts : Parts) (ss : States ts) (v need : ℕ) : Type 0 where
  pub after : States ts
  pub stands : AllAt base (done ++ v ∷ []) ts after
  pub running : ℕ
  pub step : Runs forward base ts ss v running after
  pub is : running ≡ memory_of_parts ts ss + need

mutual
  pub run-next : (base : ℕ) (from to : Option ℕ) (done : List ℕ) (t : Term) (s : State t) (v : ℕ) → HasParts t → At base done t s
      → base ≤ v → v < base + task_count t → is_named from v ≡ false
      → stands_in done v ≡ false → Ready done (items_of_term base from to t) v
      → Walked base done t s v (need_in (tasks_of_term t) (items_of_term base from to t) (v - base) v)
  run-next base from to done (hold size) s v g h l m f n r = absurd (omega arith)
  run-next base from to done (series a w b) (inl s) v g (h, k) l m f n r =
      split_own v base a b m
      (λ x. let y = run-next base from (Some (own_number base a b)) done a s v g.0 h l x f n (λ i e. r i (in_left i _ _ e)) in
      record {
        after = inl y.after;
        stands = (y.stands, fresh-other (base + task_count a) (suc (task_count b)) done v (λ z. omega arith) k);
        running = y.running;
        step = y.step;
        is = y.is
            ∙ ap (λ z. memory_of a s + z)
            (sym (need-left (tasks_of_term a) (tasks_of_term b ++ w ∷ []) (items_of_term base from (Some (own_number base a b)) a)
            (items_of_term (base + task_count a) (Some (own_number base a b)) to b) (v - base) v
            (omega (arith, length-tasks a)) (made-outside (base + task_count a) (Some (own_number base a b)) to b v
            (λ z. omega arith) (ne-eqb (own_number base a b) v (λ e. omega arith)))));
      })
      (λ x x2. let y = has_input (base + task_count a) (Some (own_number base a b)) to b v g.1 x x2 in
      let there = r y.item (in_right y.item _ _ y.listed) y.leads in
      let absent = near_absent _ _ _ y.item.from done y.near (λ u p q. k u (omega arith) (omega arith))
      (k (own_number base a b) (omega arith) (omega arith)) in
      absurd (clash (sym there ∙ absent)))
      (λ x. let e = all_out base from (Some (own_number base a b)) done a s g.0 h (λ i p q. r i (in_left i _ _ p) (q ∙ ap Some (sym x))) in
      let old = at-ended base done a (subst (At base done a) e h) in
      record {
        after = inr (first_state forward b);
        stands = (
          ((λ u p q. has-more done v u (old u p q)), rw (← x) (has-new done v)),
          fresh-at (base + task_count a) (done ++ v ∷ []) b
              (fresh-other (base + task_count a) (task_count b) done v (λ z. omega arith) (λ u p q. k u (omega arith) (omega arith))),
        );
        running = hill_of a w b;
        step = (e, refl, refl, x);
        is =
            let p = ap (memory_of a) e ∙ mem-first backward a in
            let q = made-first (base + task_count a) (Some (own_number base a b)) to b v (λ z. omega arith) (rw (← x) (eqb_same v)) in
            let n = need-right (tasks_of_term a) (tasks_of_term b ++ w ∷ []) (items_of_term base from (Some (own_number base a b)) a)
            (items_of_term (base + task_count a) (Some (own_number base a b)) to b) (v - base) (length (tasks_of_term b)) v
            (omega (arith, length-tasks a, length-tasks b))
            (made-outside base from (Some (own_number base a b)) a v (λ z. omega arith) f) in
            let z = need-last (tasks_of_term b) w (items_of_term (base + task_count a) (Some (own_number base a b)) to b) v in
            omega (arith, p, q, n, z);
      })
  run-next base from to done (series a w b) (inr s) v g (k, h) l m f n r =
      split_own v base a b m
      (λ x. absurd (clash (sym (k.0 v l x) ∙ n)))
      (λ x x2. let y = run-next (base + task_count a) (Some (own_number base a b)) to done b s v g.1 h x x2
      (ne-eqb (own_number base a b) v (λ e. omega arith)) n (λ i e. r i (in_right i _ _ e)) in
      record {
        after = inr y.after;
        stands = ((ended-more base (task_count a) done v k.0, has-more done v (own_number base a b) k.1), y.stands);
        running = y.running;
        step = y.step;
        is = y.is
            ∙ ap (λ z. memory_of b s + z)
            (sym (need-right (tasks_of_term a) (tasks_of_term b ++ w ∷ []) (items_of_term base from (Some (own_number base a b)) a)
            (items_of_term (base + task_count a) (Some (own_number base a b)) to b) (v - base) (v - (base + task_count a)) v
            (omega (arith, length-tasks a)) (made-outside base from (Some (own_number base a b)) a v (λ z. omega arith) f)
            ∙ need-first (tasks_of_term b) w (items_of_term (base + task_count a) (Some (own_number base a b)) to b)
            (v - (base + task_count a)) v (omega (arith, length-tasks b))));
      })
      (λ x. absurd (clash (sym (rw (← x) at k.1) ∙ n)))
  run-next base from to done (par ts) ss v g h l m f n r =
      let y = all_run-next base from to done ts ss v g.1 h l m f n r in
      record { after = y.after; stands = y.stands; running = y.running; step = y.step; is = y.is }

  pub all_run-next : (base : ℕ) (from to : Option ℕ) (done : List ℕ) (ts : Parts) (ss : States ts) (v : ℕ)
      → HaveParts ts → AllAt base done ts ss
      → base ≤ v → v < base + task_count_of_parts ts → is_named from v ≡ false
      → stands_in done v ≡ false → Ready done (items_of_parts base from to ts) v
      → WalkedAll base done ts ss v (need_in (tasks_of_parts ts) (items_of_parts base from to ts) (v - base) v)
  all_run-next base from to done no_parts ss v g h l m f n r = absurd (omega arith)
  all_run-next base from to done (part t ts) (s, ss) v g (h, k) l m f n r =
      split2 v (base + task_count t)
      (λ x. let y = run-next base from to done t s v g.0 h l x f n (λ i e. r i (in_left i _ _ e)) in
      let o = need-left (tasks_of_term t) (tasks_of_parts ts) (items_of_term base from to t)
      (items_of_parts (base + task_count t) from to ts) (v - base) v
      (omega (arith, length-tasks t)) (all_made-outside (base + task_count t) from to ts v (λ z. omega arith) f) in
      record {
        after = (y.after, ss);
        stands = (y.stands, all_at-other (base + task_count t) done ts ss v (λ z. omega arith) k);
        running = y.running + memory_of_parts ts ss;
        step = inl (refl, (y.running, y.step, refl));
        is = omega (arith, y.is, o);
      })
      (λ x. let y = all_run-next (base + task_count t) from to done ts ss v g.1 k x (omega arith) f n (λ i e. r i (in_right i _ _ e)) in
      let o = need-right (tasks_of_term t) (tasks_of_parts ts) (items_of_term base from to t)
      (items_of_parts (base + task_count t) from to ts) (v - base) (v - (base + task_count t)) v
      (omega (arith, length-tasks t)) (made-outside base from to t v (λ z. omega arith) f) in
      record {
        after = (s, y.after);
        stands = (at-other base done t s v (λ z. omega arith) h, y.stands);
        running = memory_of t s + y.running;
        step = inr (refl, (y.running, y.step, refl));
        is = omega (arith, y.is, o);
      })
