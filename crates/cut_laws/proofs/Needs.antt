-- What a task of a term needs while it runs is what its system says.
use Rattle.std.proofs.Common.{◌≡◌, ℕ, ◌+◌, ◌-◌, ◌<◌, ◌≤◌, inl, inr, Bool, true, false, cond, refl, ap}
use Rattle.std.proofs.Common.{arith, ◌∙◌, List, [], ◌∷◌, ◌++◌, length, Option, Some, length-append}
use Rattle.std.specs.Prelude.{slice_index_or}
use Rattle.std.proofs.lemmas.List.Sums.{sum_by-cons}
use Rattle.mp_system.specs.System.{is_named, is_output, size_if}
use Rattle.mp_system.specs.declared.system.Item.{Item}
use Rattle.mp_system.specs.declared.system.Task.{Task}
use Rattle.sp_terms.specs.SystemOfTerm.{own_number, task_count, task_count_of_parts, tasks_of_term}
use Rattle.sp_terms.specs.SystemOfTerm.{tasks_of_parts, items_of_term, items_of_parts}
use Rattle.sp_terms.specs.Term.{Term, hold, series, par, Parts, no_parts, part, forward, backward, first_memory, first_memory_of_parts}
use Rattle.sp_term_laws.specs.Moves.{State, States, memory_of, memory_of_parts}
use Rattle.sp_term_laws.specs.Ways.{Run, Runs}
use Rattle.cut_laws.specs.Below.{TermLaws}
use Rattle.lists.proofs.Bools.{eqb_same}
use Rattle.std.proofs.lemmas.Bool.{ne_eqb}
use Rattle.sp_term_laws.proofs.Next.{need-first, need-last, need-right, need-left}
use Rattle.sp_terms.proofs.SystemLemmas.{made-append, made}

abbrev no_task : Task
no_task = record { extra = 0; share = 0; time = 0 }

abbrev need_with : Task → ℕ → ℕ
need_with task outputs = task.extra + outputs - task.share

-- what the k-th task, with the number v, needs
abbrev pub need_in : List Task → List Item → ℕ → ℕ → ℕ
need_in tasks items k v = need_with (slice_index_or tasks k no_task) (made items v)

-- the number is none of the `count` from `base` on
abbrev Apart : ℕ → ℕ → ℕ → Type 0
Apart base count v = base ≤ v → base + count ≤ v

made_one : (v size : ℕ) (from to : Option ℕ) (b : Bool) → is_named from v ≡ b
    → made (record { size = size; from = from; to = to } ∷ []) v ≡ cond b size 0
made_one v size from to b h = sum_by-cons (size_if (is_output v)) (record { size = size; from = from; to = to }) [] ∙ rw h (omega arith)

-- by a task that is none of these
mutual
  made-outside : (base : ℕ) (from to : Option ℕ) (t : Term) (v : ℕ) → Apart base (task_count t) v
      → is_named from v ≡ false → made (items_of_term base from to t) v ≡ 0
  made-outside base from to (hold size) v o f = made_one v size from to false f
  made-outside base from to (series a w b) v o f =
      made-append (items_of_term base from (Some (own_number base a b)) a)
      (items_of_term (base + task_count a) (Some (own_number base a b)) to b) v
      ∙ omega (
        arith,
        made-outside base from (Some (own_number base a b)) a v (λ l. omega arith) f,
        made-outside (base + task_count a) (Some (own_number base a b)) to b v
            (λ l. omega arith) (ne_eqb (own_number base a b) v (λ e. omega arith)),
      )
  made-outside base from to (par ts) v o f = made-outside_parts base from to ts v o f

  made-outside_parts : (base : ℕ) (from to : Option ℕ) (ts : Parts) (v : ℕ)
      → Apart base (task_count_of_parts ts) v → is_named from v ≡ false → made (items_of_parts base from to ts) v ≡ 0
  made-outside_parts base from to no_parts v o f = refl
  made-outside_parts base from to (part t ts) v o f =
      made-append (items_of_term base from to t) (items_of_parts (base + task_count t) from to ts) v
      ∙ omega (
        arith,
        made-outside base from to t v (λ l. omega arith) f,
        made-outside_parts (base + task_count t) from to ts v (λ l. omega arith) f,
      )

-- by the task from which the term starts
mutual
  made-first : (base : ℕ) (from to : Option ℕ) (t : Term) (v : ℕ) → Apart base (task_count t) v
      → is_named from v ≡ true → made (items_of_term base from to t) v ≡ first_memory forward t
  made-first base from to (hold size) v o f = made_one v size from to true f
  made-first base from to (series a w b) v o f =
      made-append (items_of_term base from (Some (own_number base a b)) a)
      (items_of_term (base + task_count a) (Some (own_number base a b)) to b) v
      ∙ omega (
        arith,
        made-first base from (Some (own_number base a b)) a v (λ l. omega arith) f,
        made-outside (base + task_count a) (Some (own_number base a b)) to b v
            (λ l. omega arith) (ne_eqb (own_number base a b) v (λ e. omega arith)),
      )
  made-first base from to (par ts) v o f = made-first_parts base from to ts v o f

  made-first_parts : (base : ℕ) (from to : Option ℕ) (ts : Parts) (v : ℕ) → Apart base (task_count_of_parts ts) v
      → is_named from v ≡ true → made (items_of_parts base from to ts) v ≡ first_memory_of_parts forward ts
  made-first_parts base from to no_parts v o f = refl
  made-first_parts base from to (part t ts) v o f =
      made-append (items_of_term base from to t) (items_of_parts (base + task_count t) from to ts) v
      ∙ omega (
        arith,
        made-first base from to t v (λ l. omega arith) f,
        made-first_parts (base + task_count t) from to ts v (λ l. omega arith) f,
      )

mutual
  pub length-tasks : (t : Term) → length (tasks_of_term t) ≡ task_count t
  length-tasks (hold size) = refl
  length-tasks (series a w b) = length-append (tasks_of_term a) (tasks_of_term b ++ w ∷ [])
      ∙ omega (arith, length-append (tasks_of_term b) (w ∷ []), length-tasks a, length-tasks b)
  length-tasks (par ts) = length-tasks_parts ts

  length-tasks_parts : (ts : Parts) → length (tasks_of_parts ts) ≡ task_count_of_parts ts
  length-tasks_parts no_parts = refl
  length-tasks_parts (part t ts) =
      length-append (tasks_of_term t) (tasks_of_parts ts) ∙ omega (arith, length-tasks t, length-tasks_parts ts)

-- a task that runs is one of the term, and takes its need
pub record Needs (base count v r memory need : ℕ) : Type 0 where
  pub low : base ≤ v
  pub high : v < base + count
  pub is : r ≡ memory + need

module _ (laws : TermLaws) where
  mutual
    pub run_needs : (base : ℕ) (from to : Option ℕ) (t : Term) (s : State t) (v r : ℕ) (s' : State t)
        → Run forward base t s v r s' → (base ≤ v → v < base + task_count t → is_named from v ≡ false)
        → Needs base (task_count t) v r (memory_of t s) (need_in (tasks_of_term t) (items_of_term base from to t) (v - base) v)
    run_needs base from to (hold size) s v r s' h o = absurd h
    run_needs base from to (series a w b) (inl s) v r (inl s') h o =
        let own : ℕ = own_number base a b in
        let x = run_needs base from (Some own) a s v r s' h (λ l m. o l (omega arith)) in
        let low = x.low in
        let high = x.high in
        let n = length-tasks a in
        let out : made (items_of_term (base + task_count a) (Some own) to b) v ≡ 0 =
        made-outside (base + task_count a) (Some own) to b v (λ l. omega arith) (ne_eqb own v (λ e. omega arith)) in
        let same = need-left (tasks_of_term a) (tasks_of_term b ++ w ∷ []) (items_of_term base from (Some own) a)
        (items_of_term (base + task_count a) (Some own) to b) (v - base) v (omega arith) out in
        record { low = low; high = omega arith; is = omega (arith, x.is, same) }
    run_needs base from to (series a w b) (inl s) v r (inr s') h o =
        let own : ℕ = own_number base a b in
        let at : v ≡ own = h.3 in
        let la = length-tasks a in
        let lb = length-tasks b in
        let first = made-outside base from (Some own) a v (λ l. omega arith) (o (omega arith) (omega arith)) in
        let second : made (items_of_term (base + task_count a) (Some own) to b) v ≡ first_memory forward b =
        made-first (base + task_count a) (Some own) to b v (λ l. omega arith) (rw at (eqb_same own)) in
        let right = need-right (tasks_of_term a) (tasks_of_term b ++ w ∷ []) (items_of_term base from (Some own) a)
        (items_of_term (base + task_count a) (Some own) to b) (v - base) (length (tasks_of_term b)) v (omega arith) first in
        let last = need-last (tasks_of_term b) w (items_of_term (base + task_count a) (Some own) to b) v in
        let begins = laws.first backward a in
        let here : memory_of a s ≡ first_memory backward a = ap (memory_of a) h.0 ∙ begins in
        record { low = omega arith; high = omega arith; is = h.2 ∙ omega (arith, right, last, second, here) }
    run_needs base from to (series a w b) (inr s) v r (inl s') h o = absurd h
    run_needs base from to (series a w b) (inr s) v r (inr s') h o =
        let own : ℕ = own_number base a b in
        let inside : base + task_count a ≤ v → v < base + task_count a + task_count b → is_named (Some own) v ≡ false =
        λ l m. ne_eqb own v (λ e. omega arith) in
        let x = run_needs (base + task_count a) (Some own) to b s v r s' h inside in
        let low = x.low in
        let high = x.high in
        let la = length-tasks a in
        let lb = length-tasks b in
        let first = made-outside base from (Some own) a v (λ l. omega arith) (o (omega arith) (omega arith)) in
        let right = need-right (tasks_of_term a) (tasks_of_term b ++ w ∷ []) (items_of_term base from (Some own) a)
        (items_of_term (base + task_count a) (Some own) to b) (v - base) (v - (base + task_count a)) v (omega arith) first in
        let same = need-first (tasks_of_term b) w (items_of_term (base + task_count a) (Some own) to b)
        (v - (base + task_count a)) v (omega arith) in
        record { low = omega arith; high = omega arith; is = omega (arith, x.is, right, same) }
    run_needs base from to (par ts) s v r s' h o = run_needs_parts base from to ts s v r s' h o

    run_needs_parts : (base : ℕ) (from to : Option ℕ) (ts : Parts) (s : States ts) (v r : ℕ) (s' : States ts)
        → Runs forward base ts s v r s' → (base ≤ v → v < base + task_count_of_parts ts → is_named from v ≡ false)
        → Needs base (task_count_of_parts ts) v r (memory_of_parts ts s)
        (need_in (tasks_of_parts ts) (items_of_parts base from to ts) (v - base) v)
    run_needs_parts base from to no_parts s v r s' h o = absurd h
    run_needs_parts base from to (part t ts) (s, ss) v r (s', ss') (inl (e, (q, h, m))) o =
        let x = run_needs base from to t s v q s' h (λ l k. o l (omega arith)) in
        let low = x.low in
        let high = x.high in
        let n = length-tasks t in
        let out = made-outside_parts (base + task_count t) from to ts v (λ l. omega arith) (o low (omega arith)) in
        let same = need-left (tasks_of_term t) (tasks_of_parts ts) (items_of_term base from to t)
        (items_of_parts (base + task_count t) from to ts) (v - base) v (omega arith) out in
        record { low = low; high = omega arith; is = omega (arith, x.is, same, m) }
    run_needs_parts base from to (part t ts) (s, ss) v r (s', ss') (inr (e, (q, h, m))) o =
        let x = run_needs_parts (base + task_count t) from to ts ss v q ss' h (λ l k. o (omega arith) (omega arith)) in
        let low = x.low in
        let high = x.high in
        let n = length-tasks t in
        let out = made-outside base from to t v (λ l. omega arith) (o (omega arith) (omega arith)) in
        let same = need-right (tasks_of_term t) (tasks_of_parts ts) (items_of_term base from to t)
        (items_of_parts (base + task_count t) from to ts) (v - base) (v - (base + task_count t)) v (omega arith) out in
        record { low = omega arith; high = omega arith; is = omega (arith, x.is, same, m) }
