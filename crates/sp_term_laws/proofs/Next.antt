-- The next task of a system is a step of the term.
use Rattle.std.proofs.Common.{◌≡◌, ℕ, suc, ◌+◌, ◌<◌, ◌≤◌, inl, inr, true, false, refl, arith}
use Rattle.std.proofs.Common.{◌∙◌, List, [], ◌∷◌, ◌++◌, length, Option, Some, length-append}
use Rattle.std.specs.Prelude.{◌==◌}
use Rattle.std.proofs.lemmas.List.Folds.{list_any-append}
use Rattle.std.proofs.Math.Seq.{get_or-append_seam}
use Rattle.std.proofs.lemmas.List.{get_or_append_left, get_or-append-add}
use Rattle.mp_system.specs.Memory.{stands_in}
use Rattle.mp_system.specs.System.{is_named}
use Rattle.mp_system.specs.declared.system.Item.{Item}
use Rattle.mp_system.specs.declared.system.Task.{Task}
use Rattle.sp_terms.specs.SystemOfTerm.{own_number, task_count, task_count_of_parts, tasks_of_term}
use Rattle.sp_terms.specs.SystemOfTerm.{tasks_of_parts, items_of_term, items_of_parts}
use Rattle.sp_terms.specs.Term.{Term, hold, series, par, Parts, no_parts, part, forward, backward, first_memory, first_memory_of_parts}
use Rattle.sp_term_laws.proofs.Words.{made, done_or, need_with, no_task, need_in}
use Rattle.sp_term_laws.specs.Moves.{State, States, first_state, first_states}
use Rattle.sp_term_laws.proofs.At.{Fresh, Ended, At, AllAt, held_one}
use Rattle.sp_term_laws.proofs.Ends.{split_own, In, split2}
use Rattle.lists.proofs.Bools.{or_false, or_true, eqb_same}
use Rattle.std.proofs.lemmas.Bool.{ne_eqb}
use Rattle.sp_terms.proofs.SystemLemmas.{made-append}

-- one more task is done

pub has-more : (done : List ℕ) (v u : ℕ) → stands_in done u ≡ true → stands_in (done ++ v ∷ []) u ≡ true
has-more done v u h = list_any-append (λ x. x == u) done (v ∷ []) ∙ rw h

pub has-new : (done : List ℕ) (v : ℕ) → stands_in (done ++ v ∷ []) v ≡ true
has-new done v = list_any-append (λ x. x == v) done (v ∷ []) ∙ rw (eqb_same v) (or_true (stands_in done v))

pub has-other : (done : List ℕ) (v u : ℕ) → (v ≡ u → ⊥) → stands_in (done ++ v ∷ []) u ≡ stands_in done u
has-other done v u ne = list_any-append (λ x. x == u) done (v ∷ []) ∙ rw (ne_eqb v u ne) (or_false (stands_in done u))

-- the own_number is none of the `count` from `base` on
abbrev pub Apart : ℕ → ℕ → ℕ → Type 0
Apart base count v = base ≤ v → base + count ≤ v

pub fresh-other : (base count : ℕ) (done : List ℕ) (v : ℕ) → Apart base count v → Fresh base count done → Fresh base count (done ++ v ∷ [])
fresh-other base count done v o h u l m = has-other done v u (λ e. let x : base + count ≤ v = o (omega arith) in omega arith) ∙ h u l m

pub ended-more : (base count : ℕ) (done : List ℕ) (v : ℕ) → Ended base count done → Ended base count (done ++ v ∷ [])
ended-more base count done v h u l m = has-more done v u (h u l m)

mutual
  pub at-other : (base : ℕ) (done : List ℕ) (t : Term) (s : State t) (v : ℕ)
      → Apart base (task_count t) v → At base done t s → At base (done ++ v ∷ []) t s
  at-other base done (hold size) s v o h = tt
  at-other base done (series a w b) (inl s) v o (h, k) =
      (at-other base done a s v (λ l. omega arith) h, fresh-other (base + task_count a) (suc (task_count b)) done v (λ l. omega arith) k)
  at-other base done (series a w b) (inr s) v o (k, h) = (
    (ended-more base (task_count a) done v k.0, has-more done v (own_number base a b) k.1),
    at-other (base + task_count a) done b s v (λ l. omega arith) h,
  )
  at-other base done (par ts) ss v o h = all_at-other base done ts ss v o h

  pub all_at-other : (base : ℕ) (done : List ℕ) (ts : Parts) (ss : States ts) (v : ℕ)
      → Apart base (task_count_of_parts ts) v → AllAt base done ts ss → AllAt base (done ++ v ∷ []) ts ss
  all_at-other base done no_parts ss v o h = tt
  all_at-other base done (part t ts) (s, ss) v o (h, k) =
      (at-other base done t s v (λ l. omega arith) h, all_at-other (base + task_count t) done ts ss v (λ l. omega arith) k)

-- a term has ended where all its tasks have, and the other way round

mutual
  pub ended-at : (base : ℕ) (done : List ℕ) (t : Term) → Ended base (task_count t) done → At base done t (first_state backward t)
  ended-at base done (hold size) h = tt
  ended-at base done (series a w b) h = (
    ((λ u l m. h u l (omega arith)), h (own_number base a b) (omega arith) (omega arith)),
    ended-at (base + task_count a) done b (λ u l m. h u (omega arith) (omega arith)),
  )
  ended-at base done (par ts) h = all_ended-at base done ts h

  pub all_ended-at : (base : ℕ) (done : List ℕ) (ts : Parts)
      → Ended base (task_count_of_parts ts) done → AllAt base done ts (first_states backward ts)
  all_ended-at base done no_parts h = tt
  all_ended-at base done (part t ts) h = (
    ended-at base done t (λ u l m. h u l (omega arith)),
    all_ended-at (base + task_count t) done ts (λ u l m. h u (omega arith) (omega arith)),
  )

mutual
  pub fresh-at : (base : ℕ) (done : List ℕ) (t : Term) → Fresh base (task_count t) done → At base done t (first_state forward t)
  fresh-at base done (hold size) h = tt
  fresh-at base done (series a w b) h = (fresh-at base done a (λ u l m. h u l (omega arith)), λ u l m. h u (omega arith) (omega arith))
  fresh-at base done (par ts) h = all_fresh-at base done ts h

  pub all_fresh-at : (base : ℕ) (done : List ℕ) (ts : Parts)
      → Fresh base (task_count_of_parts ts) done → AllAt base done ts (first_states forward ts)
  all_fresh-at base done no_parts h = tt
  all_fresh-at base done (part t ts) h = (
    fresh-at base done t (λ u l m. h u l (omega arith)),
    all_fresh-at (base + task_count t) done ts (λ u l m. h u (omega arith) (omega arith)),
  )

mutual
  pub at-ended : (base : ℕ) (done : List ℕ) (t : Term) → At base done t (first_state backward t) → Ended base (task_count t) done
  at-ended base done (hold size) h u l m = absurd (omega arith)
  at-ended base done (series a w b) (k, h) u l m =
      split_own u base a b m (λ x. k.0 u l x) (λ x y. at-ended (base + task_count a) done b h u x y) (λ x. rw x k.1)
  at-ended base done (par ts) h u l m = all_at-ended base done ts h u l m

  pub all_at-ended : (base : ℕ) (done : List ℕ) (ts : Parts)
      → AllAt base done ts (first_states backward ts) → Ended base (task_count_of_parts ts) done
  all_at-ended base done no_parts h u l m = absurd (omega arith)
  all_at-ended base done (part t ts) (h, k) u l m =
      split2 u (base + task_count t) (λ x. at-ended base done t h u l x)
      (λ x. all_at-ended (base + task_count t) done ts k u x (omega arith))

mutual
  pub at-fresh : (base : ℕ) (done : List ℕ) (t : Term) → At base done t (first_state forward t) → Fresh base (task_count t) done
  at-fresh base done (hold size) h u l m = absurd (omega arith)
  at-fresh base done (series a w b) (h, k) u l m =
      split2 u (base + task_count a) (λ x. at-fresh base done a h u l x) (λ x. k u x (omega arith))
  at-fresh base done (par ts) h u l m = all_at-fresh base done ts h u l m

  pub all_at-fresh : (base : ℕ) (done : List ℕ) (ts : Parts)
      → AllAt base done ts (first_states forward ts) → Fresh base (task_count_of_parts ts) done
  all_at-fresh base done no_parts h u l m = absurd (omega arith)
  all_at-fresh base done (part t ts) (h, k) u l m =
      split2 u (base + task_count t) (λ x. at-fresh base done t h u l x)
      (λ x. all_at-fresh (base + task_count t) done ts k u x (omega arith))

-- what a task produces

-- by a task that is none of these
mutual
  pub made-outside : (base : ℕ) (from to : Option ℕ) (t : Term) (v : ℕ)
      → Apart base (task_count t) v → is_named from v ≡ false → made (items_of_term base from to t) v ≡ 0
  made-outside base from to (hold size) v o f =
      held_one (λ item. is_named item.from v) (record { size = size; from = from; to = to }) ∙ rw f
  made-outside base from to (series a w b) v o f =
      made-append (items_of_term base from (Some (own_number base a b)) a)
      (items_of_term (base + task_count a) (Some (own_number base a b)) to b) v
      ∙ omega (
        arith,
        made-outside base from (Some (own_number base a b)) a v (λ l. omega arith) f,
        made-outside (base + task_count a) (Some (own_number base a b)) to b v
            (λ l. omega arith) (ne_eqb (own_number base a b) v (λ e. omega arith)),
      )
  made-outside base from to (par ts) v o f = all_made-outside base from to ts v o f

  pub all_made-outside : (base : ℕ) (from to : Option ℕ) (ts : Parts) (v : ℕ)
      → Apart base (task_count_of_parts ts) v → is_named from v ≡ false → made (items_of_parts base from to ts) v ≡ 0
  all_made-outside base from to no_parts v o f = refl
  all_made-outside base from to (part t ts) v o f =
      made-append (items_of_term base from to t) (items_of_parts (base + task_count t) from to ts) v
      ∙ omega (
        arith,
        made-outside base from to t v (λ l. omega arith) f,
        all_made-outside (base + task_count t) from to ts v (λ l. omega arith) f,
      )

-- by the task from which the term starts
mutual
  pub made-first : (base : ℕ) (from to : Option ℕ) (t : Term) (v : ℕ) → Apart base (task_count t) v
      → is_named from v ≡ true → made (items_of_term base from to t) v ≡ first_memory forward t
  made-first base from to (hold size) v o f = held_one (λ item. is_named item.from v) (record { size = size; from = from; to = to }) ∙ rw f
  made-first base from to (series a w b) v o f =
      made-append (items_of_term base from (Some (own_number base a b)) a)
      (items_of_term (base + task_count a) (Some (own_number base a b)) to b) v
      ∙ omega (
        arith,
        made-first base from (Some (own_number base a b)) a v (λ l. omega arith) f,
        made-outside (base + task_count a) (Some (own_number base a b)) to b v
            (λ l. omega arith) (ne_eqb (own_number base a b) v (λ e. omega arith)),
      )
  made-first base from to (par ts) v o f = all_made-first base from to ts v o f

  pub all_made-first : (base : ℕ) (from to : Option ℕ) (ts : Parts) (v : ℕ) → Apart base (task_count_of_parts ts) v
      → is_named from v ≡ true → made (items_of_parts base from to ts) v ≡ first_memory_of_parts forward ts
  all_made-first base from to no_parts v o f = refl
  all_made-first base from to (part t ts) v o f =
      made-append (items_of_term base from to t) (items_of_parts (base + task_count t) from to ts) v
      ∙ omega (
        arith,
        made-first base from to t v (λ l. omega arith) f,
        all_made-first (base + task_count t) from to ts v (λ l. omega arith) f,
      )

mutual
  pub length-tasks : (t : Term) → length (tasks_of_term t) ≡ task_count t
  length-tasks (hold size) = refl
  length-tasks (series a w b) = length-append (tasks_of_term a) (tasks_of_term b ++ w ∷ [])
      ∙ omega (arith, length-append (tasks_of_term b) (w ∷ []), length-tasks a, length-tasks b)
  length-tasks (par ts) = length-all_tasks ts

  pub length-all_tasks : (ts : Parts) → length (tasks_of_parts ts) ≡ task_count_of_parts ts
  length-all_tasks no_parts = refl
  length-all_tasks (part t ts) = length-append (tasks_of_term t) (tasks_of_parts ts) ∙ omega (arith, length-tasks t, length-all_tasks ts)

pub need-left : (xs ys : List Task) (is js : List Item) (k v : ℕ) → k < length xs
    → made js v ≡ 0 → need_in (xs ++ ys) (is ++ js) k v ≡ need_in xs is k v
need-left xs ys is js k v h e =
    let p : made (is ++ js) v ≡ made is v = omega (arith, made-append is js v) in
    let q = get_or_append_left xs ys no_task k h in
    cc

-- a task that stands before the last one, and the last one
pub need-first : (xs : List Task) (w : Task) (is : List Item) (k v : ℕ) → k < length xs → need_in (xs ++ w ∷ []) is k v ≡ need_in xs is k v
need-first xs w is k v h = let q = get_or_append_left xs (w ∷ []) no_task k h in cc

pub need-last : (xs : List Task) (w : Task) (is : List Item) (v : ℕ) → need_in (xs ++ w ∷ []) is (length xs) v ≡ need_with w (made is v)
need-last xs w is v = let q = get_or-append_seam xs w [] no_task in cc

pub need-right : (xs ys : List Task) (is js : List Item) (k i v : ℕ) → k ≡ length xs + i
    → made is v ≡ 0 → need_in (xs ++ ys) (is ++ js) k v ≡ need_in ys js i v
need-right xs ys is js k i v h e =
    let p : made (is ++ js) v ≡ made js v = omega (arith, made-append is js v) in
    let q = get_or-append-add xs ys i no_task in
    cc

-- every producer of what the task consumes is done
abbrev pub Ready : List ℕ → List Item → ℕ → Type 0
Ready done all v = (item : Item) → In item all → item.to ≡ Some v → done_or true done item.from ≡ true
