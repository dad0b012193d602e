-- The state of a term after a list of tasks.
use Rattle.std.proofs.Common.{◌≡◌, ℕ, suc, ◌+◌, ◌<◌, ◌≤◌, inl, inr, Bool, true, false, refl}
use Rattle.std.proofs.Common.{arith, ◌∙◌, List, [], ◌∷◌, ◌++◌, Option, Some, cond}
use Rattle.std.specs.Prelude.{◌&&◌}
use Rattle.std.proofs.lemmas.List.Sums.{sum_by-append, sum_by-cons}
use Rattle.mp_system.specs.Memory.{stands_in}
use Rattle.mp_system.specs.System.{size_where, size_if}
use Rattle.mp_system.specs.declared.system.Item.{Item}
use Rattle.sp_terms.specs.SystemOfTerm.{own_number, task_count, task_count_of_parts, items_of_term, items_of_parts}
use Rattle.sp_terms.specs.Term.{Term, hold, series, par, Parts, no_parts, part}
use Rattle.sp_term_laws.proofs.Words.{done_or, is_there}
use Rattle.sp_term_laws.specs.Moves.{State, States, memory_of, memory_of_parts}

-- none, or each, of the `count` tasks from `base` on is done
abbrev pub Fresh : ℕ → ℕ → List ℕ → Type 0
Fresh base count done = (v : ℕ) → base ≤ v → v < base + count → stands_in done v ≡ false

abbrev pub Ended : ℕ → ℕ → List ℕ → Type 0
Ended base count done = (v : ℕ) → base ≤ v → v < base + count → stands_in done v ≡ true

-- the term whose tasks are numbered from `base` is in this state after these tasks
abbrev mutual
  pub At : ℕ → List ℕ → (t : Term) → State t → Type 0
  At base done (hold size) s = Unit {0}
  At base done (series a v b) (inl s) = At base done a s × Fresh (base + task_count a) (suc (task_count b)) done
  At base done (series a v b) (inr s) =
      (Ended base (task_count a) done × (stands_in done (own_number base a b) ≡ true)) × At (base + task_count a) done b s
  At base done (par ts) ss = AllAt base done ts ss

  pub AllAt : ℕ → List ℕ → (ts : Parts) → States ts → Type 0
  AllAt base done no_parts ss = Unit {0}
  AllAt base done (part t ts) (s, ss) = At base done t s × AllAt (base + task_count t) done ts ss

-- memory

pub held-append : (test : Item → Bool) (xs ys : List Item) → size_where test (xs ++ ys) ≡ size_where test xs + size_where test ys
held-append test xs ys = sum_by-append (size_if test) xs ys

pub held_one : (test : Item → Bool) (item : Item) → size_where test (item ∷ []) ≡ cond (test item) item.size 0
held_one test item = sum_by-cons (size_if test) item [] ∙ plus_zero (cond (test item) item.size 0)
  where
    plus_zero : (n : ℕ) → n + 0 ≡ n
    plus_zero n = omega arith

mutual
  pub held-fresh : (base : ℕ) (from to : Option ℕ) (done : List ℕ) (t : Term) → Fresh base (task_count t) done
      → done_or true done from ≡ false → size_where (is_there done) (items_of_term base from to t) ≡ 0
  held-fresh base from to done (hold size) h f = held_one (is_there done) (record { size = size; from = from; to = to }) ∙ rw f
  held-fresh base from to done (series a v b) h f =
      held-append (is_there done) (items_of_term base from (Some (own_number base a b)) a)
      (items_of_term (base + task_count a) (Some (own_number base a b)) to b)
      ∙ omega (
        arith,
        held-fresh base from (Some (own_number base a b)) done a (λ w l m. h w l (omega arith)) f,
        held-fresh (base + task_count a) (Some (own_number base a b)) to done b
            (λ w l m. h w (omega arith) (omega arith)) (h (own_number base a b) (omega arith) (omega arith)),
      )
  held-fresh base from to done (par ts) h f = all_held-fresh base from to done ts h f

  all_held-fresh : (base : ℕ) (from to : Option ℕ) (done : List ℕ) (ts : Parts) → Fresh base (task_count_of_parts ts) done
      → done_or true done from ≡ false → size_where (is_there done) (items_of_parts base from to ts) ≡ 0
  all_held-fresh base from to done no_parts h f = refl
  all_held-fresh base from to done (part t ts) h f =
      held-append (is_there done) (items_of_term base from to t) (items_of_parts (base + task_count t) from to ts)
      ∙ omega (
        arith,
        held-fresh base from to done t (λ w l m. h w l (omega arith)) f,
        all_held-fresh (base + task_count t) from to done ts (λ w l m. h w (omega arith) (omega arith)) f,
      )

none_left : (b : Bool) (n : ℕ) → cond (b && false) n 0 ≡ 0
none_left true n = refl
none_left false n = refl

mutual
  pub held-ended : (base : ℕ) (from to : Option ℕ) (done : List ℕ) (t : Term) → Ended base (task_count t) done
      → done_or false done to ≡ true → size_where (is_there done) (items_of_term base from to t) ≡ 0
  held-ended base from to done (hold size) h f =
      held_one (is_there done) (record { size = size; from = from; to = to }) ∙ rw f (none_left (done_or true done from) size)
  held-ended base from to done (series a v b) h f =
      held-append (is_there done) (items_of_term base from (Some (own_number base a b)) a)
      (items_of_term (base + task_count a) (Some (own_number base a b)) to b)
      ∙ omega (
        arith,
        held-ended base from (Some (own_number base a b)) done a
            (λ w l m. h w l (omega arith)) (h (own_number base a b) (omega arith) (omega arith)),
        held-ended (base + task_count a) (Some (own_number base a b)) to done b (λ w l m. h w (omega arith) (omega arith)) f,
      )
  held-ended base from to done (par ts) h f = all_held-ended base from to done ts h f

  all_held-ended : (base : ℕ) (from to : Option ℕ) (done : List ℕ) (ts : Parts) → Ended base (task_count_of_parts ts) done
      → done_or false done to ≡ true → size_where (is_there done) (items_of_parts base from to ts) ≡ 0
  all_held-ended base from to done no_parts h f = refl
  all_held-ended base from to done (part t ts) h f =
      held-append (is_there done) (items_of_term base from to t) (items_of_parts (base + task_count t) from to ts)
      ∙ omega (
        arith,
        held-ended base from to done t (λ w l m. h w l (omega arith)) f,
        all_held-ended (base + task_count t) from to done ts (λ w l m. h w (omega arith) (omega arith)) f,
      )

mutual
  pub held-at : (base : ℕ) (from to : Option ℕ) (done : List ℕ) (t : Term) (s : State t) → At base done t s → done_or true done from ≡ true
      → done_or false done to ≡ false → size_where (is_there done) (items_of_term base from to t) ≡ memory_of t s
  held-at base from to done (hold size) s h f g = held_one (is_there done) (record { size = size; from = from; to = to }) ∙ rw (f, g)
  held-at base from to done (series a v b) (inl s) (h, k) f g =
      held-append (is_there done) (items_of_term base from (Some (own_number base a b)) a)
      (items_of_term (base + task_count a) (Some (own_number base a b)) to b)
      ∙ omega (
        arith,
        held-at base from (Some (own_number base a b)) done a s h f (k (own_number base a b) (omega arith) (omega arith)),
        held-fresh (base + task_count a) (Some (own_number base a b)) to done b
            (λ w l m. k w (omega arith) (omega arith)) (k (own_number base a b) (omega arith) (omega arith)),
      )
  held-at base from to done (series a v b) (inr s) (k, h) f g =
      held-append (is_there done) (items_of_term base from (Some (own_number base a b)) a)
      (items_of_term (base + task_count a) (Some (own_number base a b)) to b)
      ∙ omega (
        arith,
        held-ended base from (Some (own_number base a b)) done a k.0 k.1,
        held-at (base + task_count a) (Some (own_number base a b)) to done b s h k.1 g,
      )
  held-at base from to done (par ts) ss h f g = all_held-at base from to done ts ss h f g

  all_held-at : (base : ℕ) (from to : Option ℕ) (done : List ℕ) (ts : Parts) (ss : States ts)
      → AllAt base done ts ss → done_or true done from ≡ true → done_or false done to ≡ false
      → size_where (is_there done) (items_of_parts base from to ts) ≡ memory_of_parts ts ss
  all_held-at base from to done no_parts ss h f g = refl
  all_held-at base from to done (part t ts) (s, ss) (h, k) f g =
      held-append (is_there done) (items_of_term base from to t) (items_of_parts (base + task_count t) from to ts)
      ∙ omega (
        arith,
        held-at base from to done t s h f g,
        all_held-at (base + task_count t) from to done ts ss k f g,
      )
