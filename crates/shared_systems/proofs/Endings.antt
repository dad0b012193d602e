-- What the end of a task makes of the memory of a state.
use Rattle.std.proofs.Common.{◌≡◌, ℕ, ◌+◌, ◌≤◌, Bool, true, false, cond, not, ◌&&◌, ◌||◌, eqb, eq-eqb}
use Rattle.std.proofs.Common.{List, [], ◌∷◌, Option, Some, None, refl, sym, ap, ◌∙◌, arith, inl, inr}
use Rattle.std.proofs.Math.Path.{fun_ext}
use Rattle.std.specs.List.{list_all, list_any}
use Rattle.std.proofs.lemmas.List.Sums.{sum_by-cons}
use Rattle.std.proofs.lemmas.Bool.{and_parts, eqb-true, or_cases, true≢false}
use Rattle.lists.proofs.Bools.{or_false, or_true}
use Rattle.mp_system.specs.System.{is_named}
use Rattle.mp_system.specs.Memory.{is_done_or}
use Rattle.mp_system.specs.Step.{AddsTask}
use Rattle.shared_systems.specs.Shared.{SharedTaskSystem, SharedItem, shared_size_if, shared_size_where, is_made_by, is_read_by}
use Rattle.shared_systems.specs.Shared.{is_read_by_alone, shared_outputs_of, own_inputs_of}
use Rattle.shared_systems.specs.SharedMemory.{is_made, are_done, is_held, shared_memory, has_inputs}
use Rattle.shared_systems.specs.Collected.{is_shared}
use Rattle.shared_systems.specs.Freed.{is_freed_by, freed_by}

-- ---- what is said of a state depends only on which tasks are done

pub shared_memory_same : (system : SharedTaskSystem) (done other : ℕ → Bool) → ((u : ℕ) → done u ≡ other u)
    → shared_memory system done ≡ shared_memory system other
shared_memory_same system done other same = ap (shared_memory system) (fun_ext same)

-- ---- one item

-- whether it was made, whether the task makes it and reads it, and whether all its readers are done before and after
balance : (made makes reads before after : Bool) (size : ℕ) → (makes ≡ true → made ≡ false) → (reads ≡ true → made ≡ true)
    → (before ≡ true → made ≡ true) → (reads ≡ true → before ≡ false) → (reads ≡ false → after ≡ before)
    → cond ((made || makes) && not after) size 0 + cond (reads && after) size 0 ≡ cond (made && not before) size 0 + cond makes size 0
balance made true true before after size fresh ready order new same = absurd (true≢false (sym (ready refl) ∙ fresh refl))
balance false false true before after size fresh ready order new same = absurd (let e = ready refl in cc)
balance true false true true after size fresh ready order new same = absurd (let e = new refl in cc)
balance true false true false true size fresh ready order new same = omega arith
balance true false true false false size fresh ready order new same = refl
balance made makes false before after size fresh ready order new same =
    rw (same refl) (unread made makes before size fresh order)
  where
    unread : (made makes before : Bool) (size : ℕ) → (makes ≡ true → made ≡ false) → (before ≡ true → made ≡ true)
        → cond ((made || makes) && not before) size 0 + 0 ≡ cond (made && not before) size 0 + cond makes size 0
    unread true true before size fresh order = absurd (let e = fresh refl in cc)
    unread false true true size fresh order = absurd (let e = order refl in cc)
    unread false true false size fresh order = omega arith
    unread true false before size fresh order = refl
    unread false false before size fresh order = refl

made_from : (read made : Bool) → (not read || made) ≡ true → read ≡ true → made ≡ true
made_from true made ready is = ready
made_from false made ready is = absurd cc

module _ (done later : ℕ → Bool) (v : ℕ) (fresh : done v ≡ false) (adds : AddsTask done v later) where
  all_later : (to : List ℕ) → list_all later to ≡ list_all (λ c. done c || eqb c v) to
  all_later to = ap (λ (f : ℕ → Bool). list_all f to) (fun_ext adds)

  made_later : (from : Option ℕ) → is_done_or true later from ≡ (is_done_or true done from || is_named from v)
  made_later None = refl
  made_later (Some u) = adds u

  makes_new : (from : Option ℕ) → is_named from v ≡ true → is_done_or true done from ≡ false
  makes_new None is = absurd cc
  makes_new (Some u) is = ap done (eqb-true u v is) ∙ fresh

  -- a reader that is not done
  some_left : (to : List ℕ) → list_any (λ c. eqb c v) to ≡ true → list_all done to ≡ false
  some_left [] is = absurd cc
  some_left (c ∷ to) is = elim (or_cases (eqb c v) (list_any (λ d. eqb d v) to) is) [
    | inl here ↦ rw (ap done (eqb-true c v here) ∙ fresh) refl
    | inr there ↦ rw (some_left to there) (no_and (done c))
  ]
    where
      no_and : (b : Bool) → (b && false) ≡ false
      no_and true = refl
      no_and false = refl

  others_same : (to : List ℕ) → list_any (λ c. eqb c v) to ≡ false → list_all (λ c. done c || eqb c v) to ≡ list_all done to
  others_same [] out = refl
  others_same (c ∷ to) out = rw (first (eqb c v) out, others_same to (rest (eqb c v) out)) (ap (λ (b : Bool). b && list_all done to) (or_false (done c)))
    where
      first : (b : Bool) → (b || list_any (λ d. eqb d v) to) ≡ false → b ≡ false
      first true out = absurd cc
      first false out = refl

      rest : (b : Bool) → (b || list_any (λ d. eqb d v) to) ≡ false → list_any (λ d. eqb d v) to ≡ false
      rest true out = absurd cc
      rest false out = out

  -- an item whose readers are done is made
  item_step : (size : ℕ) (from : Option ℕ) (to : List ℕ)
      → (not (list_any (λ c. eqb c v) to) || is_done_or true done from) ≡ true
      → ((u : ℕ) → done u ≡ true → (not (list_any (λ c. eqb c u) to) || is_done_or true done from) ≡ true)
      → cond (is_done_or true later from && not (are_done later to)) size 0
      + cond (list_any (λ c. eqb c v) to && list_all (λ c. done c || eqb c v) to) size 0
      ≡ cond (is_done_or true done from && not (are_done done to)) size 0 + cond (is_named from v) size 0
  item_step size from [] ready each =
      rw (made_later from)
      (balance (is_done_or true done from) (is_named from v) false false false size (makes_new from)
      (λ e. absurd cc) (λ e. absurd cc) (λ e. absurd cc) (λ e. refl))
  item_step size from (c ∷ cs) ready each =
      let to = c ∷ cs in
      let all : are_done later to ≡ list_all (λ d. done d || eqb d v) to = all_later to in
      let read : (not (eqb c c || list_any (λ d. eqb d c) cs) || is_done_or true done from) ≡ is_done_or true done from =
      rw (eq-eqb c c refl) refl in
      rw (made_later from, all)
      (balance (is_done_or true done from) (is_named from v) (list_any (λ d. eqb d v) to) (list_all done to)
      (list_all (λ d. done d || eqb d v) to) size (makes_new from)
      (made_from (list_any (λ d. eqb d v) to) (is_done_or true done from) ready)
      (λ e. sym read ∙ each c ((and_parts (done c) (list_all done cs) e).0)) (some_left to) (others_same to))

  items_step : (xs : List SharedItem) → list_all (λ x. not (is_read_by v x) || is_made done x) xs ≡ true
      → ((u : ℕ) → done u ≡ true → list_all (λ x. not (is_read_by u x) || is_made done x) xs ≡ true)
      → shared_size_where (is_held later) xs + shared_size_where (is_freed_by done v) xs
      ≡ shared_size_where (is_held done) xs + shared_size_where (is_made_by v) xs
  items_step [] ready each = refl
  items_step (x ∷ xs) ready each =
      let parts = λ (u : ℕ) (e : list_all (λ y. not (is_read_by u y) || is_made done y) (x ∷ xs) ≡ true).
      and_parts (not (is_read_by u x) || is_made done x) (list_all (λ y. not (is_read_by u y) || is_made done y) xs) e in
      let here = item_step x.size x.from x.readers ((parts v ready).0) (λ u e. (parts u (each u e)).0) in
      let rest = items_step xs ((parts v ready).1) (λ u e. (parts u (each u e)).1) in
      omega (
        arith,
        here,
        rest,
        sum_by-cons (shared_size_if (is_held later)) x xs,
        sum_by-cons (shared_size_if (is_freed_by done v)) x xs,
        sum_by-cons (shared_size_if (is_held done)) x xs,
        sum_by-cons (shared_size_if (is_made_by v)) x xs,
      )

-- a task that ends, where what it reads was made, and so was what the done tasks read, adds what it makes, and takes away the items of which
-- it is the last reader
pub memory_later : (system : SharedTaskSystem) (done later : ℕ → Bool) (v : ℕ) → done v ≡ false → has_inputs system done v ≡ true
    → ((u : ℕ) → done u ≡ true → has_inputs system done u ≡ true) → AddsTask done v later
    → shared_memory system later + freed_by system done v ≡ shared_memory system done + shared_outputs_of system v
memory_later system done later v fresh ready each adds = items_step done later v fresh adds system.items ready each

-- ---- what goes with a task is what it alone reads, and of what others read too that of which it is the last reader

-- an item with several readers goes with the task
abbrev pub is_shared_freed_by : (ℕ → Bool) → ℕ → SharedItem → Bool
is_shared_freed_by done v x = is_shared x && is_freed_by done v x

module _ (done : ℕ → Bool) (v : ℕ) where
  alone : (d e : Bool) → ((e || false) && ((d || e) && true)) ≡ e
  alone d true = rw (or_true d) refl
  alone d false = refl

  item_freed : (size : ℕ) (from : Option ℕ) (to : List ℕ)
      → shared_size_if (is_freed_by done v) (record { size = size; from = from; readers = to })
      ≡ shared_size_if (is_read_by_alone v) (record { size = size; from = from; readers = to })
      + shared_size_if (is_shared_freed_by done v) (record { size = size; from = from; readers = to })
  item_freed size from [] = refl
  item_freed size from (c ∷ []) = omega (arith, ap (λ (b : Bool). cond b size 0) (alone (done c) (eqb c v)))
  item_freed size from (c ∷ d ∷ cs) = omega arith

  pub freed_parts : (xs : List SharedItem) → shared_size_where (is_freed_by done v) xs
      ≡ shared_size_where (is_read_by_alone v) xs + shared_size_where (is_shared_freed_by done v) xs
  freed_parts [] = refl
  freed_parts (x ∷ xs) =
      omega (
        arith,
        item_freed x.size x.from x.readers,
        freed_parts xs,
        sum_by-cons (shared_size_if (is_freed_by done v)) x xs,
        sum_by-cons (shared_size_if (is_read_by_alone v)) x xs,
        sum_by-cons (shared_size_if (is_shared_freed_by done v)) x xs,
      )

pub own_freed : (system : SharedTaskSystem) (done : ℕ → Bool) (v : ℕ) → own_inputs_of system v ≤ freed_by system done v
own_freed system done v = omega (arith, freed_parts done v system.items)
