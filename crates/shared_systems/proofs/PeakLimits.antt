-- No peak of a traversal is above the limit on all extras and sizes together.
use Rattle.std.proofs.Common.{◌≡◌, ℕ, ◌+◌, ◌-◌, ◌≤◌, Bool, true, false, cond, not, eqb, eq-eqb, List, [], ◌∷◌, ◌++◌}
use Rattle.std.proofs.Common.{Option, Some, None, refl, sym, ap, ◌∙◌, arith, append_assoc, inl, inr, subst}
use Rattle.std.specs.List.{All, sum_by, count_by}
use Rattle.std.proofs.lemmas.List.Sums.{sum_by-cons, sum_by-append, get_or-le-sum_by}
use Rattle.std.proofs.lemmas.List.Elements.{All-head, All-tail}
use Rattle.std.proofs.lemmas.Bool.{cases_Bool, and_parts, or_cases, eqb-true, false_from_ne_true}
use Rattle.limits.specs.Limits.{most_total}
use Rattle.mp_system.specs.System.{extra_size, is_named}
use Rattle.mp_system.specs.Memory.{stands_in, is_done_or}
use Rattle.shared_systems.specs.Shared.{SharedTaskSystem, SharedItem, HasTask, is_made_by, shared_need_of, shared_size_if, shared_size_where}
use Rattle.shared_systems.specs.SharedMemory.{is_held, is_made, are_done, shared_memory, shared_peak_from, shared_peak_of}
use Rattle.shared_systems.specs.SharedTraversal.{IsSharedTraversal}
use Rattle.shared_systems.specs.Bounds.{IsSharedSystem, shared_size}
use Rattle.shared_systems.proofs.KeySums.{where-le}
use Rattle.shared_systems.proofs.PeakSteps.{no_task}

-- ---- items that pass one of two tests

module _ (p q : SharedItem → Bool) (apart : (x : SharedItem) → p x ≡ true → q x ≡ false) where
  either : (x : SharedItem) → shared_size_if p x + shared_size_if q x ≤ x.size
  either x = elim (cases_Bool (p x)) [
    | inl first ↦ rw (first, apart x first) (omega arith)
    | inr other ↦ rw other (elim (cases_Bool (q x)) [ inl second ↦ rw second (omega arith) | inr neither ↦ rw neither (omega arith) ])
  ]

  both_fit : (xs : List SharedItem) → shared_size_where p xs + shared_size_where q xs ≤ sum_by shared_size xs
  both_fit [] = omega arith
  both_fit (x ∷ xs) =
      omega (
        arith,
        sum_by-cons (shared_size_if p) x xs,
        sum_by-cons (shared_size_if q) x xs,
        sum_by-cons shared_size x xs,
        either x,
        both_fit xs,
      )

-- what is held is made, and so not by a task that is not done
held_apart : (done : ℕ → Bool) (v : ℕ) → done v ≡ false → (from : Option ℕ) → is_done_or true done from ≡ true → is_named from v ≡ false
held_apart done v later None made = refl
held_apart done v later (Some u) made =
    false_from_ne_true (eqb u v) (λ same. cc (sym made ∙ ap done (eqb-true u v same) ∙ later))

-- ---- a task stands once

stood : (xs : List ℕ) (v : ℕ) → stands_in xs v ≡ true → 1 ≤ count_by (λ u. eqb u v) xs
stood [] v stands = absurd cc
stood (x ∷ xs) v stands = elim (or_cases (eqb x v) (stands_in xs v) stands) [
  | inl here ↦ (let one : cond {A = ℕ} (eqb x v) 1 0 ≡ 1 = rw here refl in
      omega (arith, one, sum_by-cons (λ u. cond {A = ℕ} (eqb u v) 1 0) x xs))
  | inr later ↦ omega (arith, stood xs v later, sum_by-cons (λ u. cond {A = ℕ} (eqb u v) 1 0) x xs)
]

new_here : (before rest : List ℕ) (v : ℕ) → count_by (λ u. eqb u v) (before ++ v ∷ rest) ≡ 1 → stands_in before v ≡ false
new_here before rest v once = false_from_ne_true (stands_in before v) (λ stands.
    let one : cond {A = ℕ} (eqb v v) 1 0 ≡ 1 = rw (eq-eqb v v refl) refl in
    absurd (omega (
      arith,
      once,
      one,
      stood before v stands,
      sum_by-append (λ u. cond {A = ℕ} (eqb u v) 1 0) before (v ∷ rest),
      sum_by-cons (λ u. cond {A = ℕ} (eqb u v) 1 0) v rest,
    )))

-- ---- the peak

module _ (system : SharedTaskSystem) (is : IsSharedSystem system) (order : List ℕ) (traversal : IsSharedTraversal system order) where
  state_small : (before : List ℕ) → shared_memory system (stands_in before) ≤ most_total
  state_small before = omega (arith, where-le (is_held (stands_in before)) system.items, is.total)

  running_small : (before rest : List ℕ) (v : ℕ) → order ≡ before ++ v ∷ rest
      → shared_memory system (stands_in before) + shared_need_of system v ≤ most_total
  running_small before rest v split =
      let task : HasTask system v = All-head (HasTask system) v rest (all_rest before (v ∷ rest) (subst (All (HasTask system)) split traversal.tasks)) in
      let new = new_here before rest v (ap (count_by (λ u. eqb u v)) (sym split) ∙ traversal.once v task) in
      let fit = both_fit (is_held (stands_in before)) (is_made_by v)
      (λ x held. held_apart (stands_in before) v new x.from
      (and_parts (is_made (stands_in before) x) (not (are_done (stands_in before) x.readers)) held).0) system.items in
      let extra = get_or-le-sum_by extra_size system.tasks (v - 1) no_task (omega (arith, task.0, task.1)) in
      omega (arith, fit, extra, is.total)
    where
      all_rest : (before rest : List ℕ) → All (HasTask system) (before ++ rest) → All (HasTask system) rest
      all_rest [] rest each = each
      all_rest (b ∷ before) rest each = all_rest before rest (All-tail (HasTask system) b (before ++ rest) each)

  from_small : (before rest : List ℕ) → order ≡ before ++ rest → shared_peak_from system before rest ≤ most_total
  from_small before [] split = state_small before
  from_small before (v ∷ rest) split =
      let later = from_small (before ++ v ∷ []) rest (split ∙ sym (append_assoc before (v ∷ []) rest)) in
      omega (arith, state_small before, running_small before rest v split, later)

  pub peak_small : shared_peak_of system order ≤ most_total
  peak_small = from_small [] order refl
