-- What one task needs, from what it makes.
use Rattle.std.proofs.Common.{◌≡◌, ℕ, ◌+◌, ◌-◌, ◌<◌, ◌≤◌, List, [], ◌∷◌, ◌++◌, length, get_or, ap, ◌∙◌, arith, inl, inr}
use Rattle.std.proofs.lemmas.List.{get_or_append_left}
use Rattle.std.proofs.lemmas.List.Sums.{get_or-le-sum_by}
use Rattle.std.proofs.lemmas.Bool.{cases_lt}
use Rattle.std.proofs.Math.Seq.{get_or-append_seam}
use Rattle.limits.specs.Limits.{most_total}
use Rattle.mp_system.specs.System.{extra_size}
use Rattle.shared_systems.specs.Shared.{SharedTaskSystem, HasTask, shared_task_at, shared_size_where, is_made_by, shared_need_of}
use Rattle.shared_systems.specs.Bounds.{IsSharedSystem}
use Rattle.shared_systems.proofs.KeySums.{where-le}
use Rattle.shared_systems.proofs.PeakSteps.{no_task}

module _ (system : SharedTaskSystem) (is : IsSharedSystem system) where
  -- a task needs no more than all extras and sizes together
  pub need_small : (v : ℕ) → HasTask system v → shared_need_of system v ≤ most_total
  need_small v task = omega (
    arith,
    get_or-le-sum_by extra_size system.tasks (v - 1) no_task (omega (arith, task.0, task.1)),
    where-le (is_made_by v) system.items,
    is.total,
  )

  module _ (i out : ℕ) (lt : i < length system.tasks) (out_is : out ≡ shared_size_where (is_made_by (i + 1)) system.items) where
    pub extra_fits : (get_or system.tasks i no_task).extra + out ≤ most_total
    extra_fits = omega (arith, get_or-le-sum_by extra_size system.tasks i no_task lt, where-le (is_made_by (i + 1)) system.items, is.total, out_is)

    back : i + 1 - 1 ≡ i
    back = omega arith

    extra_here : (shared_task_at system (i + 1)).extra ≡ (get_or system.tasks i no_task).extra
    extra_here = ap (λ (k : ℕ). (get_or system.tasks k no_task).extra) back

    share_here : (shared_task_at system (i + 1)).share ≡ (get_or system.tasks i no_task).share
    share_here = ap (λ (k : ℕ). (get_or system.tasks k no_task).share) back

    pub share_fits : (get_or system.tasks i no_task).share ≤ (get_or system.tasks i no_task).extra + out
    share_fits = omega (arith, (is.shares (i + 1) (omega arith, omega (arith, lt))).1, extra_here, share_here, out_is)

    pub need_here : (get_or system.tasks i no_task).extra + out - (get_or system.tasks i no_task).share ≡ shared_need_of system (i + 1)
    need_here = omega (arith, extra_here, share_here, out_is)

-- one more number of a list whose first numbers are known
pub numbers_more : (f : ℕ → ℕ) (numbers more : List ℕ) (i x : ℕ) → length numbers ≡ i → more ≡ numbers ++ x ∷ []
    → ((v : ℕ) → 1 ≤ v → v < i + 1 → get_or numbers (v - 1) 0 ≡ f v) → x ≡ f (i + 1)
    → (v : ℕ) → 1 ≤ v → v < i + 1 + 1 → get_or more (v - 1) 0 ≡ f v
numbers_more f numbers more i x len is are here v low high = elim (cases_lt v (i + 1)) [
  | inl earlier ↦
      ap (λ (l : List ℕ). get_or l (v - 1) 0) is
      ∙ get_or_append_left numbers (x ∷ []) 0 (v - 1) (omega (arith, low, earlier, len)) ∙ are v low earlier
  | inr last ↦ (
      let same : v ≡ i + 1 = omega (arith, last, high) in
      let at : v - 1 ≡ length numbers = omega (arith, same, len) in
      ap (λ (l : List ℕ). get_or l (v - 1) 0) is ∙ ap (λ (k : ℕ). get_or (numbers ++ x ∷ []) k 0) at
      ∙ get_or-append_seam numbers x [] 0 ∙ here ∙ ap f (let e : i + 1 ≡ v = omega (arith, same) in e))
]
