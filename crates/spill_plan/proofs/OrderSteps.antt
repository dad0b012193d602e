-- Each task of a traversal stands at one step, and after those that produce what it consumes.
use Rattle.std.proofs.Common.{◌≡◌, ℕ, zero, suc, ◌+◌, ◌<◌, ◌≤◌, inl, inr, Bool, true, false, cond, not, refl, sym, subst}
use Rattle.std.proofs.Common.{ap, arith, ◌∙◌, List, [], ◌∷◌, ◌++◌, length, take, drop, get_or, Option, Some, drop-cons}
use Rattle.std.specs.Prelude.{◌==◌, ◌||◌, nat_lt, count_by}
use Rattle.std.proofs.lemmas.Bool.{cases_Bool, cases_eq, eq-eqb, ne_eqb, true≢false}
use Rattle.std.proofs.lemmas.List.{take-append-drop}
use Rattle.std.proofs.lemmas.List.Folds.{list_all_at}
use Rattle.std.proofs.lemmas.List.Elements.{All-get_or}
use Rattle.std.proofs.lemmas.List.Sums.{sum_by-cons}
use Rattle.graphs.specs.Graph.{IsAmong}
use Rattle.mp_system.specs.declared.system.Item.{Item}
use Rattle.mp_system.specs.System.{TaskSystem, IsTask, is_named, is_input}
use Rattle.mp_system.specs.Memory.{stands_in, is_produced, is_done_or, is_ready}
use Rattle.mp_system.specs.Traversal.{IsTraversal}
use Rattle.spill_plan.specs.Steps.{step_of}
use Rattle.spill_plan.specs.Spans.{IsEachOnce}

pub count-cons : (v u : ℕ) (order : List ℕ) → count_by (λ x. x == v) (u ∷ order) ≡ cond (u == v) 1 0 + count_by (λ x. x == v) order
count-cons v u order = sum_by-cons (λ x. cond (x == v) 1 0) u order

-- what is counted stands at its step
pub step_found : (order : List ℕ) (v : ℕ) → 1 ≤ count_by (λ x. x == v) order
    → (step_of order v < length order) × (get_or order (step_of order v) 0 ≡ v)
step_found [] v h = absurd (omega arith)
step_found (u ∷ order) v h = elim (cases_eq u v) [
  | inl same ↦ (let e : (u == v) ≡ true = eq-eqb u v same in rw e (omega arith, same))
  | inr other ↦ (
      let e : (u == v) ≡ false = ne_eqb u v other in
      let none : ◌≡◌ {A = ℕ} (cond (u == v) 1 0) 0 = rw e refl in
      let r = step_found order v (omega (arith, count-cons v u order, none)) in
      rw e (omega (arith, r.0), r.1)
      )
]

counted : (order : List ℕ) (v k : ℕ) → k < length order → get_or order k 0 ≡ v → 1 ≤ count_by (λ x. x == v) order
counted [] v k h e = absurd (omega arith)
counted (u ∷ order) v zero h e = let one : ◌≡◌ {A = ℕ} (cond (u == v) 1 0) 1 = rw (eq-eqb u v e) refl in omega
    (arith, count-cons v u order, one)
counted (u ∷ order) v (suc k) h e = omega (arith, count-cons v u order, counted order v k (omega arith) e)

-- and nowhere else, if it is counted once
pub step_only : (order : List ℕ) (v k : ℕ) → count_by (λ x. x == v) order ≤ 1 → k < length order → get_or order k 0 ≡ v → step_of order v
    ≡ k
step_only [] v k one h e = absurd (omega arith)
step_only (u ∷ order) v zero one h e = rw (eq-eqb u v e) refl
step_only (u ∷ order) v (suc k) one h e = elim (cases_eq u v) [
  | inl same ↦ absurd (
      let here : ◌≡◌ {A = ℕ} (cond (u == v) 1 0) 1 = rw (eq-eqb u v same) refl in
      omega (arith, count-cons v u order, here, counted order v k (omega arith) e))
  | inr other ↦ (
      let test : (u == v) ≡ false = ne_eqb u v other in
      rw test (ap suc (step_only order v k (omega (arith, count-cons v u order)) (omega arith) e))
      )
]

-- what stands before a step
lt-suc : (m n : ℕ) → nat_lt (suc m) (suc n) ≡ nat_lt m n
lt-suc m n = grind arith

lt-zero : (m : ℕ) → nat_lt m 0 ≡ false
lt-zero m = grind arith

zero-lt : (m : ℕ) → nat_lt 0 (suc m) ≡ true
zero-lt m = grind arith

pub stands-take : (order : List ℕ) (v k : ℕ) → k ≤ length order → stands_in (take k order) v ≡ nat_lt (step_of order v) k
stands-take order v zero h = sym (lt-zero (step_of order v))
stands-take [] v (suc k) h = absurd (omega arith)
stands-take (u ∷ order) v (suc k) h = go (u == v) (stands-take order v k (omega arith))
  where
    go : (b : Bool) → stands_in (take k order) v ≡ nat_lt (step_of order v) k → (b || stands_in (take k order) v)
        ≡ nat_lt (cond b 0 (suc (step_of order v))) (suc k)
    go true e = sym (zero-lt k)
    go false e = e ∙ sym (lt-suc (step_of order v) k)

-- ---- where each task stands once

module _ (count : ℕ) (order : List ℕ) (each : IsEachOnce count order) where
  pub task_step : (v : ℕ) → IsAmong count v → (step_of order v < length order) × (get_or order (step_of order v) 0 ≡ v)
  task_step v task = step_found order v (omega (arith, each.once v task))

  pub task_at_step : (k : ℕ) → k < length order → IsAmong count (get_or order k 0)
  task_at_step k h = All-get_or (IsAmong count) order k 0 h each.tasks

  pub step_of_task : (v k : ℕ) → IsAmong count v → k < length order → get_or order k 0 ≡ v → step_of order v ≡ k
  step_of_task v k task h e = step_only order v k (omega (arith, each.once v task)) h e

  pub one_step : (i j : ℕ) → i < length order → j < length order → get_or order i 0 ≡ get_or order j 0 → i ≡ j
  one_step i j h l e =
      let a = step_of_task (get_or order j 0) i (task_at_step j l) h e in
      let b = step_of_task (get_or order j 0) j (task_at_step j l) l refl in
      omega (arith, a, b)

pub each_once : (system : TaskSystem) (order : List ℕ) → IsTraversal system order → IsEachOnce (length system.tasks) order
each_once system order traversal = record { once = traversal.once; tasks = traversal.tasks }

-- ---- in a traversal

pub split_at : (order : List ℕ) (k : ℕ) → k < length order → order ≡ take k order ++ get_or order k 0 ∷ drop (suc k) order
split_at order k h = sym (take-append-drop k order) ∙ ap (λ (xs : List ℕ). take k order ++ xs) (drop-cons order k 0 h)

module _ (system : TaskSystem) (order : List ℕ) (traversal : IsTraversal system order) where
  -- the producer of an item stands before its consumer
  pub produced_before : (i : ℕ) (d : Item) (u w : ℕ) → i < length system.items → (get_or system.items i d).from ≡ Some u
      → (get_or system.items i d).to ≡ Some w
      → IsTask system w → step_of order u < step_of order w
  produced_before i d u w h from to task =
      let k = step_of order w in
      let at = task_step (length system.tasks) order (each_once system order traversal) w task in
      let ready : is_ready system (stands_in (take k order)) (get_or order k 0)
      ≡ true = traversal.after_suppliers (take k order) (drop (suc k) order) (get_or order k 0) (split_at order k at.0) in
      let ready_w : is_ready system (stands_in (take k order)) w
      ≡ true = subst (λ v. is_ready system (stands_in (take k order)) v ≡ true) at.1 ready in
      let stands : stands_in (take k order) u ≡ nat_lt (step_of order u) k = stands-take order u k (omega (arith, at.0)) in
      elim (cases_Bool (nat_lt (step_of order u) k)) [
        | inl ahead ↦ before (step_of order u) k ahead
        | inr behind ↦ absurd (
            let item = get_or system.items i d in
            let consumes : is_input w item ≡ true = ap (λ (o : Option ℕ). is_named o w) to ∙ eq-eqb w w refl in
            let lacks : is_produced (stands_in (take k order)) item
            ≡ false = ap (λ (o : Option ℕ). is_done_or true (stands_in (take k order)) o) from ∙ (stands ∙ behind) in
            let fails : (not (is_input w item) || is_produced (stands_in (take k order)) item) ≡ false = rw (consumes, lacks) refl in
            let all_fails = list_all_at (λ item. not (is_input w item) || is_produced (stands_in (take k order)) item) system.items i d h
            fails in
            true≢false (sym ready_w ∙ all_fails))
      ]
    where
      before : (m n : ℕ) → nat_lt m n ≡ true → m < n
      before m n h = grind arith
