-- Where tasks stand in a list that holds each once, and in a traversal.
use Rattle.std.proofs.Common.{◌≡◌, ℕ, ◌+◌, ◌<◌, ◌≤◌, Bool, true, cond, List, ◌∷◌, ◌++◌, length, take}
use Rattle.std.proofs.Common.{drop, get_or, sym, subst, add-one, drop-cons, ◌∙◌, ap, arith, ⊎_elim}
use Rattle.std.specs.Prelude.{count_by, ◌==◌, slice_index}
use Rattle.std.proofs.lemmas.List.{length-take, get_or-take, take-append-drop}
use Rattle.std.proofs.lemmas.List.Elements.{All-get_or}
use Rattle.std.proofs.lemmas.List.Sums.{sum_by_more, sum_by-take-le}
use Rattle.std.proofs.lemmas.Bool.{cases_order, cases_lt, eq-eqb}
use Rattle.shared_systems.specs.Shared.{SharedTaskSystem, HasTask}
use Rattle.mp_system.specs.Memory.{stands_in}
use Rattle.shared_systems.specs.SharedMemory.{has_inputs}
use Rattle.shared_systems.specs.SharedTraversal.{IsSharedTraversal}
use Rattle.activation.specs.Machine.{Setting, IsSetting}
use Rattle.activation.specs.Schedule.{HoldsEach}
use Rattle.activation.proofs.Totals.{in_counted, counted_in, place_in, in_at}

module _ (s : SharedTaskSystem) (order : List ℕ) (tr : HoldsEach s order) where
  -- what stands in the order is a task
  pub task_in_order : (t : ℕ) → stands_in order t ≡ true → HasTask s t
  task_in_order t h = let p = place_in order t h in subst (HasTask s) p.2 (All-get_or (HasTask s) order p.0 0 p.1 tr.within)

  -- a task stands in the order
  pub task_has_place : (t : ℕ) → HasTask s t → stands_in order t ≡ true
  task_has_place t is = in_counted order t (omega (arith, tr.once t is))

  -- and once
  pub counted_in_order : (t : ℕ) → stands_in order t ≡ true → count_by (λ x. x == t) order ≡ 1
  counted_in_order t h = tr.once t (task_in_order t h)

  pub in_front : (k t : ℕ) → stands_in (take k order) t ≡ true → stands_in order t ≡ true
  in_front k t h =
      let p = counted_in (take k order) t h in
      in_counted order t (omega (arith, sum_by-take-le (λ x. cond (x == t) 1 0) order k))

  -- no element is counted twice in a front of the order
  pub counted_once : (k t : ℕ) → count_by (λ x. x == t) (take k order) ≤ 1
  counted_once k t =
      ⊎_elim
      (λ (lt : 0 < count_by (λ x. x == t) (take k order)).
      let one = counted_in_order t (in_front k t (in_counted (take k order) t lt)) in
      omega (arith, one, sum_by-take-le (λ x. cond (x == t) 1 0) order k))
      (λ (ge : count_by (λ x. x == t) (take k order) ≤ 0). omega arith)
      (cases_lt 0 (count_by (λ x. x == t) (take k order)))

  -- a task stands at one place of the order alone
  stands_before : (task i j : ℕ) → i < j → j < length order → slice_index order i ≡ task → slice_index order j ≡ task → ⊥
  stands_before task i j lt w a b =
      let len = length-take j order in
      let e = get_or-take j order i 0 lt in
      let early : stands_in (take j order) task ≡ true =
      ap (λ x. stands_in (take j order) x) (sym (e ∙ a)) ∙ in_at (take j order) i (omega (arith, len)) in
      let more = sum_by_more (λ (x : ℕ). cond (x == task) 1 0) order j 0 w in
      let here : ◌≡◌ {A = ℕ} (cond (get_or order j 0 == task) 1 0) 1 = ap (λ (y : Bool). cond y 1 0) (eq-eqb (get_or order j 0) task b) in
      omega (arith, counted_in (take j order) task early, more, here, counted_once (j + 1) task)

  pub stands_once : (task i j : ℕ) → i < length order → j < length order → slice_index order i ≡ task → slice_index order j ≡ task → i ≡ j
  stands_once task i j wi wj a b =
      ⊎_elim (λ e. e) (λ r. ⊎_elim (λ lt. absurd (stands_before task i j lt wj a b)) (λ gt. absurd (stands_before task j i gt wi b a)) r)
      (cases_order i j)

-- what stands before a place, and after it
pub split_at : (order : List ℕ) (k : ℕ) → k < length order → order ≡ take k order ++ get_or order k 0 ∷ drop (k + 1) order
split_at order k w = sym (take-append-drop k order) ∙ ap (λ xs. take k order ++ xs) (drop_at k w)
  where
    drop_at : (k : ℕ) → k < length order → drop k order ≡ get_or order k 0 ∷ drop (k + 1) order
    drop_at k w = rw add-one (drop-cons order k 0 w)

-- a task is ready once those before it are done
pub ready_at : (s : SharedTaskSystem) (order : List ℕ) → IsSharedTraversal s order → (k : ℕ)
    → k < length order → has_inputs s (stands_in (take k order)) (get_or order k 0) ≡ true
ready_at s order tr k w = tr.after_suppliers (take k order) (drop (k + 1) order) (get_or order k 0) (split_at order k w)

pub each : {c : Setting} → IsSetting c → HoldsEach c.system c.order
each set = record { once = set.traversal.once; within = set.traversal.tasks }
