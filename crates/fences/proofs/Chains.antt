-- Fences along a traversal: a fenced system that keeps the traversal.
use Rattle.std.proofs.Common.{◌≡◌, ℕ, ◌+◌, ◌≤◌, Bool, true, false, cond, not, ◌||◌, eqb, eq-eqb, List, [], ◌∷◌, ◌++◌, refl, ap, subst, ◌∙◌, arith, Some, ⊎_elim}
use Rattle.std.specs.Prelude.{All, count_by}
use Rattle.std.specs.List.{sum_by, list_all}
use Rattle.std.proofs.lemmas.List.Elements.{All-head, All-tail, All-cons, All-nil, All-append}
use Rattle.std.proofs.lemmas.List.Sums.{sum_by-cons, sum_by-append}
use Rattle.std.proofs.lemmas.List.Folds.{list_all-append}
use Rattle.std.proofs.lemmas.Bool.{cases_Bool, or_left, or_right, or_parts}
use Rattle.mp_system.specs.declared.system.Item.{Item}
use Rattle.mp_system.specs.System.{TaskSystem, IsTask, IsItemWithin, is_input, inputs_of, outputs_of}
use Rattle.mp_system.specs.Memory.{is_produced, state_memory, stands_in, peak_of}
use Rattle.mp_system.specs.Peak.{IsMemoryAlong}
use Rattle.mp_system.specs.Step.{AddsTask, CanRun}
use Rattle.mp_system.specs.Traversal.{IsTraversal}
use Rattle.fences.specs.Fences.{IsFenced, fence, fences_from, fences_along, chained}
use Rattle.fences.proofs.Along.{counted, task_of}

-- what the laws of lower crates say, as premises
abbrev pub StateStep : Type 0
StateStep = (system : TaskSystem) (done later : ℕ → Bool) (v : ℕ) → CanRun system done v → AddsTask done v later →
    state_memory system later + inputs_of system v ≡ state_memory system done + outputs_of system v

abbrev pub PeakBound : Type 0
PeakBound = (system : TaskSystem) (order : List ℕ) (memory : ℕ) → IsMemoryAlong system order memory → memory ≤ peak_of system order

-- ---- the chain is a fenced system

all_empty : (u : ℕ) (rest : List ℕ) → All (λ (f : Item). f.size ≡ 0) (fences_from u rest)
all_empty u [] = All-nil (λ (f : Item). f.size ≡ 0)
all_empty u (v ∷ rest) = All-cons (λ (f : Item). f.size ≡ 0) (fence u v) (fences_from v rest) refl (all_empty v rest)

all_empty_along : (order : List ℕ) → All (λ (f : Item). f.size ≡ 0) (fences_along order)
all_empty_along [] = All-nil (λ (f : Item). f.size ≡ 0)
all_empty_along (u ∷ rest) = all_empty u rest

pub chain_fenced : (system : TaskSystem) (order : List ℕ) → IsFenced system (chained system order)
chain_fenced system order = record { fences = fences_along order; tasks = refl; items = refl; empty = all_empty_along order }

-- the fences name tasks
all_within : (system : TaskSystem) (u : ℕ) (rest : List ℕ) → IsTask system u → All (IsTask system) rest → All (IsItemWithin system) (fences_from u rest)
all_within system u [] task tasks = All-nil (IsItemWithin system)
all_within system u (v ∷ rest) task tasks =
    let next = All-head (IsTask system) v rest tasks in
    let one : IsItemWithin system (fence u v) = record { size = omega arith; producer = λ w e. subst (IsTask system) (named u w e) task; consumer = λ w e. subst (IsTask system) (named v w e) next } in
    All-cons (IsItemWithin system) (fence u v) (fences_from v rest) one (all_within system v rest next (All-tail (IsTask system) v rest tasks))
  where
    named : (x w : ℕ) → Some x ≡ Some w → x ≡ w
    named x w e = cc

all_within_along : (system : TaskSystem) (order : List ℕ) → All (IsTask system) order → All (IsItemWithin system) (fences_along order)
all_within_along system [] tasks = All-nil (IsItemWithin system)
all_within_along system (u ∷ rest) tasks = all_within system u rest (All-head (IsTask system) u rest tasks) (All-tail (IsTask system) u rest tasks)

pub chain_within : (system : TaskSystem) (order : List ℕ) → All (IsItemWithin system) system.items → All (IsTask system) order → All (IsItemWithin (chained system order)) (chained system order).items
chain_within system order within tasks i d lt =
    let h = All-append (IsItemWithin system) system.items (fences_along order) within (all_within_along system order tasks) i d lt in
    record { size = h.size; producer = h.producer; consumer = h.consumer }

-- ---- the order passes the fences

module _ (done : ℕ → Bool) (v : ℕ) where
  abbrev supplied : Item → Bool
  supplied item = not (is_input v item) || is_produced done item

  pass_head : (u w : ℕ) → eqb w v ≡ false → supplied (fence u w) ≡ true
  pass_head u w other = rw other refl

  pass_none : (u : ℕ) (rest : List ℕ) → stands_in rest v ≡ false → list_all supplied (fences_from u rest) ≡ true
  pass_none u [] none = refl
  pass_none u (w ∷ rest) none = let parts = or_parts (eqb w v) (stands_in rest v) none in rw (pass_head u w parts.0) (pass_none w rest parts.1)

  pass_one : (u : ℕ) (x y : List ℕ) → stands_in x v ≡ false → stands_in y v ≡ false → ((w : ℕ) → stands_in (u ∷ x) w ≡ true → done w ≡ true)
      → list_all supplied (fences_from u (x ++ v ∷ y)) ≡ true
  pass_one u [] y none_x none_y all_done =
      let here : supplied (fence u v) ≡ true = or_right (not (eqb v v)) (done u) (all_done u (or_left (eqb u u) false (eq-eqb u u refl))) in
      rw here (pass_none v y none_y)
  pass_one u (w ∷ x) y none_x none_y all_done =
      let parts = or_parts (eqb w v) (stands_in x v) none_x in
      rw (pass_head u w parts.0) (pass_one w x y parts.1 none_y (λ z h. all_done z (or_right (eqb u z) (stands_in (w ∷ x) z) h)))

-- ---- what stands before and behind a task

module _ (system : TaskSystem) (order : List ℕ) (is : IsTraversal system order) (before rest : List ℕ) (v : ℕ) (split : order ≡ before ++ v ∷ rest) where
  pub task : IsTask system v
  task = task_of system before rest v (subst (All (IsTask system)) split is.tasks)

  counts : count_by (λ u. eqb u v) before + count_by (λ u. eqb u v) rest ≡ 0
  counts =
      let test : ℕ → ℕ = λ u. cond (eqb u v) 1 0 in
      let here : ◌≡◌ {A = ℕ} (cond (eqb v v) 1 0) 1 = rw (eq-eqb v v refl) in
      omega (arith, here, is.once v task, ap (sum_by test) split, sum_by-append test before (v ∷ rest), sum_by-cons test v rest)

  pub not_before : stands_in before v ≡ false
  not_before = ⊎_elim (λ s. absurd (omega (arith, counted before v s, counts))) (λ n. n) (cases_Bool (stands_in before v))

  pub not_behind : stands_in rest v ≡ false
  not_behind = ⊎_elim (λ s. absurd (omega (arith, counted rest v s, counts))) (λ n. n) (cases_Bool (stands_in rest v))

pass_along : (before rest : List ℕ) (v : ℕ) → stands_in before v ≡ false → stands_in rest v ≡ false → list_all (supplied (stands_in before) v) (fences_along (before ++ v ∷ rest)) ≡ true
pass_along [] rest v none_x none_y = pass_none (stands_in []) v v rest none_y
pass_along (u ∷ x) rest v none_x none_y =
    let parts = or_parts (eqb u v) (stands_in x v) none_x in
    pass_one (stands_in (u ∷ x)) v u x rest parts.1 none_y (λ w h. h)

pub chain_traversal : (system : TaskSystem) (order : List ℕ) → IsTraversal system order → IsTraversal (chained system order) order
chain_traversal system order is = record {
  once = λ v task. is.once v task;
  tasks = λ i d lt. is.tasks i d lt;
  after_suppliers = λ before rest v split.
      (let own = is.after_suppliers before rest v split in
      let through : list_all (supplied (stands_in before) v) (fences_along order) ≡ true = ap (λ (l : List ℕ). list_all (supplied (stands_in before) v) (fences_along l)) split ∙ pass_along before rest v (not_before system order is before rest v split) (not_behind system order is before rest v split) in
      list_all-append (supplied (stands_in before) v) system.items (fences_along order) ∙ rw (own, through) refl);
}
