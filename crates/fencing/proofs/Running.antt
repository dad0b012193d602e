-- One task of a traversal runs: what it needs, and what it gives back.
use Rattle.std.proofs.Common.{◌≡◌, ℕ, ◌+◌, ◌-◌, ◌<◌, ◌≤◌, max, Bool, true, false, nat_le, None, List, [], ◌∷◌, ◌++◌, append_assoc, length, get_or, take, drop, refl, sym, ap, ◌∙◌, arith, inl, inr}
use Rattle.std.proofs.Math.Path.{fun_ext}
use Rattle.std.proofs.lemmas.Bool.{le-leb}
use Rattle.std.proofs.lemmas.List.{drop_more, take_more, take-append-drop}
use Rattle.mp_system.specs.System.{TaskSystem, IsTask, inputs_of, outputs_of, need_of}
use Rattle.mp_system.specs.Memory.{is_ready, peak_from, peak_of, running_memory, stands_in, state_memory}
use Rattle.mp_system.specs.Step.{AddsTask, CanRun}
use Rattle.mp_system.specs.Traversal.{IsTraversal, fault_of}
use Rattle.fences.specs.Workers.{relieved}
use Rattle.fences.proofs.Going.{ReadyMore}
use Rattle.fences.proofs.Along.{done_ready}
use Rattle.fences.proofs.Chains.{StateStep, PeakBound, task as task_at_split, not_before}
use Rattle.fences.proofs.ChainAmounts.{pushed}
use Rattle.fencing.specs.Needs.{taken_need}
use Rattle.fencing.proofs.Relieved.{need_less}

-- the memory of the state in which these tasks have run
pub state_is : (system own : TaskSystem) (ran : ℕ → Bool) (tasks : List ℕ) (memory : ℕ) → own ≡ system → ((u : ℕ) → ran u ≡ stands_in tasks u) → memory ≡ state_memory own ran
    → memory ≡ state_memory system (stands_in tasks)
state_is system own ran tasks memory same runs is =
    is ∙ ap (λ (s : TaskSystem). state_memory s ran) same ∙ ap (state_memory system) (fun_ext runs)

-- the bound leaves what is there at the start
pub start_within : PeakBound → (system : TaskSystem) (order : List ℕ) → state_memory system (λ _. false) ≤ peak_of system order
start_within bound system order = bound system order (state_memory system (stands_in [])) (inl ([], order, refl, refl))

module _ (system : TaskSystem) (order : List ℕ) (is : IsTraversal system order) (i : ℕ) (lt : i < length order) where
  abbrev before : List ℕ
  before = take i order

  abbrev v : ℕ
  v = get_or order i 0

  next : take (i + 1) order ≡ before ++ v ∷ []
  next = take_more order i 0 lt

  split : order ≡ before ++ v ∷ drop (i + 1) order
  split = sym (take-append-drop (i + 1) order) ∙ ap (λ (l : List ℕ). l ++ drop (i + 1) order) next ∙ append_assoc before (v ∷ []) (drop (i + 1) order)

  pub task : IsTask system v
  task = task_at_split system order is before (drop (i + 1) order) v split

  pub fresh : stands_in before v ≡ false
  fresh = not_before system order is before (drop (i + 1) order) v split

  -- a state in which the tasks before it have run
  module _ (ran : ℕ → Bool) (same : (u : ℕ) → ran u ≡ stands_in before u) where
    pub runs_at : (running : ℕ) → running ≡ running_memory system ran v → running ≡ state_memory system (stands_in before) + need_of system v
    runs_at running is_running = is_running ∙ ap (λ (done : ℕ → Bool). running_memory system done v) (fun_ext same)

    pub can_come : fault_of system ran v ≡ None
    can_come =
        let low : nat_le 1 v ≡ true = le-leb 1 v task.0 in
        let high : nat_le v (length system.tasks) ≡ true = le-leb v (length system.tasks) task.1 in
        let ready : is_ready system ran v ≡ true = ap (λ (done : ℕ → Bool). is_ready system done v) (fun_ext same) ∙ is.after_suppliers before (drop (i + 1) order) v split in
        let new : ran v ≡ false = same v ∙ fresh in
        rw (low, high, new, ready) refl

    pub ran_next : (later : ℕ → Bool) → AddsTask ran v later → (u : ℕ) → later u ≡ stands_in (take (i + 1) order) u
    ran_next later adds u = adds u ∙ rw (same u) (sym (ap (λ (l : List ℕ). stands_in l u) next ∙ pushed before v u))

  module _ (more : ReadyMore) (step : StateStep) where
    pub stepped : state_memory system (stands_in (take (i + 1) order)) + inputs_of system v ≡ state_memory system (stands_in before) + outputs_of system v
    stepped =
        let can : CanRun system (stands_in before) v = record {
          fresh = fresh;
          ready = is.after_suppliers before (drop (i + 1) order) v split;
          suppliers = done_ready more system order is before (v ∷ drop (i + 1) order) split;
        } in
        ap (λ (l : List ℕ). state_memory system (stands_in l) + inputs_of system v) next ∙ step system (stands_in before) (stands_in (before ++ v ∷ [])) v can (pushed before v)

    -- what the task takes where it needs less by the room of its worker
    module _ (room : ℕ) where
      pub taken_is : taken_need (relieved room system) v
          ≡ max (need_of system v - room) (state_memory system (stands_in (take (i + 1) order)) - state_memory system (stands_in before))
      taken_is = omega (arith, need_less room system v task, stepped)

      pub taken_within : PeakBound → state_memory system (stands_in before) + taken_need (relieved room system) v ≤ peak_of (relieved room system) order
      taken_within bound =
          let lighter = relieved room system in
          let running = bound lighter order (running_memory lighter (stands_in before) v) (inr (before, drop (i + 1) order, v, split, refl)) in
          let start = bound lighter order (state_memory lighter (stands_in before)) (inl (before, drop i order, sym (take-append-drop i order), refl)) in
          let end = bound lighter order (state_memory lighter (stands_in (take (i + 1) order)))
          (inl (take (i + 1) order, drop (i + 1) order, sym (take-append-drop (i + 1) order), refl)) in
          omega (arith, running, start, end, stepped)

  -- the peak where tasks need less, after one more of them
  module _ (room : ℕ) where
    abbrev left_at : ℕ → ℕ
    left_at at = peak_from (relieved room system) (take at order) (drop at order)

    pub left_next : left_at i
        ≡ max (state_memory system (stands_in before)) (max (state_memory system (stands_in before) + (need_of system v - room)) (left_at (i + 1)))
    left_next =
        let lighter = relieved room system in
        let rest : left_at i ≡ peak_from lighter before (v ∷ drop (i + 1) order) = ap (peak_from lighter before) (drop_more order i 0 lt) in
        let last : peak_from lighter (before ++ v ∷ []) (drop (i + 1) order) ≡ left_at (i + 1) =
        ap (λ (l : List ℕ). peak_from lighter l (drop (i + 1) order)) (sym next) in
        omega (arith, rest, last, need_less room system v task)

-- a task holds at least what it hands on
pub holds_outputs : (system : TaskSystem) (v : ℕ) → outputs_of system v ≤ inputs_of system v + taken_need system v
holds_outputs system v = omega arith
