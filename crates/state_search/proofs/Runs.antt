-- Orders below a bound as steps from a state to the next.
use Rattle.std.proofs.Common.{◌≡◌, ℕ, ◌<◌, Bool, true, false, cond, ◌||◌, eqb, eq-eqb, List, [], ◌∷◌, ◌++◌}
use Rattle.std.proofs.Common.{length, append_assoc, refl, sym, ap, subst, ◌∙◌, arith, inl, inr}
use Rattle.std.proofs.Math.Path.{fun_ext}
use Rattle.std.specs.Prelude.{All}
use Rattle.std.proofs.lemmas.List.{append-nil, length-replicate}
use Rattle.std.proofs.lemmas.List.Elements.{All-head, All-tail, All-cons, All-nil}
use Rattle.std.proofs.lemmas.Bool.{cases_eq, ne_eqb}
use Rattle.mp_system.specs.Memory.{stands_in}
use Rattle.mp_system.specs.Replay.{is_marked}
use Rattle.shared_systems.specs.Shared.{SharedTaskSystem, HasTask}
use Rattle.shared_systems.specs.SharedMemory.{shared_memory, shared_peak_from, shared_peak_of, has_inputs}
use Rattle.shared_systems.specs.SharedTraversal.{IsSharedTraversal}
use Rattle.shared_systems.proofs.Collectors.{count_of, count_of-cons, count_of-append, one_if, none_if, stands_counted}
use Rattle.shared_systems.proofs.Steps.{stands_push}
use Rattle.state_search.specs.States.{none_done, memory_in}
use Rattle.state_search.specs.Runs.{with_done, IsStepBelow, AreAllDone, Runs}
use Rattle.state_search.proofs.TaskMarks.{none_marked, done_adds, done_length}

module _ (system : SharedTaskSystem) (bound : ℕ) where
  pub runs_low : (marks : List Bool) (rest : List ℕ) → Runs system bound marks rest → memory_in system marks < bound
  unfolding Runs
  runs_low marks [] runs = runs.0
  runs_low marks (v ∷ rest) runs = runs.0

  pub runs_done : (marks : List Bool) → Runs system bound marks [] → AreAllDone system marks
  unfolding Runs
  runs_done marks runs = runs.1

  pub runs_step : (marks : List Bool) (v : ℕ) (rest : List ℕ) → Runs system bound marks (v ∷ rest) → IsStepBelow system bound marks v
  unfolding Runs
  runs_step marks v rest runs = runs.1

  pub runs_rest : (marks : List Bool) (v : ℕ) (rest : List ℕ) → Runs system bound marks (v ∷ rest) → Runs system bound (with_done marks v) rest
  unfolding Runs
  runs_rest marks v rest runs = runs.2

  pub runs_nil : (marks : List Bool) → memory_in system marks < bound → AreAllDone system marks → Runs system bound marks []
  unfolding Runs
  runs_nil marks low done = (low, done)

  pub runs_cons : (marks : List Bool) (v : ℕ) (rest : List ℕ) → memory_in system marks < bound → IsStepBelow system bound marks v
      → Runs system bound (with_done marks v) rest → Runs system bound marks (v ∷ rest)
  unfolding Runs
  runs_cons marks v rest low step later = (low, step, later)

  -- ---- the state after some tasks

  pub record IsAfter (marks : List Bool) (before : List ℕ) : Type 0 where
    pub len : length marks ≡ length system.tasks
    pub same : (u : ℕ) → is_marked marks u ≡ stands_in before u

  pub after_none : IsAfter (none_done system) []
  after_none = record { len = length-replicate (length system.tasks) false; same = λ u. none_marked (length system.tasks) u }

  eqb_flip : (u v : ℕ) → eqb u v ≡ eqb v u
  eqb_flip u v = elim (cases_eq u v) [
    | inl same ↦ eq-eqb u v same ∙ sym (eq-eqb v u (sym same))
    | inr other ↦ ne_eqb u v other ∙ sym (ne_eqb v u (λ e. other (sym e)))
  ]

  pub after_more : (marks : List Bool) (before : List ℕ) (v : ℕ) → HasTask system v → IsAfter marks before
      → IsAfter (with_done marks v) (before ++ v ∷ [])
  after_more marks before v task after = record {
    len = done_length marks v ∙ after.len;
    same = λ u.
        done_adds marks v task.0 (omega (arith, task.1, after.len)) u
        ∙ ap (λ (b : Bool). b || eqb u v) (after.same u)
        ∙ ap (λ (b : Bool). stands_in before u || b) (eqb_flip u v)
        ∙ sym (stands_push before v u);
  }

  memory_after : (marks : List Bool) (before : List ℕ) → IsAfter marks before
      → shared_memory system (is_marked marks) ≡ shared_memory system (stands_in before)
  memory_after marks before after = ap (shared_memory system) (fun_ext after.same)

  inputs_after : (marks : List Bool) (before : List ℕ) (v : ℕ) → IsAfter marks before
      → has_inputs system (is_marked marks) v ≡ has_inputs system (stands_in before) v
  inputs_after marks before v after = ap (λ (f : ℕ → Bool). has_inputs system f v) (fun_ext after.same)

  -- ---- a traversal below the bound runs

  module _ (order : List ℕ) (traversal : IsSharedTraversal system order) where
    task_at_split : (before rest : List ℕ) (v : ℕ) → order ≡ before ++ v ∷ rest → HasTask system v
    task_at_split before rest v split = go before (subst (λ (l : List ℕ). All (HasTask system) l) split traversal.tasks)
      where
        go : (front : List ℕ) → All (HasTask system) (front ++ v ∷ rest) → HasTask system v
        go [] all = All-head (HasTask system) v rest all
        go (x ∷ front) all = go front (All-tail (HasTask system) x (front ++ v ∷ rest) all)

    fresh : (before rest : List ℕ) (v : ℕ) → order ≡ before ++ v ∷ rest → stands_in before v ≡ false
    fresh before rest v split =
        let once = traversal.once v (task_at_split before rest v split) in
        let parts = ap (λ (l : List ℕ). count_of l v) split ∙ count_of-append before (v ∷ rest) v in
        let here = count_of-cons v rest v in
        let one = one_if v v refl in
        let none : count_of before v ≡ 0 = omega (arith, once, parts, here, one) in
        stands_counted before v false none

    runs_from : (rest before : List ℕ) (marks : List Bool) → order ≡ before ++ rest → IsAfter marks before
        → shared_peak_from system before rest < bound → Runs system bound marks rest
    runs_from [] before marks split after low =
        runs_nil marks (omega (arith, memory_after marks before after))
        (λ v task. after.same v ∙ stands_counted before v true
        (ap (λ (l : List ℕ). count_of l v) (sym (split ∙ append-nil before)) ∙ traversal.once v task))
    runs_from (v ∷ rest) before marks split after low =
        let task = task_at_split before rest v split in
        let memory = memory_after marks before after in
        runs_cons marks v rest (omega (arith, memory))
        (record {
          task = task;
          waits = after.same v ∙ fresh before rest v split;
          ready = inputs_after marks before v after ∙ traversal.after_suppliers before rest v split;
          below = omega (arith, memory);
        })
        (runs_from rest (before ++ v ∷ []) (with_done marks v) (split ∙ sym (append_assoc before (v ∷ []) rest))
        (after_more marks before v task after) (omega arith))

    pub runs_of : shared_peak_of system order < bound → Runs system bound (none_done system) order
    runs_of low = runs_from order [] (none_done system) refl after_none low

  -- ---- what runs is a traversal below the bound

  runs_tasks : (rest : List ℕ) (marks : List Bool) → Runs system bound marks rest → All (HasTask system) rest
  runs_tasks [] marks runs = All-nil (HasTask system)
  runs_tasks (v ∷ rest) marks runs =
      All-cons (HasTask system) v rest (runs_step marks v rest runs).task (runs_tasks rest (with_done marks v) (runs_rest marks v rest runs))

  runs_once : (rest : List ℕ) (marks : List Bool) (v : ℕ) → HasTask system v → length marks ≡ length system.tasks → Runs system bound marks rest
      → count_of rest v ≡ cond (is_marked marks v) 0 1
  runs_once [] marks v task len runs = rw (runs_done marks runs v task) refl
  runs_once (w ∷ rest) marks v task len runs =
      let step = runs_step marks w rest runs in
      let later = runs_once rest (with_done marks w) v task (done_length marks w ∙ len) (runs_rest marks w rest runs) in
      let adds = done_adds marks w step.task.0 (omega (arith, step.task.1, len)) v in
      let here = count_of-cons w rest v in
      elim (cases_eq v w) [
        | inl same ↦ (
            let waits : is_marked marks v ≡ false = ap (is_marked marks) same ∙ step.waits in
            let marked : is_marked (with_done marks w) v ≡ true = adds ∙ rw (waits, eq-eqb v w same) refl in
            let gone : count_of rest v ≡ 0 = later ∙ rw marked refl in
            let one = one_if w v (sym same) in
            rw waits (omega (arith, here, gone, one)))
        | inr other ↦ (
            let marked : is_marked (with_done marks w) v ≡ is_marked marks v = adds ∙ rw (ne_eqb v w other) (flat (is_marked marks v)) in
            let none = none_if w v (λ e. other (sym e)) in
            let as_before : count_of rest v ≡ cond (is_marked marks v) 0 1 = later ∙ ap (λ (b : Bool). cond {A = ℕ} b 0 1) marked in
            omega (arith, here, none, as_before))
      ]
    where
      flat : (b : Bool) → (b || false) ≡ b
      flat true = refl
      flat false = refl

  runs_ready : (first : List ℕ) (v : ℕ) (last before : List ℕ) (marks : List Bool) → IsAfter marks before
      → Runs system bound marks (first ++ v ∷ last) → has_inputs system (stands_in (before ++ first)) v ≡ true
  runs_ready [] v last before marks after runs =
      ap (λ (l : List ℕ). has_inputs system (stands_in l) v) (append-nil before)
      ∙ sym (inputs_after marks before v after) ∙ (runs_step marks v last runs).ready
  runs_ready (w ∷ first) v last before marks after runs =
      let step = runs_step marks w (first ++ v ∷ last) runs in
      ap (λ (l : List ℕ). has_inputs system (stands_in l) v) (sym (append_assoc before (w ∷ []) first))
      ∙ runs_ready first v last (before ++ w ∷ []) (with_done marks w) (after_more marks before w step.task after)
      (runs_rest marks w (first ++ v ∷ last) runs)

  runs_peak : (rest before : List ℕ) (marks : List Bool) → IsAfter marks before → Runs system bound marks rest
      → shared_peak_from system before rest < bound
  runs_peak [] before marks after runs = omega (arith, memory_after marks before after, runs_low marks [] runs)
  runs_peak (v ∷ rest) before marks after runs =
      let step = runs_step marks v rest runs in
      let later = runs_peak rest (before ++ v ∷ []) (with_done marks v) (after_more marks before v step.task after) (runs_rest marks v rest runs) in
      omega (arith, memory_after marks before after, runs_low marks (v ∷ rest) runs, step.below, later)

  pub order_of_runs : (order : List ℕ) → Runs system bound (none_done system) order
      → IsSharedTraversal system order × (shared_peak_of system order < bound)
  order_of_runs order runs = (
    record {
      once = λ v task. runs_once order (none_done system) v task after_none.len runs
          ∙ ap (λ (b : Bool). cond {A = ℕ} b 0 1) (after_none.same v);
      tasks = runs_tasks order (none_done system) runs;
      after_suppliers = λ before rest v split. runs_ready before v rest [] (none_done system) after_none
          (subst (λ (l : List ℕ). Runs system bound (none_done system) l) split runs);
    },
    runs_peak order [] (none_done system) after_none runs,
  )
