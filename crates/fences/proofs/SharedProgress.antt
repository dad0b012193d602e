-- A run of a shared system that keeps to fences goes on: the first task of a traversal of the collected system that is not done runs, or can
-- start, as all joins before it are over.
use Rattle.std.proofs.Common.{◌≡◌, ℕ, true, false, ◌⊎◌, eqb, leb, List, [], ◌∷◌, ◌++◌, append_assoc, length}
use Rattle.std.proofs.Common.{refl, sym, ap, subst, ◌∙◌, arith, inl, inr, ⊎_elim}
use Rattle.std.specs.Prelude.{All}
use Rattle.std.proofs.lemmas.Bool.{and_parts, cases_Bool, eqb-true, leb-true, leb-false, or_cases}
use Rattle.mp_system.specs.System.{IsTask}
use Rattle.mp_system.specs.Memory.{is_ready, stands_in}
use Rattle.mp_system.specs.Traversal.{IsTraversal}
use Rattle.shared_systems.specs.Shared.{SharedTaskSystem, HasTask}
use Rattle.shared_systems.specs.SharedMemory.{has_inputs}
use Rattle.shared_systems.specs.Collected.{collected}
use Rattle.shared_systems.specs.Bounds.{IsSharedItemWithin}
use Rattle.shared_systems.proofs.WovenOrders.{task_count}
use Rattle.fences.specs.declared.fenced.Fence.{Fence}
use Rattle.fences.specs.Moments.{Moment}
use Rattle.fences.specs.Runs.Change.{starts, ends}
use Rattle.fences.specs.Runs.{Change, first_moment, moment_after, moment_after_all, task_of as task_of_change}
use Rattle.fences.specs.JudgedFences.{with_fences}
use Rattle.fences.specs.SharedRuns.{is_over, are_passed, CanStartFenced, CanComeFenced, IsFencedRunFrom, GoesOn}
use Rattle.fences.proofs.Going.{ReadyMore}
use Rattle.fences.proofs.Along.{task_of}
use Rattle.fences.proofs.ChainAmounts.{pushed, stands_once}
use Rattle.fences.proofs.Fencing.{ready_own}
use Rattle.fences.proofs.FencedLists.{is_fenced}
use Rattle.fences.proofs.SharedJoins.{join_over, over_task, ready_is}

-- one more change
run_more : (system : SharedTaskSystem) (fences : List Fence) (moment : Moment) (changes : List Change) (change : Change)
    → IsFencedRunFrom system fences moment changes → CanComeFenced system fences (moment_after_all moment changes) change
    → IsFencedRunFrom system fences moment (changes ++ change ∷ [])
run_more system fences moment [] change run can = (can, tt)
run_more system fences moment (first ∷ changes) change run can =
    (run.0, run_more system fences (moment_after moment first) changes change run.1 can)

module _ (more : ReadyMore) (system : SharedTaskSystem) (within : All (IsSharedItemWithin (length system.tasks)) system.items) (fences : List Fence)
    (order : List ℕ) (is : IsTraversal (with_fences (collected system) fences) order) (moment : Moment) where
  record Next : Type 0 where
    pub task : ℕ
    pub is_task : HasTask system task
    pub not_done : moment.done task ≡ false
    pub ready : is_ready (with_fences (collected system) fences) (is_over system moment.done) task ≡ true

  -- of tasks and joins the next one is over, or it is a task that is not done
  over_or_next : (w : ℕ) → IsTask (with_fences (collected system) fences) w
      → is_ready (with_fences (collected system) fences) (is_over system moment.done) w ≡ true → (is_over system moment.done w ≡ true) ⊎ Next
  over_or_next w named ready = elim (cases_Bool (leb w (length system.tasks))) [
    | inr join ↦ (
        let above = leb-false w (length system.tasks) join in
        let fenced = is_fenced (collected system) fences in
        let own = ready_own (collected system) (with_fences (collected system) fences) fenced (is_over system moment.done) w ready in
        inl (join_over system within moment.done w above (omega (arith, named.1, task_count system within)) own))
    | inl low ↦ (
        let task : HasTask system w = (named.0, leb-true w (length system.tasks) low) in
        elim (cases_Bool (moment.done w)) [
          | inl done ↦ inl (over_task system within moment.done w task ∙ done)
          | inr left ↦ inr (record { task = w; is_task = task; not_done = left; ready = ready })
        ])
  ]

  -- after tasks and joins that are all over
  first_left : (v : ℕ) → is_over system moment.done v ≡ false → (before rest : List ℕ) → order ≡ before ++ rest
      → ((u : ℕ) → stands_in before u ≡ true → is_over system moment.done u ≡ true) → stands_in rest v ≡ true → Next
  first_left v left before [] split over stands = absurd cc
  first_left v left before (w ∷ rest) split over stands =
      let fenced = with_fences (collected system) fences in
      let ready = more fenced (stands_in before) (is_over system moment.done) w over (is.after_suppliers before rest w split) in
      ⊎_elim
      (λ w_over.
      let all_over : (u : ℕ) → stands_in (before ++ w ∷ []) u ≡ true → is_over system moment.done u ≡ true =
      λ u h. ⊎_elim (λ b. over u b) (λ s. subst (λ (z : ℕ). is_over system moment.done z ≡ true) (sym (eqb-true u w s)) w_over)
      (or_cases (stands_in before u) (eqb u w) (sym (pushed before w u) ∙ h)) in
      let later : stands_in rest v ≡ true =
      ⊎_elim
      (λ s. absurd (let both : true ≡ false = sym w_over ∙ ap (is_over system moment.done) (eqb-true w v s) ∙ left in cc))
      (λ r. r)
      (or_cases (eqb w v) (stands_in rest v) stands) in
      first_left v left (before ++ w ∷ []) rest (split ∙ sym (append_assoc before (w ∷ []) rest)) all_over later)
      (λ next. next)
      (over_or_next w (task_of fenced before rest w (subst (All (IsTask fenced)) split is.tasks)) ready)

  next_change : Next → (change : Change) × HasTask system (task_of_change change) × CanComeFenced system fences moment change
  next_change next =
      let parts = and_parts (has_inputs system moment.done next.task) (are_passed system fences moment.done next.task)
      (sym (ready_is system within moment.done fences next.task next.is_task.1) ∙ next.ready) in
      ⊎_elim
      (λ runs. (ends next.task, next.is_task, runs))
      (λ rests.
      let can : CanStartFenced system fences moment next.task = record {
        task = next.is_task;
        not_done = next.not_done;
        not_running = rests;
        ready = parts.0;
        passed = parts.1;
      } in
      (starts next.task, next.is_task, can))
      (cases_Bool (moment.running next.task))

  next_of : (v : ℕ) → HasTask system v → moment.done v ≡ false
      → (change : Change) × HasTask system (task_of_change change) × CanComeFenced system fences moment change
  next_of v task left =
      let once = is.once v (task.0, omega (arith, task.1, task_count system within)) in
      next_change
      (first_left v (over_task system within moment.done v task ∙ left) [] order refl (λ u h. absurd cc) (stands_once order v (omega (arith, once))))

pub goes_on : ReadyMore → (system : SharedTaskSystem) → All (IsSharedItemWithin (length system.tasks)) system.items
    → (fences : List Fence) (order : List ℕ) → IsTraversal (with_fences (collected system) fences) order → GoesOn system fences
goes_on more system within fences order is = λ changes v run task left. (
    let next = next_of more system within fences order is (moment_after_all first_moment changes) v task left in
    (next.0, next.1, run_more system fences first_moment changes next.0 run next.2))
