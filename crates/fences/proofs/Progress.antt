-- A run goes on: the first task of a traversal that is not done runs, or can start.
use Rattle.std.proofs.Common.{◌≡◌, ℕ, true, false, eqb, List, [], ◌∷◌, ◌++◌, append_assoc, refl, sym, ap, subst, ◌∙◌, arith, ⊎_elim}
use Rattle.std.specs.Prelude.{All}
use Rattle.std.proofs.lemmas.Bool.{cases_Bool, eqb-true, or_cases}
use Rattle.mp_system.specs.System.{TaskSystem, IsTask}
use Rattle.mp_system.specs.Memory.{is_ready, stands_in}
use Rattle.mp_system.specs.Traversal.{IsTraversal}
use Rattle.fences.specs.Moments.{Moment}
use Rattle.fences.specs.Runs.{Change, CanCome, CanStart, moment_after, moment_after_all, first_moment, task_of as task_of_change, IsRunFrom, NeverStops}
use Rattle.fences.specs.Runs.Change.{starts, ends}
use Rattle.fences.proofs.Going.{ReadyMore}
use Rattle.fences.proofs.Along.{task_of}
use Rattle.fences.proofs.ChainAmounts.{pushed, stands_once}

-- one more change
run_more : (system : TaskSystem) (moment : Moment) (changes : List Change) (change : Change) → IsRunFrom system moment changes
    → CanCome system (moment_after_all moment changes) change → IsRunFrom system moment (changes ++ change ∷ [])
run_more system moment [] change run can = (can, tt)
run_more system moment (first ∷ changes) change run can = (run.0, run_more system (moment_after moment first) changes change run.1 can)

module _ (more : ReadyMore) (system : TaskSystem) (order : List ℕ) (is : IsTraversal system order) (moment : Moment) where
  record Next : Type 0 where
    pub task : ℕ
    pub is_task : IsTask system task
    pub not_done : moment.done task ≡ false
    pub ready : is_ready system moment.done task ≡ true

  -- after tasks that are all done
  first_left : (v : ℕ) → moment.done v ≡ false → (before rest : List ℕ) → order ≡ before ++ rest
      → ((u : ℕ) → stands_in before u ≡ true → moment.done u ≡ true) → stands_in rest v ≡ true → Next
  first_left v left before [] split done stands = absurd cc
  first_left v left before (w ∷ rest) split done stands =
      ⊎_elim
      (λ w_done.
      let all_done : (u : ℕ) → stands_in (before ++ w ∷ []) u ≡ true → moment.done u ≡ true =
      λ u h. ⊎_elim (λ b. done u b) (λ s. rw (eqb-true u w s) w_done) (or_cases (stands_in before u) (eqb u w) (sym (pushed before w u) ∙ h)) in
      let later : stands_in rest v ≡ true =
      ⊎_elim (λ s. absurd (let both : true ≡ false = sym w_done ∙ ap moment.done (eqb-true w v s) ∙ left in cc)) (λ r. r) (or_cases (eqb w v) (stands_in rest v) stands) in
      first_left v left (before ++ w ∷ []) rest (split ∙ sym (append_assoc before (w ∷ []) rest)) all_done later)
      (λ w_left.
      let next : Next = record {
        task = w;
        is_task = task_of system before rest w (subst (All (IsTask system)) split is.tasks);
        not_done = w_left;
        ready = more system (stands_in before) moment.done w done (is.after_suppliers before rest w split);
      } in
      next)
      (cases_Bool (moment.done w))

  next_change : Next → (change : Change) × IsTask system (task_of_change change) × CanCome system moment change
  next_change next =
      ⊎_elim
      (λ runs. (ends next.task, next.is_task, runs))
      (λ rests.
      let can : CanStart system moment next.task = record { not_done = next.not_done; not_running = rests; ready = next.ready } in
      (starts next.task, next.is_task, can))
      (cases_Bool (moment.running next.task))

  pub goes_on : (v : ℕ) → IsTask system v → moment.done v ≡ false → (change : Change) × IsTask system (task_of_change change) × CanCome system moment change
  goes_on v task left =
      next_change (first_left v left [] order refl (λ u h. absurd cc) (stands_once order v (omega (arith, is.once v task))))

pub never_stops : ReadyMore → (system : TaskSystem) (order : List ℕ) → IsTraversal system order → NeverStops system
never_stops more system order is = λ changes v run task left. (
    let next = goes_on more system order is (moment_after_all first_moment changes) v task left in
    (next.0, next.1, run_more system first_moment changes next.0 run next.2))
