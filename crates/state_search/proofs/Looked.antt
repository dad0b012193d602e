-- What holds in each state that is looked at: all is made that a task that is done reads. So what was run last can run next before it.
use Rattle.std.proofs.Common.{◌≡◌, ◌≢◌, ℕ, ◌<◌, Bool, true, false, ◌&&◌, ◌||◌, not, eq-eqb, ltb, List, [], ◌∷◌, length, replicate, Option, Some, None}
use Rattle.std.proofs.Common.{refl, sym, ap, subst, ◌∙◌, arith}
use Rattle.std.specs.Prelude.{All}
use Rattle.std.specs.List.{list_all, list_any}
use Rattle.std.specs.Option.{ForSome}
use Rattle.std.proofs.lemmas.List.{length-replicate}
use Rattle.std.proofs.lemmas.List.Elements.{All-head, All-tail}
use Rattle.std.proofs.lemmas.Bool.{and_parts, ltb-true}
use Rattle.lists.proofs.Bools.{false_of_not, or_true}
use Rattle.mp_system.specs.Memory.{is_done_or}
use Rattle.mp_system.specs.Replay.{is_marked}
use Rattle.graphs.specs.Graph.{IsAmong}
use Rattle.shared_systems.specs.Shared.{SharedTaskSystem, SharedItem, is_read_by}
use Rattle.shared_systems.specs.SharedMemory.{has_inputs, is_made, shared_running}
use Rattle.shared_systems.specs.Bounds.{IsSharedSystem, IsSharedItemWithin}
use Rattle.state_search.specs.States.{none_done, all_done, without, has_successor, can_be_last, IsLookedAt, IsStepBack, end, back, state_at}
use Rattle.state_search.specs.Runs.{Runs}
use Rattle.state_search.specs.Kept.{KeptStates, AreLookedAt, link_at}
use Rattle.state_search.specs.declared.states.Link.{Link}
use Rattle.state_search.proofs.TaskMarks.{all_marked, is_none, some_none, mark_inside, without_length, without_back}
use Rattle.state_search.proofs.ItemMarks.{less_done, inputs_still, reads_none}
use Rattle.state_search.proofs.Reaches.{loses}
use Rattle.state_search.proofs.LastTasks.{step_can}
use Rattle.state_search.proofs.Runs.{runs_nil, runs_cons}
use Rattle.state_search.proofs.Keeping.{row_looked}

pub record IsLast (system : SharedTaskSystem) (bound : ℕ) (marks : List Bool) (v : ℕ) : Type 0 where
  pub done : is_marked marks v ≡ true
  pub free : has_successor system marks v ≡ false
  pub below : shared_running system (is_marked (without marks v)) v < bound

module _ (system : SharedTaskSystem) (bound : ℕ) where
  pub last_parts : (marks : List Bool) (v : ℕ) → can_be_last system bound marks v ≡ true → IsLast system bound marks v
  last_parts marks v e =
      let running = ltb (shared_running system (is_marked (without marks v)) v) bound in
      let first = and_parts (is_marked marks v) (not (has_successor system marks v) && running) e in
      let second = and_parts (not (has_successor system marks v)) running first.1 in
      record {
        done = first.0;
        free = false_of_not (has_successor system marks v) second.0;
        below = ltb-true (shared_running system (is_marked (without marks v)) v) bound second.1;
      }

  -- a mark for each task
  pub looked_length : {marks : List Bool} → IsLookedAt system bound marks → length marks ≡ length system.tasks
  looked_length (end low) = length-replicate (length system.tasks) true
  looked_length (back {marks} {v} looked step) = without_length marks v ∙ looked_length looked

  made_at_end : (from : Option ℕ) → ForSome from (IsAmong (length system.tasks)) → is_done_or true (is_marked (all_done system)) from ≡ true
  made_at_end None within = refl
  made_at_end (Some u) within = (let task = within u refl in all_marked (length system.tasks) u task.0 task.1)

  inputs_at_end : (w : ℕ) (items : List SharedItem) → All (IsSharedItemWithin (length system.tasks)) items
      → list_all (λ x. not (is_read_by w x) || is_made (is_marked (all_done system)) x) items ≡ true
  inputs_at_end w [] within = refl
  inputs_at_end w (x ∷ items) within =
      rw (made_at_end x.from (All-head (IsSharedItemWithin (length system.tasks)) x items within).producer, or_true (not (is_read_by w x)))
      (inputs_at_end w items (All-tail (IsSharedItemWithin (length system.tasks)) x items within))

  module _ (is : IsSharedSystem system) where
    pub looked_inputs : {marks : List Bool} → IsLookedAt system bound marks → (w : ℕ) → is_marked marks w ≡ true
        → has_inputs system (is_marked marks) w ≡ true
    looked_inputs (end low) w done = inputs_at_end w system.items is.items
    looked_inputs (back {marks} {v} looked step) w done =
        let last = last_parts marks v (step_can system bound marks v step) in
        let lost = loses marks v last.done in
        let before = less_done (is_marked marks) (is_marked (without marks v)) v lost w done in
        inputs_still (is_marked marks) (is_marked (without marks v)) v lost system w (reads_none (is_marked marks) v w system.items last.free before)
        (looked_inputs looked w before)

    -- the task that was run last can run next before it, and then what ran from there
    pub runs_before : (marks : List Bool) (v : ℕ) (rest : List ℕ) → IsLookedAt system bound marks → IsStepBack system bound marks v
        → Runs system bound marks rest → Runs system bound (without marks v) (v ∷ rest)
    runs_before marks v rest looked step runs =
        let last = last_parts marks v (step_can system bound marks v step) in
        let lost = loses marks v last.done in
        let inside = mark_inside marks v last.done in
        runs_cons system bound (without marks v) v rest (omega (arith, last.below))
        (record {
          task = (inside.0, omega (arith, inside.1, looked_length looked));
          waits = lost v ∙ rw (last.done, eq-eqb v v refl) refl;
          ready = inputs_still (is_marked marks) (is_marked (without marks v)) v lost system v
              (reads_none (is_marked marks) v v system.items last.free last.done) (looked_inputs looked v last.done);
          below = last.below;
        })
        (subst (λ (m : List Bool). Runs system bound m rest) (sym (without_back marks v last.done)) runs)

    module _ (states : KeptStates) (are : AreLookedAt system bound states) where
      -- from the first state nothing is left to run
      pub runs_first : 0 < length states.rows → Runs system bound (state_at states.rows 0) []
      runs_first some =
          subst (λ (m : List Bool). Runs system bound m []) (sym (are.first some))
          (runs_nil system bound (all_done system) (are.low some) (λ v task. all_marked (length system.tasks) v task.0 task.1))

      -- what runs from the state that a link leads to runs from the one before it, after the task of the link
      pub runs_linked : (i : ℕ) (link : Link) → 0 < i → i < length states.rows → link ≡ link_at states.links i → (rest : List ℕ)
          → Runs system bound (state_at states.rows link.next) rest → Runs system bound (state_at states.rows i) (link.task ∷ rest)
      runs_linked i link some inside is_link rest runs =
          let by = are.before i some inside in
          let there = link_at states.links i in
          let on = subst (λ (l : Link). Runs system bound (state_at states.rows l.next) rest) is_link runs in
          subst (λ (l : Link). Runs system bound (state_at states.rows i) (l.task ∷ rest)) (sym is_link)
          (subst (λ (m : List Bool). Runs system bound m (there.task ∷ rest)) (sym by.row_is)
          (runs_before (state_at states.rows there.next) there.task rest
          (row_looked system bound states are there.next (omega (arith, by.earlier, inside))) by.step on))

  -- ---- whether a state is the start

  module _ (marks : List Bool) (len : length marks ≡ length system.tasks) where
    pub is_start : list_any (λ mark. mark) marks ≡ false → marks ≡ none_done system
    is_start e = is_none marks e ∙ ap (λ (n : ℕ). replicate n false) len

    pub is_no_start : list_any (λ mark. mark) marks ≡ true → marks ≢ none_done system
    is_no_start e same =
        let f : false ≡ true = sym (some_none (length system.tasks)) ∙ ap (λ (m : List Bool). list_any (λ mark. mark) m) (sym same) ∙ e in cc
