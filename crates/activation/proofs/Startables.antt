-- Which tasks are startable after each event, and the row of their places.
use Rattle.std.proofs.Common.{◌≡◌, ◌≢◌, ℕ, ◌+◌, ◌<◌, Bool, true, false, ◌&&◌, List, [], ◌∷◌, ◌++◌, length, take, get_or, set}
use Rattle.std.proofs.Common.{sym, ◌∙◌, ap, arith, ⊎_elim}
use Rattle.std.specs.Prelude.{slice_index, count_by, ◌==◌, ◌||◌}
use Rattle.std.proofs.lemmas.List.{length-set, take_more, get_or-set_same, get_or-set_other}
use Rattle.std.proofs.lemmas.List.Folds.{list_any-append}
use Rattle.std.proofs.lemmas.Bool.{cases_eq, eq-eqb, eqb-true, ne_eqb}
use Rattle.std.proofs.Math.Bool.{or-true, or-false, and-false}
use Rattle.std.specs.Cmp.{both_ways}
use Rattle.shared_systems.specs.Shared.{SharedTaskSystem}
use Rattle.mp_system.specs.Memory.{stands_in}
use Rattle.shared_systems.specs.SharedMemory.{has_inputs}
use Rattle.activation.specs.declared.events.Phase.TheVariants.{Idle, Running, Done}
use Rattle.activation.specs.declared.events.EventKind.TheVariants.{Activate, Start, Finish}
use Rattle.activation.specs.Machine.{Setting, IsSetting, State, phase_in, with_phase, is_idle_phase, is_done_phase, is_done}
use Rattle.activation.specs.Machine.{activated_tasks, MayActivate, MayStart, MayFinish, state_after}
use Rattle.activation.specs.Safe.{IsSafe}
use Rattle.activation.specs.Tables.{awaited, is_edge, is_startable, AreStartable}
use Rattle.activation.proofs.Phases.{with_phase_other}
use Rattle.activation.proofs.Orders.{each, stands_once}
use Rattle.activation.proofs.Changes.{idle_or_not, next_idle, is_changed, finishes_front, finish_adds, same_done}
use Rattle.activation.proofs.Awaiting.{awaited_same, awaited_later, ready_from, awaits_none}

-- tasks that wait for as many items are ready alike
ready_alike : (s : SharedTaskSystem) (d e : ℕ → Bool) (t : ℕ) → awaited s e t ≡ awaited s d t → has_inputs s e t ≡ has_inputs s d t
ready_alike s d e t same =
    both_ways _ _ (λ h. ready_from s d t (sym same ∙ awaits_none s e t h)) (λ h. ready_from s e t (same ∙ awaits_none s d t h))

-- one that waits for so many is ready where that is none
pub ready_counted : (s : SharedTaskSystem) (d : ℕ → Bool) (t n : ℕ) → n ≡ awaited s d t → has_inputs s d t ≡ (n == 0)
ready_counted s d t n left =
    both_ways _ _ (λ h. eq-eqb n 0 (omega (arith, left, awaits_none s d t h))) (λ h. ready_from s d t (omega (arith, left, eqb-true n 0 h)))

-- a task that is appended
pub stands_appended : (xs : List ℕ) (t u : ℕ) → stands_in (xs ++ t ∷ []) u ≡ (stands_in xs u || (t == u))
stands_appended xs t u = list_any-append (λ x. x == u) xs (t ∷ []) ∙ ap (λ b. stands_in xs u || b) (or-false (t == u))

module _ (c : Setting) (set' : IsSetting c) (st : State) (safe : IsSafe c st) (task : ℕ) where
  -- no event but these makes another task startable, or ends that it is: an activation none
  pub still : MayActivate c st task → (t : ℕ) → t ≢ task → is_startable c (state_after st Activate task) t ≡ is_startable c st t
  still h t n =
      let more = take_more c.order st.activated 0 h.left in
      let same : stands_in (take (st.activated + 1) c.order) t ≡ stands_in (take st.activated c.order) t =
      ap (λ xs. stands_in xs t) more ∙ stands_appended (take st.activated c.order) (get_or c.order st.activated 0) t
      ∙ ap (λ b. stands_in (take st.activated c.order) t || b) (ap (λ y. y == t) h.next ∙ ne_eqb task t (λ z. n (sym z)))
      ∙ or-false (stands_in (take st.activated c.order) t) in
      ap (λ b. b && (is_idle_phase (phase_in st.phases t) && has_inputs c.system (is_done st) t)) same

  -- the activated task itself is startable where it waits for nothing
  pub activated_is : MayActivate c st task → is_startable c (state_after st Activate task) task ≡ has_inputs c.system (is_done st) task
  activated_is h =
      let more = take_more c.order st.activated 0 h.left in
      let front : stands_in (take (st.activated + 1) c.order) task ≡ true =
      ap (λ xs. stands_in xs task) more ∙ stands_appended (take st.activated c.order) (get_or c.order st.activated 0) task
      ∙ ap (λ b. stands_in (take st.activated c.order) task || b) (eq-eqb (get_or c.order st.activated 0) task h.next)
      ∙ or-true (stands_in (take st.activated c.order) task) in
      ap (λ b. b && (is_idle_phase (phase_in st.phases task) && has_inputs c.system (is_done st) task)) front
      ∙ ap (λ q. is_idle_phase q && has_inputs c.system (is_done st) task) (next_idle c set' st safe task h)

  -- a start changes no other task
  pub stays : MayStart c st task → (t : ℕ) → t ≢ task → is_startable c (state_after st Start task) t ≡ is_startable c st t
  stays h t n =
      let phase = with_phase_other st.phases task t Running n in
      let alike = ready_alike c.system (is_done st) (is_done (state_after st Start task)) t
      (awaited_same c.system (is_done (state_after st Start task)) (is_done st) (same_done c set' st safe task h) t) in
      ap (λ b. stands_in (activated_tasks c st) t && (is_idle_phase (phase_in (with_phase st.phases task Running) t) && b)) alike
      ∙ ap (λ q. stands_in (activated_tasks c st) t && (is_idle_phase q && has_inputs c.system (is_done st) t)) phase

  -- and the started task is startable no more
  pub started_is : MayStart c st task → is_startable c (state_after st Start task) task ≡ false
  started_is h =
      ap (λ q. stands_in (activated_tasks c st) task && (is_idle_phase q && has_inputs c.system (is_done (state_after st Start task)) task))
      (is_changed c set' st safe task h.activated Running)
      ∙ and-false (stands_in (activated_tasks c st) task)

  -- how many items a task waits for after a finish
  waits_less : MayFinish c st task → (t : ℕ)
      → awaited c.system (is_done (state_after st Finish task)) t + count_by (is_edge task t) c.system.items
      ≡ awaited c.system (is_done st) t
  waits_less h t = awaited_later c.system (is_done st) (is_done (state_after st Finish task)) task
      (ap is_done_phase h.running) (finish_adds c set' st safe task h) t

  -- a finish changes no task that reads none of its outputs
  pub keeps_mark : MayFinish c st task → (t : ℕ) → count_by (is_edge task t) c.system.items ≡ 0
      → is_startable c (state_after st Finish task) t ≡ is_startable c st t
  keeps_mark h t none =
      let fewer = waits_less h t in
      let alike = ready_alike c.system (is_done st) (is_done (state_after st Finish task)) t (omega (arith, fewer, none)) in
      let idle : is_idle_phase (phase_in (with_phase st.phases task Done) t) ≡ is_idle_phase (phase_in st.phases t) =
      ⊎_elim
      (λ e. ap (λ u. is_idle_phase (phase_in (with_phase st.phases task Done) u)) e
      ∙ ap is_idle_phase (is_changed c set' st safe task (finishes_front c set' st safe task h) Done)
      ∙ sym (ap (λ u. is_idle_phase (phase_in st.phases u)) e ∙ ap is_idle_phase h.running))
      (λ n. ap is_idle_phase (with_phase_other st.phases task t Done n))
      (cases_eq t task) in
      ap (λ b. stands_in (activated_tasks c st) t && (is_idle_phase (phase_in (with_phase st.phases task Done) t) && b)) alike
      ∙ ap (λ b. stands_in (activated_tasks c st) t && (b && has_inputs c.system (is_done st) t)) idle

  -- a task that does has not begun: it is startable where it is activated and waits for nothing
  pub reader_is : MayFinish c st task → (t : ℕ) → 0 < count_by (is_edge task t) c.system.items
      → is_startable c (state_after st Finish task) t
      ≡ (stands_in (activated_tasks c st) t && has_inputs c.system (is_done (state_after st Finish task)) t)
  reader_is h t some =
      let ready = has_inputs c.system (is_done (state_after st Finish task)) t in
      let idle : phase_in st.phases t ≡ Idle =
      ⊎_elim
      (λ y. y)
      (λ n. absurd (omega (arith, waits_less h t, some, awaits_none c.system (is_done st) t (safe.ready t n))))
      (idle_or_not (phase_in st.phases t)) in
      let apart : t ≢ task = λ e. (let clash : Idle ≡ Running = sym idle ∙ ap (phase_in st.phases) e ∙ h.running in cc) in
      ap (λ q. stands_in (activated_tasks c st) t && (is_idle_phase q && ready)) (with_phase_other st.phases task t Done apart ∙ idle)

  -- the row of the places, where at most one task changes
  pub one_written : (su : State) (places : List Bool) → AreStartable c st places
      → (place : ℕ) (b : Bool) → place < length c.order → slice_index c.order place ≡ task →
      ((t : ℕ) → t ≢ task → is_startable c su t ≡ is_startable c st t) → is_startable c su task ≡ b → AreStartable c su (set places place b)
  one_written su places are place b w here same own = record {
    long = length-set places place b ∙ are.long;
    each = λ k v.
        ⊎_elim
        (λ e. ap (λ j. get_or (set places place b) j false) e ∙ get_or-set_same places place b false (omega (arith, w, are.long))
        ∙ sym (ap (is_startable c su) (ap (slice_index c.order) e ∙ here) ∙ own))
        (λ d. get_or-set_other places place k b false d ∙ are.each k v
        ∙ sym (same (slice_index c.order k) (λ z. d (stands_once c.system c.order (each set') task k place v w z here))))
        (cases_eq k place);
  }
