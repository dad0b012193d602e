-- Some event may happen next, until every task is done.
use Rattle.std.proofs.Common.{◌≡◌, ℕ, suc, ◌+◌, ◌<◌, Bool, true, false, cond, not, List, [], ◌∷◌, inl}
use Rattle.std.proofs.Common.{inr, length, take, drop, get_or, refl, sym, ◌∙◌, ap, arith, ⊎_elim}
use Rattle.std.specs.Prelude.{◌==◌}
use Rattle.std.proofs.lemmas.List.{length-take, get_or-take, take-take, take_all}
use Rattle.std.proofs.lemmas.Bool.{not-true, not-false, cases_Bool, cases_lt, eqb-true, or_cases, true≢false, false_from_ne_true}
use Rattle.activation.specs.declared.events.Phase.{Phase}
use Rattle.activation.specs.declared.events.Phase.TheVariants.{Idle, Running, Done}
use Rattle.activation.specs.declared.events.EventKind.TheVariants.{Activate, Start, Finish}
use Rattle.shared_systems.specs.Shared.{shared_need_of}
use Rattle.shared_systems.specs.SharedMemory.{has_inputs}
use Rattle.mp_system.specs.Memory.{stands_in}
use Rattle.shared_systems.proofs.States.{still_has_inputs}
use Rattle.shared_systems.proofs.Endings.{shared_memory_same}
use Rattle.shared_systems.proofs.PeakBounds.{peak_running}
use Rattle.activation.specs.Machine.{Setting, IsSetting, State, phase_in, is_running_phase, is_done_phase}
use Rattle.activation.specs.Machine.{is_running, is_done, activated_tasks, MayActivate, MayStart, AllDone}
use Rattle.activation.specs.Runs.{HasNext, NoneRuns, CanBegin}
use Rattle.activation.specs.Safe.{IsSafe}
use Rattle.activation.proofs.Totals.{in_at}
use Rattle.activation.proofs.Orders.{each, task_has_place, ready_at, split_at}
use Rattle.activation.proofs.Phases.{running_from}
use Rattle.activation.proofs.Safety.{count_zero, sum_zero}

-- the first element that does not pass, where there is one
data FirstNot (test : ℕ → Bool) (xs : List ℕ) : Type 0 where
  none : ((x : ℕ) → stands_in xs x ≡ true → test x ≡ true) → FirstNot test xs
  at : (j : ℕ) → j < length xs → test (get_or xs j 0) ≡ false
      → ((x : ℕ) → stands_in (take j xs) x ≡ true → test x ≡ true) → FirstNot test xs

passes_front : (test : ℕ → Bool) (x : ℕ) (xs : List ℕ) → test x ≡ true
    → ((y : ℕ) → stands_in xs y ≡ true → test y ≡ true) → (y : ℕ) → stands_in (x ∷ xs) y ≡ true → test y ≡ true
passes_front test x xs t all y h = ⊎_elim (λ e. ap test (sym (eqb-true x y e)) ∙ t) (λ r. all y r) (or_cases (x == y) (stands_in xs y) h)

first_not_cons : (test : ℕ → Bool) (x : ℕ) (xs : List ℕ) → test x ≡ true → FirstNot test xs → FirstNot test (x ∷ xs)
first_not_cons test x xs t (none all) = none (passes_front test x xs t all)
first_not_cons test x xs t (at j h f all) = at (suc j) (omega arith) f (passes_front test x (take j xs) t all)

first_not : (test : ℕ → Bool) (xs : List ℕ) → FirstNot test xs
first_not test [] = none (λ x h. cc)
first_not test (x ∷ xs) =
    ⊎_elim (λ t. first_not_cons test x xs t (first_not test xs)) (λ f. at 0 (omega arith) f (λ y h. cc)) (cases_Bool (test x))

idle_rest : (p : Phase) → is_running_phase p ≡ false → is_done_phase p ≡ false → p ≡ Idle
idle_rest Idle r d = refl
idle_rest Running r d = cc
idle_rest Done r d = cc

module _ (c : Setting) (set : IsSetting c) (st : State) (so : IsSafe c st)
    (quiet : (x : ℕ) → stands_in c.order x ≡ true → is_running st x ≡ false) where
  -- an activated task that is not done may start
  starts : (j : ℕ) → j < length (activated_tasks c st) → is_done st (get_or (activated_tasks c st) j 0) ≡ false
      → ((x : ℕ) → stands_in (take j (activated_tasks c st)) x ≡ true → is_done st x ≡ true) →
      (t : ℕ) × MayStart c st t
  starts j h f all =
      let len = length-take st.activated c.order in
      let j-front : j < st.activated = omega (arith, len) in
      let j-order : j < length c.order = omega (arith, len) in
      let t = get_or (activated_tasks c st) j 0 in
      let is : t ≡ get_or c.order j 0 = get_or-take st.activated c.order j 0 j-front in
      let front = take-take j st.activated c.order (omega arith) in
      let here : stands_in c.order t ≡ true = rw is (in_at c.order j j-order) in
      let fed : has_inputs c.system (is_done st) (get_or c.order j 0) ≡ true =
      still_has_inputs (stands_in (take j c.order)) (is_done st) (λ x y. all x (rw front y)) (get_or c.order j 0) c.system.items
      (ready_at c.system c.order set.traversal j j-order) in (
        t,
        record {
          activated = in_at (activated_tasks c st) j h;
          idle = idle_rest (phase_in st.phases t) (quiet t here) f;
          ready = rw is fed;
          free = omega (arith, count_zero (is_running st) c.order quiet, set.workers);
        },
      )

  -- where all of them are done, the next one fits
  activates : ((x : ℕ) → stands_in (activated_tasks c st) x ≡ true → is_done st x ≡ true)
      → st.activated < length c.order → (t : ℕ) × MayActivate c st t
  activates all h =
      let front = activated_tasks c st in
      let none = sum_zero (λ x. cond (is_done st x) 0 (shared_need_of c.system x)) front
      (λ x y. ap (λ (b : Bool). cond b 0 (shared_need_of c.system x)) (all x y)) in
      let same : (x : ℕ) → is_done st x ≡ stands_in front x = λ x.
      ⊎_elim
      (λ y. y ∙ sym (so.activated x (λ z. true≢false (sym y ∙ ap is_done_phase z))))
      (λ n. n ∙ sym (false_from_ne_true (stands_in front x) (λ q. true≢false (sym (all x q) ∙ n))))
      (cases_Bool (is_done st x)) in
      let here = shared_memory_same c.system (is_done st) (stands_in front) same in
      let most = peak_running c.system c.order front (drop (st.activated + 1) c.order) (get_or c.order st.activated 0)
      (split_at c.order st.activated h) in (
        get_or c.order st.activated 0,
        record {
          left = h;
          next = refl;
          fits = omega (arith, none, here, most, set.bound);
        },
      )

  begins : FirstNot (is_done st) (activated_tasks c st) → (AllDone c st → ⊥) → CanBegin c st
  begins (at j h f all) open' = inr (starts j h f all)
  begins (none all) open' = ⊎_elim (λ h. inl (activates all h))
      (λ h. absurd (open' (λ t is. all t (rw (take_all st.activated c.order h) (task_has_place c.system c.order (each set) t is)))))
      (cases_lt st.activated (length c.order))

pub safe_begins : (c : Setting) → IsSetting c
    → (st : State) → IsSafe c st → NoneRuns st → (AllDone c st → ⊥) → CanBegin c st
safe_begins c set st so quiet =
    begins c set st so (λ x h. quiet x) (first_not (is_done st) (activated_tasks c st))

goes_on : (c : Setting) → IsSetting c → (st : State)
    → IsSafe c st → FirstNot (λ x. not (is_running st x)) c.order → (AllDone c st → ⊥) → HasNext c st
goes_on c set st so (at j h f all) open' = (
  Finish,
  (
    get_or c.order j 0,
    record {
      running = running_from (phase_in st.phases (get_or c.order j 0)) (not-false (is_running st (get_or c.order j 0)) f);
    },
  ),
)
goes_on c set st so (none all) open' =
    ⊎_elim (λ a. (Activate, a)) (λ a. (Start, a))
    (begins c set st so (λ x h. not-true (is_running st x) (all x h)) (first_not (is_done st) (activated_tasks c st)) open')

pub safe_goes_on : (c : Setting)
    → IsSetting c → (st : State) → IsSafe c st → (AllDone c st → ⊥) → HasNext c st
safe_goes_on c set st so = goes_on c set st so (first_not (λ x. not (is_running st x)) c.order)
