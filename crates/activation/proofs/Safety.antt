-- What every state keeps that events lead to from the start.
use Rattle.std.proofs.Common.{◌≡◌, ◌≢◌, ℕ, zero, suc, ◌+◌, ◌-◌, ◌≤◌, Bool, true, false, cond, List}
use Rattle.std.proofs.Common.{[], ◌∷◌, length, take, drop, get_or, refl, sym, ◌∙◌, ap, arith, ⊎_elim}
use Rattle.std.specs.Prelude.{count_by, ◌==◌, replicate}
use Rattle.std.specs.List.{sum_by}
use Rattle.std.proofs.lemmas.List.{take_more, length-replicate}
use Rattle.std.proofs.lemmas.List.Sums.{sum_by-cons, sum_by-take-drop, sum_by-le-sum_by}
use Rattle.std.proofs.lemmas.Bool.{cases_eq, cases_Bool, eq-eqb, true≢false, or_left, or_right}
use Rattle.shared_systems.specs.Shared.{SharedTaskSystem, HasOwnShare, shared_task_at, shared_need_of, own_inputs_of, shared_outputs_of}
use Rattle.shared_systems.specs.SharedMemory.{shared_memory}
use Rattle.mp_system.specs.Memory.{stands_in}
use Rattle.shared_systems.specs.Freed.{freed_by}
use Rattle.shared_systems.proofs.States.{still_has_inputs}
use Rattle.shared_systems.proofs.Endings.{shared_memory_same, own_freed}
use Rattle.shared_systems.proofs.PeakBounds.{peak_state}
use Rattle.activation.specs.declared.events.Phase.{Phase}
use Rattle.activation.specs.declared.events.Phase.TheVariants.{Idle, Running, Done}
use Rattle.activation.specs.declared.events.EventKind.TheVariants.{Activate, Start, Finish}
use Rattle.activation.specs.declared.events.Event.{Event}
use Rattle.activation.specs.Machine.{Setting, IsSetting, State, phase_in, is_running_phase, is_done_phase}
use Rattle.activation.specs.Machine.{is_running, is_done, activated_tasks, booked_memory, used_memory, start_state}
use Rattle.activation.specs.Machine.{MayActivate, MayStart, MayFinish, state_after}
use Rattle.activation.specs.Runs.{AreLegal, state_after_all}
use Rattle.activation.specs.Safe.{IsSafe}
use Rattle.activation.proofs.Totals.{counted_in, in_more}
use Rattle.activation.proofs.Phases.{with_phase_other, length-with_phase, busy}
use Rattle.activation.proofs.Premises.{Kept}
use Rattle.activation.proofs.Orders.{each, task_in_order, counted_in_order, in_front}
use Rattle.activation.proofs.Changes.{same_done, finish_adds, finishes_front, event_change}

-- the outputs of a task are covered by its need and what goes with it, since its share is at most what it alone reads
outputs_covered : (s : SharedTaskSystem) (done : ℕ → Bool) (t : ℕ) → HasOwnShare s t
    → shared_outputs_of s t ≤ shared_need_of s t + freed_by s done t
outputs_covered s done t h = omega (arith, own_freed s done t, own (shared_task_at s t).extra (shared_task_at s t).share (own_inputs_of s t) (shared_outputs_of s t) h.0 h.1)
  where
    own : (extra share i o : ℕ) → share ≤ i → share ≤ extra + o → o ≤ extra + o - share + i
    own extra share i o a b = omega arith

pub phase_replicate : (n t : ℕ) → phase_in (replicate n Idle) t ≡ Idle
unfolding phase_in
phase_replicate n zero = refl
phase_replicate zero (suc i) = refl
phase_replicate (suc n) (suc zero) = refl
phase_replicate (suc n) (suc (suc i)) = phase_replicate n (suc i)

-- a sum of terms that are all zero
pub sum_zero : (f : ℕ → ℕ) → (xs : List ℕ) → ((x : ℕ) → stands_in xs x ≡ true → f x ≡ 0) → sum_by f xs ≡ 0
sum_zero f [] none = refl
sum_zero f (x ∷ xs) none =
    let e = none x (or_left (x == x) (stands_in xs x) (eq-eqb x x refl)) in
    let ih = sum_zero f xs (λ y h. none y (or_right (x == y) (stands_in xs y) h)) in
    sum_by-cons f x xs ∙ rw (e, ih) refl

-- a count of what never passes
pub count_zero : (f : ℕ → Bool) → (xs : List ℕ) → ((x : ℕ) → stands_in xs x ≡ true → f x ≡ false) → count_by f xs ≡ 0
count_zero f xs none = sum_zero (λ y. cond (f y) 1 0) xs (λ x h. ap (λ (b : Bool). cond b 1 0) (none x h))

-- the running tasks are among the activated ones that are not done
pub used_within : (c : Setting) → IsSetting c → (st : State)
    → ((t : ℕ) → phase_in st.phases t ≢ Idle → stands_in (activated_tasks c st) t ≡ true) → used_memory c st ≤ booked_memory c st
used_within c set st begun =
    let f : ℕ → ℕ = λ x. cond (is_running st x) (shared_need_of c.system x) 0 in
    let g : ℕ → ℕ = λ x. cond (is_done st x) 0 (shared_need_of c.system x) in
    let split = sum_by-take-drop f c.order st.activated in
    let rest : sum_by f (drop st.activated c.order) ≡ 0 = sum_zero f (drop st.activated c.order) (λ x h.
    ⊎_elim
    (λ r. let front = begun x (λ z. true≢false (sym r ∙ ap is_running_phase z)) in
    let one = counted_in_order c.system c.order (each set) x (in_front c.system c.order (each set) st.activated x front) in
    let halves = sum_by-take-drop (λ y. cond (y == x) 1 0) c.order st.activated in
    absurd (omega (arith, one, halves, counted_in (activated_tasks c st) x front, counted_in (drop st.activated c.order) x h)))
    (λ n. ap (λ (b : Bool). cond b (shared_need_of c.system x) 0) n)
    (cases_Bool (is_running st x))) in
    let le : sum_by f (activated_tasks c st) ≤ sum_by g (activated_tasks c st) =
    sum_by-le-sum_by f g (activated_tasks c st) (λ x. less (phase_in st.phases x) (shared_need_of c.system x)) in
    omega (arith, split, rest, le)
  where
    less : (p : Phase) (n : ℕ) → cond (is_running_phase p) n 0 ≤ cond (is_done_phase p) 0 n
    less Idle n = omega arith
    less Running n = omega arith
    less Done n = omega arith

-- at the start no task is done or runs
pub start_booked : (c : Setting) → booked_memory c (start_state c) ≡ shared_memory c.system (λ _. false)
start_booked c =
    let same =
    shared_memory_same c.system (is_done (start_state c)) (λ _. false) (λ x. ap is_done_phase (phase_replicate (length c.system.tasks) x)) in
    omega (arith, same)

pub start_used : (c : Setting) → used_memory c (start_state c) ≡ shared_memory c.system (λ _. false)
start_used c =
    let idle = phase_replicate (length c.system.tasks) in
    let same = shared_memory_same c.system (is_done (start_state c)) (λ _. false) (λ x. ap is_done_phase (idle x)) in
    let none = sum_zero (λ x. cond (is_running (start_state c) x) (shared_need_of c.system x) 0) c.order
    (λ x h. ap (λ (p : Phase). cond (is_running_phase p) (shared_need_of c.system x) 0) (idle x)) in
    omega (arith, same, none)

pub start_safe : (c : Setting) → IsSetting c → IsSafe c (start_state c)
start_safe c set =
    let idle = phase_replicate (length c.system.tasks) in
    let none = count_zero (is_running (start_state c)) c.order (λ x h. ap is_running_phase (idle x)) in
    let same = shared_memory_same c.system (is_done (start_state c)) (stands_in []) (λ x. ap is_done_phase (idle x)) in
    let first = peak_state c.system c.order [] c.order refl in
    let begun : (t : ℕ) → phase_in (start_state c).phases t ≢ Idle → stands_in (activated_tasks c (start_state c)) t ≡ true =
    λ t n. absurd (n (idle t)) in
    record {
      phases = length-replicate (length c.system.tasks) Idle;
      prefix = omega arith;
      activated = begun;
      ready = λ t n. absurd (n (idle t));
      workers = omega (arith, none);
      used = used_within c set (start_state c) begun;
      booked = omega (arith, same, first, set.bound);
    }

module _ (c : Setting) (set : IsSetting c) (st : State) (so : IsSafe c st) (t : ℕ) where
  activate_safe : MayActivate c st t → IsSafe c (state_after st Activate t)
  activate_safe h =
      let booked = (event_change c set st so Activate t h).booked in
      let begun : (u : ℕ) → phase_in st.phases u ≢ Idle → stands_in (activated_tasks c (state_after st Activate t)) u ≡ true =
      λ u n. let e = take_more c.order st.activated 0 h.left in
      rw e (in_more (take st.activated c.order) (get_or c.order st.activated 0 ∷ []) u (so.activated u n)) in
      record {
        phases = so.phases;
        prefix = omega (arith, h.left);
        activated = begun;
        ready = so.ready;
        workers = so.workers;
        used = used_within c set (state_after st Activate t) begun;
        booked = omega (arith, booked, h.fits);
      }

  start_task_safe : MayStart c st t → IsSafe c (state_after st Start t)
  start_task_safe h =
      let st' = state_after st Start t in
      let to = event_change c set st so Start t h in
      let other : (u : ℕ) → u ≢ t → phase_in st'.phases u ≡ phase_in st.phases u = λ u n. with_phase_other st.phases t u Running n in
      let begun : (u : ℕ) → phase_in st'.phases u ≢ Idle → stands_in (activated_tasks c st') u ≡ true =
      λ u n. ⊎_elim (λ e. rw e h.activated) (λ m. so.activated u (λ z. n (other u m ∙ z))) (cases_eq u t) in
      record {
        phases = length-with_phase st.phases t Running ∙ so.phases;
        prefix = so.prefix;
        activated = begun;
        ready = λ u n. still_has_inputs (is_done st) (is_done st') (λ x y. same_done c set st so t h x ∙ y) u c.system.items
            (⊎_elim (λ e. rw e h.ready) (λ m. so.ready u (λ z. n (other u m ∙ z))) (cases_eq u t));
        workers = omega (arith, to.running, h.free);
        used = used_within c set st' begun;
        booked = omega (arith, to.booked, so.booked);
      }

  finish_safe : MayFinish c st t → IsSafe c (state_after st Finish t)
  finish_safe h =
      let st' = state_after st Finish t in
      let to = event_change c set st so Finish t h in
      let here = task_in_order c.system c.order (each set) t
      (in_front c.system c.order (each set) st.activated t (finishes_front c set st so t h)) in
      let other : (u : ℕ) → u ≢ t → phase_in st'.phases u ≡ phase_in st.phases u = λ u n. with_phase_other st.phases t u Done n in
      let later : (u : ℕ) → is_done st u ≡ true → is_done st' u ≡ true =
      λ u y. finish_adds c set st so t h u ∙ or_left (is_done st u) (u == t) y in
      let begun : (u : ℕ) → phase_in st'.phases u ≢ Idle → stands_in (activated_tasks c st') u ≡ true =
      λ u n. ⊎_elim (λ e. rw e (finishes_front c set st so t h)) (λ m. so.activated u (λ z. n (other u m ∙ z))) (cases_eq u t) in
      record {
        phases = length-with_phase st.phases t Done ∙ so.phases;
        prefix = so.prefix;
        activated = begun;
        ready = λ u n. still_has_inputs (is_done st) (is_done st') later u c.system.items
            (⊎_elim (λ e. rw e (so.ready t (busy h.running))) (λ m. so.ready u (λ z. n (other u m ∙ z))) (cases_eq u t));
        workers = omega (arith, to.running, so.workers);
        used = used_within c set st' begun;
        booked = omega (arith, to.booked, so.booked, outputs_covered c.system (is_done st) t (set.system.shares t here));
      }

-- each event keeps it
pub happen_safe : Kept
happen_safe c set st so Activate t h = activate_safe c set st so t h
happen_safe c set st so Start t h = start_task_safe c set st so t h
happen_safe c set st so Finish t h = finish_safe c set st so t h

-- and so does a whole run
pub run_safe : Kept → (c : Setting) → IsSetting c → (st : State) → IsSafe c st
    → (events : List Event) → AreLegal c st events → IsSafe c (state_after_all st events)
run_safe kept c set st so [] h = so
run_safe kept c set st so (e ∷ es) h = run_safe kept c set (state_after st e.kind e.task) (kept c set st so e.kind e.task h.0) es h.1
