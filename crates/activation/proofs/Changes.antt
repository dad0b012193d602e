-- What each event makes of booked memory, of used memory and of the number of running tasks.
use Rattle.std.proofs.Common.{◌≡◌, ◌≢◌, ℕ, ◌+◌, Bool, true, false, cond, ◌⊎◌, inl, inr, get_or, refl, sym, ◌∙◌, ap, arith, ⊎_elim}
use Rattle.std.specs.Prelude.{count_by, ◌==◌}
use Rattle.std.specs.List.{sum_by}
use Rattle.std.proofs.lemmas.List.Sums.{sum_by_more}
use Rattle.std.proofs.lemmas.Bool.{cases_eq, eq-eqb, ne_eqb, true≢false}
use Rattle.std.proofs.Math.Bool.{or-false}
use Rattle.shared_systems.specs.Shared.{shared_need_of}
use Rattle.mp_system.specs.Memory.{stands_in}
use Rattle.mp_system.specs.Step.{AddsTask}
use Rattle.shared_systems.proofs.Endings.{shared_memory_same, memory_later}
use Rattle.activation.specs.declared.events.Phase.{Phase}
use Rattle.activation.specs.declared.events.Phase.TheVariants.{Idle, Running, Done}
use Rattle.activation.specs.declared.events.EventKind.{EventKind}
use Rattle.activation.specs.declared.events.EventKind.TheVariants.{Activate, Start, Finish}
use Rattle.activation.specs.Machine.{Setting, IsSetting, State, phase_in, with_phase, is_running_phase, is_done_phase, is_done}
use Rattle.activation.specs.Machine.{activated_tasks, MayActivate, MayStart, MayFinish, MayHappen, state_after}
use Rattle.activation.specs.Safe.{IsSafe}
use Rattle.activation.specs.Changes.{IsChange, BooksNeed, UsesNeed, FreesNeed}
use Rattle.activation.proofs.Totals.{sum_changed_once, counted_in}
use Rattle.lists.proofs.Lists.{sum-same as sum_same}
use Rattle.activation.proofs.Phases.{with_phase_same, with_phase_other, busy}
use Rattle.activation.proofs.Orders.{each, task_in_order, counted_in_order, counted_once, in_front}

-- each task is idle or not
pub idle_or_not : (p : Phase) → (p ≡ Idle) ⊎ (p ≢ Idle)
idle_or_not Idle = inl refl
idle_or_not Running = inr (λ z. cc)
idle_or_not Done = inr (λ z. cc)

module _ (c : Setting) (set : IsSetting c) (st : State) (so : IsSafe c st) (t : ℕ) where
  -- the next task of the order has not begun
  pub next_idle : MayActivate c st t → phase_in st.phases t ≡ Idle
  next_idle h =
      ⊎_elim
      (λ y. y)
      (λ n. let front = counted_in (activated_tasks c st) t (so.activated t n) in
      let more = sum_by_more (λ (x : ℕ). cond (x == t) 1 0) c.order st.activated 0 h.left in
      let here : ◌≡◌ {A = ℕ} (cond (get_or c.order st.activated 0 == t) 1 0) 1 =
      ap (λ (b : Bool). cond b 1 0) (eq-eqb (get_or c.order st.activated 0) t h.next) in
      absurd (omega (arith, front, more, here, counted_once c.system c.order (each set) (st.activated + 1) t)))
      (idle_or_not (phase_in st.phases t))

  activate_change : MayActivate c st t → BooksNeed c st t
  activate_change h =
      let held : ℕ → ℕ = λ x. cond (is_done st x) 0 (shared_need_of c.system x) in
      let more = sum_by_more held c.order st.activated 0 h.left in
      let last : held (get_or c.order st.activated 0) ≡ shared_need_of c.system t =
      ap held h.next ∙ ap (λ (p : Phase). cond (is_done_phase p) 0 (shared_need_of c.system t)) (next_idle h) in
      record { booked = omega (arith, more, last) }

  pub is_changed : stands_in (activated_tasks c st) t ≡ true → (q : Phase) → phase_in (with_phase st.phases t q) t ≡ q
  is_changed front q =
      let ranged = task_in_order c.system c.order (each set) t (in_front c.system c.order (each set) st.activated t front) in
      with_phase_same st.phases t q ranged.0 (omega (arith, ranged.1, so.phases))

  -- a sum over the order of a number of each task's phase, when one task's phase changes
  pub order_sum : (n : Phase → ℕ → ℕ) (q : Phase) → stands_in (activated_tasks c st) t ≡ true →
      sum_by (λ x. n (phase_in (with_phase st.phases t q) x) x) c.order + n (phase_in st.phases t) t
      ≡ sum_by (λ x. n (phase_in st.phases x) x) c.order + n q t
  order_sum n q front =
      let f : ℕ → ℕ = λ x. n (phase_in (with_phase st.phases t q) x) x in
      let g : ℕ → ℕ = λ x. n (phase_in st.phases x) x in
      let e = sum_changed_once f g t (λ x m. ap (λ (p : Phase). n p x) (with_phase_other st.phases t x q m)) c.order
      (counted_in_order c.system c.order (each set) t (in_front c.system c.order (each set) st.activated t front)) in
      let ft : f t ≡ n q t = ap (λ (p : Phase). n p t) (is_changed front q) in
      omega (arith, e, ft)

  -- the same over the activated tasks
  front_sum : (n : Phase → ℕ → ℕ) (q : Phase) → stands_in (activated_tasks c st) t ≡ true →
      sum_by (λ x. n (phase_in (with_phase st.phases t q) x) x) (activated_tasks c st) + n (phase_in st.phases t) t
      ≡ sum_by (λ x. n (phase_in st.phases x) x) (activated_tasks c st) + n q t
  front_sum n q front =
      let f : ℕ → ℕ = λ x. n (phase_in (with_phase st.phases t q) x) x in
      let g : ℕ → ℕ = λ x. n (phase_in st.phases x) x in
      let once : count_by (λ x. x == t) (activated_tasks c st) ≡ 1 =
      omega (arith, counted_once c.system c.order (each set) st.activated t, counted_in (activated_tasks c st) t front) in
      let e = sum_changed_once f g t (λ x m. ap (λ (p : Phase). n p x) (with_phase_other st.phases t x q m)) (activated_tasks c st) once in
      let ft : f t ≡ n q t = ap (λ (p : Phase). n p t) (is_changed front q) in
      omega (arith, e, ft)

  pub finishes_front : MayFinish c st t → stands_in (activated_tasks c st) t ≡ true
  finishes_front h = so.activated t (busy h.running)

  -- a start ends no task
  pub same_done : MayStart c st t → (x : ℕ) → is_done (state_after st Start t) x ≡ is_done st x
  same_done h x =
      ⊎_elim
      (λ e. ap (λ y. is_done (state_after st Start t) y) e ∙ ap is_done_phase (is_changed h.activated Running)
      ∙ sym (ap is_done_phase h.idle) ∙ sym (ap (λ y. is_done st y) e))
      (λ n. ap is_done_phase (with_phase_other st.phases t x Running n))
      (cases_eq x t)

  -- a finish ends this one
  pub finish_adds : MayFinish c st t → AddsTask (is_done st) t (is_done (state_after st Finish t))
  finish_adds h x =
      ⊎_elim
      (λ e. let e' : (x == t) ≡ true = eq-eqb x t e in
      let on : is_done (state_after st Finish t) x ≡ true =
      ap (λ y. is_done (state_after st Finish t) y) e ∙ ap is_done_phase (is_changed (finishes_front h) Done) in
      let off : is_done st x ≡ false = ap (λ y. is_done st y) e ∙ ap is_done_phase h.running in
      rw (on, off, e'))
      (λ n. let e' : (x == t) ≡ false = ne_eqb x t n in
      rw (ap is_done_phase (with_phase_other st.phases t x Done n), e') (sym (or-false (is_done st x))))
      (cases_eq x t)

  -- a done task is not idle
  not_idle : (u : ℕ) → is_done st u ≡ true → phase_in st.phases u ≢ Idle
  not_idle u y z = true≢false (sym y ∙ ap is_done_phase z)

  start_change : MayStart c st t → UsesNeed c st t
  start_change h =
      let here = shared_memory_same c.system (is_done (state_after st Start t)) (is_done st) (same_done h) in
      let held = sum_same (λ x. cond (is_done (state_after st Start t) x) 0 (shared_need_of c.system x))
      (λ x. cond (is_done st x) 0 (shared_need_of c.system x))
      (λ x. ap (λ (b : Bool). cond b 0 (shared_need_of c.system x)) (same_done h x)) (activated_tasks c st) in
      let sums = order_sum (λ p x. cond (is_running_phase p) (shared_need_of c.system x) 0) Running h.activated in
      let was : cond (is_running_phase (phase_in st.phases t)) (shared_need_of c.system t) 0 ≡ 0 =
      ap (λ (p : Phase). cond (is_running_phase p) (shared_need_of c.system t) 0) h.idle in
      let counts = order_sum (λ p x. cond (is_running_phase p) 1 0) Running h.activated in
      let none : ◌≡◌ {A = ℕ} (cond (is_running_phase (phase_in st.phases t)) 1 0) 0 =
      ap (λ (p : Phase). cond (is_running_phase p) 1 0) h.idle in
      record {
        booked = omega (arith, here, held);
        used = omega (arith, here, sums, was);
        running = omega (arith, counts, none);
      }

  finish_change : MayFinish c st t → FreesNeed c st t
  finish_change h =
      let here = memory_later c.system (is_done st) (is_done (state_after st Finish t)) t
      (ap is_done_phase h.running) (so.ready t (busy h.running)) (λ u y. so.ready u (not_idle u y)) (finish_adds h) in
      let front = front_sum (λ p x. cond (is_done_phase p) 0 (shared_need_of c.system x)) Done (finishes_front h) in
      let held : cond (is_done_phase (phase_in st.phases t)) 0 (shared_need_of c.system t) ≡ shared_need_of c.system t =
      ap (λ (p : Phase). cond (is_done_phase p) 0 (shared_need_of c.system t)) h.running in
      let sums = order_sum (λ p x. cond (is_running_phase p) (shared_need_of c.system x) 0) Done (finishes_front h) in
      let was : cond (is_running_phase (phase_in st.phases t)) (shared_need_of c.system t) 0 ≡ shared_need_of c.system t =
      ap (λ (p : Phase). cond (is_running_phase p) (shared_need_of c.system t) 0) h.running in
      let counts = order_sum (λ p x. cond (is_running_phase p) 1 0) Done (finishes_front h) in
      let one : ◌≡◌ {A = ℕ} (cond (is_running_phase (phase_in st.phases t)) 1 0) 1 =
      ap (λ (p : Phase). cond (is_running_phase p) 1 0) h.running in
      record {
        booked = omega (arith, here, front, held);
        used = omega (arith, here, sums, was);
        running = omega (arith, counts, one);
      }

pub event_change : (c : Setting) → IsSetting c → (st : State) → IsSafe c st
    → (kind : EventKind) (t : ℕ) → MayHappen c st kind t → IsChange c st kind t
event_change c set st so Activate t h = activate_change c set st so t h
event_change c set st so Start t h = start_change c set st so t h
event_change c set st so Finish t h = finish_change c set st so t h
