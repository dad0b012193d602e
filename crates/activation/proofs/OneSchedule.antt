-- The rules of the schedule leave no choice.
use Rattle.std.proofs.Common.{◌≡◌, ℕ, List, [], ◌∷◌, ◌++◌, refl, sym, ◌∙◌, ap, arith, ⊎_elim}
use Rattle.std.proofs.lemmas.Bool.{cases_eq}
use Rattle.activation.specs.declared.events.Phase.TheVariants.{Idle, Running, Done}
use Rattle.activation.specs.declared.events.EventKind.{EventKind}
use Rattle.activation.specs.declared.events.EventKind.TheVariants.{Activate, Start, Finish}
use Rattle.activation.specs.declared.events.Event.{Event}
use Rattle.shared_systems.specs.Shared.{SharedTaskSystem}
use Rattle.mp_system.specs.Memory.{stands_in}
use Rattle.activation.specs.Machine.{Setting, IsSetting, State, phase_in, MayHappen, state_after, AllDone}
use Rattle.activation.specs.Runs.{AreLegal, state_after_all}
use Rattle.activation.specs.Safe.{IsSafe}
use Rattle.activation.specs.Schedule.{Moment, moment_after, StandsBefore, ComesNext, IsSchedule, first_moment, HoldsEach}
use Rattle.activation.proofs.Totals.{in_at}
use Rattle.activation.proofs.Premises.{StartSafe, Kept}
use Rattle.activation.proofs.Orders.{each, task_in_order, in_front, stands_once}
use Rattle.activation.proofs.Changes.{next_idle}
use Rattle.activation.proofs.Phases.{done_from, busy}

pub record IsSame (k l : EventKind) (x y t u : ℕ) : Type 0 where
  pub kind : k ≡ l
  pub time : x ≡ y
  pub task : t ≡ u

-- no two tasks stand before each other in a list that holds each once
not_both : (system : SharedTaskSystem) (xs : List ℕ) → HoldsEach system xs → (t u : ℕ) → StandsBefore xs t u → StandsBefore xs u t → ⊥
not_both system xs once t u a b =
    let e = stands_once system xs once t a.place b.later (omega (arith, a.before, a.within)) b.within a.here b.there in
    let f = stands_once system xs once u a.later b.place a.within (omega (arith, b.before, b.within)) a.there b.here in
    omega (arith, e, f, a.before, b.before)

module _ (c : Setting) (set : IsSetting c) (priority : List ℕ) (once : HoldsEach c.system priority) (m : Moment) where
  same_next : (k l : EventKind) (x y t u : ℕ) → ComesNext c priority m k x t → ComesNext c priority m l y u → IsSame k l x y t u
  same_next Activate Activate x y t u a b = record { kind = refl; time = a.now_is ∙ sym b.now_is; task = sym a.legal.next ∙ b.legal.next }
  same_next Activate Start x y t u a b = absurd (b.none_activates t a.legal)
  same_next Start Activate x y t u a b = absurd (a.none_activates u b.legal)
  same_next Start Start x y t u a b = record {
    kind = refl;
    time = a.now_is ∙ sym b.now_is;
    task = ⊎_elim (λ e. e)
        (λ n. absurd (not_both c.system priority once t u (a.first u b.legal (λ z. n (sym z))) (b.first t a.legal n))) (cases_eq t u);
  }
  same_next Finish Activate x y t u a b =
      absurd (⊎_elim (λ e. omega (arith, b.none_due t a.legal.running, a.due, e)) (λ q. q.1 u b.legal) a.now_or_idle)
  same_next Finish Start x y t u a b =
      absurd (⊎_elim (λ e. omega (arith, b.none_due t a.legal.running, a.due, e)) (λ q. q.2 u b.legal) a.now_or_idle)
  same_next Activate Finish x y t u a b =
      absurd (⊎_elim (λ e. omega (arith, a.none_due u b.legal.running, b.due, e)) (λ q. q.1 t a.legal) b.now_or_idle)
  same_next Start Finish x y t u a b =
      absurd (⊎_elim (λ e. omega (arith, a.none_due u b.legal.running, b.due, e)) (λ q. q.2 t a.legal) b.now_or_idle)
  same_next Finish Finish x y t u a b =
      let e : x ≡ y = omega (arith, a.least u b.legal.running, b.due, b.least t a.legal.running, a.due) in
      record {
        kind = refl;
        time = e;
        task = ⊎_elim (λ q. q) (λ n. absurd (not_both c.system c.order (each set) t u
            (a.first u b.legal.running (b.due ∙ sym e) (λ z. n (sym z))) (b.first t a.legal.running (a.due ∙ e) n)))
            (cases_eq t u);
      }

pub comes_legal : (c : Setting) (priority : List ℕ) (m : Moment) (k : EventKind) (x t : ℕ)
    → ComesNext c priority m k x t → MayHappen c m.state k t
comes_legal c priority m Activate x t a = a.legal
comes_legal c priority m Start x t a = a.legal
comes_legal c priority m Finish x t a = a.legal

-- nothing comes where every task is done
none_comes : (c : Setting) → IsSetting c → (priority : List ℕ) (m : Moment) → IsSafe c m.state
    → AllDone c m.state → (k : EventKind) (x t : ℕ) → ComesNext c priority m k x t → ⊥
none_comes c set priority m so done Activate x t a =
    let is = task_in_order c.system c.order (each set) t
    (ap (λ z. stands_in c.order z) (sym a.legal.next) ∙ in_at c.order m.state.activated a.legal.left) in
    let e : Idle ≡ Done = sym (next_idle c set m.state so t a.legal) ∙ done_from (phase_in m.state.phases t) (done t is) in cc
none_comes c set priority m so done Start x t a =
    let is = task_in_order c.system c.order (each set) t (in_front c.system c.order (each set) m.state.activated t a.legal.activated) in
    let e : Idle ≡ Done = sym a.legal.idle ∙ done_from (phase_in m.state.phases t) (done t is) in cc
none_comes c set priority m so done Finish x t a =
    let front = so.activated t (busy a.legal.running) in
    let is = task_in_order c.system c.order (each set) t (in_front c.system c.order (each set) m.state.activated t front) in
    let e : Running ≡ Done = sym a.legal.running ∙ done_from (phase_in m.state.phases t) (done t is) in cc

event_same : (e f : Event) → e.time ≡ f.time → e.kind ≡ f.kind → e.task ≡ f.task → e ≡ f
event_same e f x k t = λ i. record { time = x i; kind = k i; task = t i }

one_from : Kept → (c : Setting) → IsSetting c → (priority : List ℕ) → HoldsEach c.system priority → (m : Moment)
    → IsSafe c m.state → (es fs : List Event) → IsSchedule c priority m es → IsSchedule c priority m fs → es ≡ fs
one_from kept c set priority once m so [] [] a b = refl
one_from kept c set priority once m so [] (f ∷ fs) a b = absurd (none_comes c set priority m so a f.kind f.time f.task b.0)
one_from kept c set priority once m so (e ∷ es) [] a b = absurd (none_comes c set priority m so b e.kind e.time e.task a.0)
one_from kept c set priority once m so (e ∷ es) (f ∷ fs) a b =
    let s = same_next c set priority once m e.kind f.kind e.time f.time e.task f.task a.0 b.0 in
    let same : e ≡ f = event_same e f s.time s.kind s.task in
    let b' : IsSchedule c priority (moment_after c m e) fs = rw (← same) at b.1 in
    let rest = one_from kept c set priority once (moment_after c m e)
    (kept c set m.state so e.kind e.task (comes_legal c priority m e.kind e.time e.task a.0)) es fs a.1 b' in
    λ i. same i ∷ rest i

pub one_schedule : StartSafe → Kept → (c : Setting) → IsSetting c → (priority : List ℕ) → HoldsEach c.system priority
    → (es fs : List Event) → IsSchedule c priority (first_moment c) es → IsSchedule c priority (first_moment c) fs → es ≡ fs
one_schedule start kept c set priority once es fs a b = one_from kept c set priority once (first_moment c) (start c set) es fs a b

-- the events of a schedule are legal, and after them every task is done
pub schedule_legal : (c : Setting) (priority : List ℕ) (m : Moment) (es : List Event) → IsSchedule c priority m es → AreLegal c m.state es
schedule_legal c priority m [] h = tt
schedule_legal c priority m (e ∷ es) h =
    (comes_legal c priority m e.kind e.time e.task h.0, schedule_legal c priority (moment_after c m e) es h.1)

pub schedule_ends : (c : Setting) (priority : List ℕ) (m : Moment) (es : List Event)
    → IsSchedule c priority m es → AllDone c (state_after_all m.state es)
schedule_ends c priority m [] h = h
schedule_ends c priority m (e ∷ es) h = schedule_ends c priority (moment_after c m e) es h.1

-- the first of legal events are legal
pub legal_front : (c : Setting) (st : State) (before rest : List Event) → AreLegal c st (before ++ rest) → AreLegal c st before
legal_front c st [] rest h = tt
legal_front c st (e ∷ es) rest h = (h.0, legal_front c (state_after st e.kind e.task) es rest h.1)
