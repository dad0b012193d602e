-- The trees and tables of a run after each event.
use Rattle.std.proofs.Common.{◌≡◌, ◌≢◌, ℕ, ◌+◌, ◌-◌, ◌*◌, ◌<◌, ◌≤◌, Bool, false, cond, List, ◌∷◌, length}
use Rattle.std.proofs.Common.{get_or, set, refl, sym, ◌∙◌, ap, arith, ⊎_elim, IsPermutation}
use Rattle.std.specs.Prelude.{slice_index, count_by, ◌==◌}
use Rattle.std.proofs.lemmas.List.{length-set}
use Rattle.std.proofs.lemmas.Bool.{cases_eq, cases_lt, eq-eqb, ne_eqb, and_parts, cases_Bool, true≢false, false_from_ne_true}
use Rattle.limits.specs.Limits.{most_time}
use Rattle.shared_systems.specs.Shared.{HasTask}
use Rattle.activation.specs.declared.events.Phase.{Phase}
use Rattle.activation.specs.declared.events.Phase.TheVariants.{Running, Done}
use Rattle.activation.specs.declared.events.EventKind.TheVariants.{Activate, Start, Finish}
use Rattle.activation.specs.Machine.{Setting, IsSetting, State, phase_in, with_phase, is_running}
use Rattle.activation.specs.Machine.{is_running_phase, is_done, running_count}
use Rattle.activation.specs.Machine.{MayActivate, MayStart, MayFinish, state_after, AllDone}
use Rattle.activation.specs.Runs.{NoneRuns, CanBegin}
use Rattle.activation.specs.Safe.{IsSafe}
use Rattle.activation.specs.Schedule.{task_entry}
use Rattle.activation.specs.Tables.{is_edge, is_startable}
use Rattle.activation.specs.Run.{event_count, RunTables, IsRun, IsFirstStartable}
use Rattle.std.specs.List.{sum_by}
use Rattle.std.proofs.lemmas.List.Sorted.{length_permutation, All-permutation, sum_by_pushed, sum_by_popped}
use Rattle.std.proofs.lemmas.List.Elements.{All-cons, All-tail}
use Rattle.activation.specs.declared.clock.Due.{Due}
use Rattle.activation.specs.Clock.{ClockValue, IsDueOf, has_place}
use Rattle.activation.proofs.Dues.{bit, place_one, place_none}
use Rattle.activation.proofs.Clocks.{clock_runs}
use Rattle.activation.proofs.Numbers.{number_set_same, number_set_other}
use Rattle.activation.proofs.Phases.{with_phase_other, idle_from, running_from}
use Rattle.activation.proofs.Orders.{each, task_in_order, in_front, stands_once}
use Rattle.activation.proofs.Changes.{is_changed, finishes_front}
use Rattle.activation.proofs.Counting.{count_step}
use Rattle.activation.proofs.Startables.{still, stays, keeps_mark}

module _ {c : Setting} {st : State} {time : ℕ} {x : RunTables} (set' : IsSetting c) (safe : IsSafe c st) (r : IsRun c st time x) where
  -- a bound that grows
  small_more : (n : ℕ) (su : State) → n ≤ most_time * event_count c st
      → event_count c su ≡ event_count c st + 1 → n ≤ most_time * event_count c su
  small_more n su h e = omega (arith, h, e)

  -- the mark of one place is written anew
  marks_anew : (su : State) (place task : ℕ) (new : List Bool) → slice_index c.order place ≡ task → place < length c.order →
      ((t : ℕ) → t ≢ task → is_startable c su t ≡ is_startable c st t) →
      ((k : ℕ) → k < length c.order
      → get_or new (get_or x.ranks k 0) false
      ≡ cond (place == k) (is_startable c su (slice_index c.order k)) (get_or x.ready (get_or x.ranks k 0) false)) →
      (k : ℕ) → k < length c.order → get_or new (get_or x.ranks k 0) false ≡ is_startable c su (slice_index c.order k)
  marks_anew su place task new here w same marks k v =
      ⊎_elim
      (λ (e : place ≡ k). marks k v
      ∙ ap (λ b. cond b (is_startable c su (slice_index c.order k)) (get_or x.ready (get_or x.ranks k 0) false)) (eq-eqb place k e))
      (λ n.
      let apart : slice_index c.order k ≢ task = λ z. n (stands_once c.system c.order (each set') task place k w v here z) in
      marks k v
      ∙ ap (λ b. cond b (is_startable c su (slice_index c.order k)) (get_or x.ready (get_or x.ranks k 0) false)) (ne_eqb place k n)
      ∙ r.ready_is k v ∙ sym (same (slice_index c.order k) apart))
      (cases_eq place k)

  -- after an activation
  module _ (task : ℕ) (h : MayActivate c st task) where
    pub activated_run : (new : List Bool) → length new ≡ length x.ready →
        ((k : ℕ) → k < length c.order
        → get_or new (get_or x.ranks k 0) false ≡ cond (st.activated == k)
        (is_startable c (state_after st Activate task) (slice_index c.order k)) (get_or x.ready (get_or x.ranks k 0) false)) →
        IsRun c (state_after st Activate task) time (record x { ready = new })
    activated_run new len marks =
        let su = state_after st Activate task in
        let count = count_step c set' st safe Activate task h in
        record {
          ranked = r.ranked;
          dues_long = r.dues_long;
          clock_room = r.clock_room;
          clock_long = r.clock_long;
          clock_has = r.clock_has;
          clock_is = r.clock_is;
          ready_long = len ∙ r.ready_long;
          ready_is = marks_anew su st.activated task new h.next h.left (still c set' st safe task h) marks;
          not_past = r.not_past;
          dues_small = λ t e. small_more (task_entry x.dues t) su (r.dues_small t e) count;
          time_small = small_more time su r.time_small count;
        }

  -- how often each place stands in the clock, when one task's phase changes
  module _ (task place : ℕ) (phase : Phase) (is : phase_in (with_phase st.phases task phase) task ≡ phase)
      (within : place < length c.order) (there : slice_index c.order place ≡ task) where
    has_changed : (n : ℕ → ℕ) → n place ≡ bit (is_running_phase phase) → ((k : ℕ) → k ≢ place → n k ≡ sum_by (has_place k) x.clock.dues) →
        (k : ℕ) → k < length c.order → n k ≡ bit (is_running_phase (phase_in (with_phase st.phases task phase) (slice_index c.order k)))
    has_changed n here others k w =
        ⊎_elim
        (λ e. ap n e ∙ here
        ∙ sym (ap (λ t. bit (is_running_phase (phase_in (with_phase st.phases task phase) t))) (ap (slice_index c.order) e ∙ there)
        ∙ ap (λ q. bit (is_running_phase q)) is))
        (λ d.
        let other : slice_index c.order k ≢ task = λ z. d (stands_once c.system c.order (each set') task k place w within z there) in
        others k d ∙ r.clock_has k w
        ∙ sym (ap (λ q. bit (is_running_phase q)) (with_phase_other st.phases task (slice_index c.order k) phase other)))
        (cases_eq k place)

  -- after a start
  module _ (task : ℕ) (d : Due) (h : MayStart c st task)
      (within : d.place < length c.order) (there : slice_index c.order d.place ≡ task) where
    task_is : HasTask c.system task
    task_is = task_in_order c.system c.order (each set') task (in_front c.system c.order (each set') st.activated task h.activated)

    pub started_run : (low : time ≤ d.time) → (high : d.time ≤ time + most_time)
        → (clock : ClockValue) → clock.room ≡ x.clock.room → IsPermutation (d ∷ x.clock.dues) clock.dues →
        running_count c (state_after st Start task) ≡ running_count c st + 1 → (new : List Bool) → length new ≡ length x.ready →
        ((k : ℕ) → k < length c.order
        → get_or new (get_or x.ranks k 0) false ≡ cond (d.place == k)
        (is_startable c (state_after st Start task) (slice_index c.order k)) (get_or x.ready (get_or x.ranks k 0) false)) →
        IsRun c (state_after st Start task) time (record x { dues = set x.dues (task - 1) d.time; clock = clock; ready = new })
    started_run low high clock room moved more new len marks =
        let due = d.time in
        let in' = task_is in
        let su = state_after st Start task in
        let newdues : List ℕ = set x.dues (task - 1) due in
        let mine : task_entry newdues task ≡ due = number_set_same x.dues task due in'.0 (omega (arith, in'.1, r.dues_long)) in
        let others : (u : ℕ) → u ≢ task → task_entry newdues u ≡ task_entry x.dues u = λ u n. number_set_other x.dues task u due in'.0 n in
        let is = is_changed c set' st safe task h.activated Running in
        let count = count_step c set' st safe Start task h in
        let old : (u : ℕ) → u ≢ task → phase_in (with_phase st.phases task Running) u ≡ Running → phase_in st.phases u ≡ Running =
        λ u n e. sym (with_phase_other st.phases task u Running n) ∙ e in
        record {
          ranked = r.ranked;
          dues_long = length-set x.dues (task - 1) due ∙ r.dues_long;
          clock_room = room ∙ r.clock_room;
          clock_long = omega (arith, length_permutation (d ∷ x.clock.dues) clock.dues moved, r.clock_long, more);
          clock_has = has_changed task d.place Running is within there (λ k. sum_by (has_place k) clock.dues)
              (let pushed = sum_by_pushed (has_place d.place) d x.clock.dues clock.dues moved in
              let one = place_one d.place d refl in
              let none : sum_by (has_place d.place) x.clock.dues ≡ 0 =
              r.clock_has d.place within ∙ ap (λ t. bit (is_running st t)) there ∙ ap (λ q. bit (is_running_phase q)) h.idle in
              omega (arith, pushed, one, none))
              (λ k n.
              let pushed = sum_by_pushed (has_place k) d x.clock.dues clock.dues moved in
              let none = place_none k d (λ e. n (sym e)) in
              omega (arith, pushed, none));
          clock_is = All-permutation (IsDueOf c.order newdues) (d ∷ x.clock.dues) clock.dues moved
              (All-cons (IsDueOf c.order newdues) d x.clock.dues
              (record { within = within; time = sym (ap (task_entry newdues) there ∙ mine) })
              (λ i e w.
              let other = r.clock_is i e w in
              let u = slice_index c.order (get_or x.clock.dues i e).place in
              let apart : u ≢ task = λ z. true≢false (sym (clock_runs r i e w) ∙ ap (is_running st) z ∙ ap is_running_phase h.idle) in
              record { within = other.within; time = other.time ∙ sym (others u apart) }));
          ready_long = len ∙ r.ready_long;
          ready_is = marks_anew su d.place task new there within (stays c set' st safe task h) marks;
          not_past = λ u e.
              ⊎_elim
              (λ z. let due' : task_entry newdues u ≡ due = ap (task_entry newdues) z ∙ mine in omega (arith, due', low))
              (λ n. omega (arith, others u n, r.not_past u (old u n e)))
              (cases_eq u task);
          dues_small = λ u e.
              ⊎_elim
              (λ z. let due' : task_entry newdues u ≡ due = ap (task_entry newdues) z ∙ mine in
              omega (arith, due', high, r.time_small, count))
              (λ n. omega (arith, others u n, r.dues_small u (old u n e), count))
              (cases_eq u task);
          time_small = small_more time su r.time_small count;
        }

  -- after a finish
  module _ (task : ℕ) (d : Due) (h : MayFinish c st task)
      (within : d.place < length c.order) (there : slice_index c.order d.place ≡ task) where
    pub finished_run : d.time ≡ task_entry x.dues task → ((u : ℕ) → phase_in st.phases u ≡ Running → d.time ≤ task_entry x.dues u) →
        (clock : ClockValue) → clock.room ≡ x.clock.room → IsPermutation x.clock.dues (d ∷ clock.dues)
        → running_count c (state_after st Finish task) + 1 ≡ running_count c st →
        (new : List Bool) → length new ≡ length x.ready →
        ((k : ℕ) → k < length c.order → 0 < count_by (is_edge task (slice_index c.order k)) c.system.items
        → get_or new (get_or x.ranks k 0) false ≡ is_startable c (state_after st Finish task) (slice_index c.order k)) →
        ((k : ℕ) → k < length c.order → count_by (is_edge task (slice_index c.order k)) c.system.items ≡ 0
        → get_or new (get_or x.ranks k 0) false ≡ get_or x.ready (get_or x.ranks k 0) false) →
        IsRun c (state_after st Finish task) d.time (record x { clock = clock; ready = new })
    finished_run due_is least clock room moved fewer new len consumers others =
        let su = state_after st Finish task in
        let is = is_changed c set' st safe task (finishes_front c set' st safe task h) Done in
        let count = count_step c set' st safe Finish task h in
        let apart : (u : ℕ) → phase_in (with_phase st.phases task Done) u ≡ Running → u ≢ task = λ u e z.
        let k : Done ≡ Running = sym is ∙ ap (phase_in (with_phase st.phases task Done)) (sym z) ∙ e in cc in
        let old : (u : ℕ) → phase_in (with_phase st.phases task Done) u ≡ Running → phase_in st.phases u ≡ Running =
        λ u e. sym (with_phase_other st.phases task u Done (apart u e)) ∙ e in
        record {
          ranked = r.ranked;
          dues_long = r.dues_long;
          clock_room = room ∙ r.clock_room;
          clock_long = omega (arith, length_permutation x.clock.dues (d ∷ clock.dues) moved, r.clock_long, fewer);
          clock_has = has_changed task d.place Done is within there (λ k. sum_by (has_place k) clock.dues)
              (let popped = sum_by_popped (has_place d.place) d x.clock.dues clock.dues moved in
              let one = place_one d.place d refl in
              let old : sum_by (has_place d.place) x.clock.dues ≡ 1 =
              r.clock_has d.place within ∙ ap (λ t. bit (is_running st t)) there ∙ ap (λ q. bit (is_running_phase q)) h.running in
              omega (arith, popped, one, old))
              (λ k n.
              let popped = sum_by_popped (has_place k) d x.clock.dues clock.dues moved in
              let none = place_none k d (λ e. n (sym e)) in
              omega (arith, popped, none));
          clock_is = All-tail (IsDueOf c.order x.dues) d clock.dues
              (All-permutation (IsDueOf c.order x.dues) x.clock.dues (d ∷ clock.dues) moved r.clock_is);
          ready_long = len ∙ r.ready_long;
          ready_is = λ k v.
              let t = slice_index c.order k in
              ⊎_elim
              (λ (some : 0 < count_by (is_edge task t) c.system.items). consumers k v some)
              (λ (le : count_by (is_edge task t) c.system.items ≤ 0).
              let none : count_by (is_edge task t) c.system.items ≡ 0 = omega arith in
              others k v none ∙ r.ready_is k v ∙ sym (keeps_mark c set' st safe task h t none))
              (cases_lt 0 (count_by (is_edge task t) c.system.items));
          not_past = λ u e. least u (old u e);
          dues_small = λ u e. small_more (task_entry x.dues u) su (r.dues_small u (old u e)) count;
          time_small = omega (arith, due_is, r.dues_small task h.running, count);
        }

-- where the first startable task may not start, none may
pub no_start : {c : Setting} {priority : List ℕ} {st : State} {t : ℕ}
    → IsFirstStartable c priority st t → (MayStart c st t → ⊥) → (u : ℕ) → MayStart c st u → ⊥
no_start {c} {priority} {st} {t} f not u h =
    let p = and_parts _ _ f.startable in
    let q = and_parts _ _ p.1 in
    not (record { activated = p.0; idle = idle_from (phase_in st.phases t) q.0; ready = q.1; free = h.free })

pub may_start_task : (c : Setting) → IsSetting c → (st : State) (t : ℕ) → MayStart c st t → HasTask c.system t
may_start_task c set st t h = task_in_order c.system c.order (each set) t (in_front c.system c.order (each set) st.activated t h.activated)

-- where nothing runs and no task may be activated or start, every task is done
pub all_done : (c : Setting) (st : State) → (NoneRuns st → (AllDone c st → ⊥) → CanBegin c st)
    → ((u : ℕ) → phase_in st.phases u ≡ Running → ⊥) → ((u : ℕ) → MayActivate c st u → ⊥) → ((u : ℕ) → MayStart c st u → ⊥) → AllDone c st
all_done c st begins f a s t is =
    ⊎_elim
    (λ y. y)
    (λ n. ⊎_elim (λ p. absurd (a p.0 p.1)) (λ p. absurd (s p.0 p.1))
    (begins (λ u. false_from_ne_true (is_running st u) (λ z. f u (running_from (phase_in st.phases u) z)))
    (λ all. true≢false (sym (all t is) ∙ n))))
    (cases_Bool (is_done st t))
