-- What the trees of a run tell.
use Rattle.std.proofs.Common.{◌≡◌, ℕ, ◌<◌, ◌≤◌, Bool, true, false, List, [], length, map}
use Rattle.std.proofs.Common.{get_or, refl, sym, subst, ◌∙◌, ap, arith, ⊎_elim, inl}
use Rattle.std.specs.Prelude.{slice_index, Option, None, Some, IfSome}
use Rattle.std.proofs.lemmas.List.{get_or-replicate, length-replicate, length-map, get_or-map, get_or_past}
use Rattle.std.proofs.lemmas.Bool.{cases_lt, cases_Bool, true≢false}
use Rattle.std.proofs.lemmas.List.Elements.{All-get_or, All-contains}
use Rattle.shared_systems.specs.Shared.{SharedTaskSystem, HasTask}
use Rattle.activation.specs.declared.events.Event.{Event}
use Rattle.activation.specs.declared.events.EventKind.TheVariants.{Finish}
use Rattle.activation.specs.declared.events.Phase.{Phase}
use Rattle.activation.specs.declared.events.Phase.TheVariants.{Idle, Running}
use Rattle.activation.specs.Machine.{Setting, State, IsSetting, phase_in, is_running, is_running_phase, start_state, running_count}
use Rattle.activation.specs.declared.clock.Due.{Due}
use Rattle.activation.specs.Clock.{ClockValue, IsFirstDue, IsDueOf, has_place}
use Rattle.activation.specs.Safe.{IsSafe}
use Rattle.bit_rows.specs.Bits.{IsFirstIn}
use Rattle.activation.specs.Schedule.{task_entry, HoldsEach, Moment, FinishesNext, ComesNext}
use Rattle.activation.specs.Tables.{IsNumbering, is_startable}
use Rattle.activation.specs.Run.{RunTables, IsNextDue, IsFirstStartable, IsRun, IsRoom}
use Rattle.activation.proofs.Totals.{place_in}
use Rattle.activation.proofs.Orders.{each, in_front, task_has_place, stands_once}
use Rattle.activation.proofs.Premises.{Long}
use Rattle.activation.proofs.Phases.{busy, running_from}
use Rattle.activation.proofs.Lengths.{each_long}
use Rattle.activation.proofs.Safety.{phase_replicate, count_zero}
use Rattle.activation.proofs.Dues.{bit, found, place_at}
use Rattle.std.specs.List.{Contains, sum_by}

-- a priority that is told by places of an order
module _ (system : SharedTaskSystem) (order priority : List ℕ) (holds : HoldsEach system (map (slice_index order) priority)) where
  task_ranked : (r : ℕ) → r < length priority → HasTask system (get_or order (get_or priority r 0) 0)
  task_ranked r w =
      let f : ℕ → ℕ = slice_index order in
      subst (HasTask system) (get_or-map f priority r 0 0 w)
      (All-get_or (HasTask system) (map f priority) r 0 (omega (arith, w, length-map priority f)) holds.within)

  place_within : (r : ℕ) → r < length priority → get_or priority r 0 < length order
  place_within r w =
      ⊎_elim (λ lt. lt)
      (λ past. let none : get_or order (get_or priority r 0) 0 ≡ 0 = get_or_past order (get_or priority r 0) 0 past in
      absurd (omega (arith, none, (task_ranked r w).0)))
      (cases_lt (get_or priority r 0) (length order))

  module _ (orders : HoldsEach system order) (ranks : List ℕ)
      (places : (r : ℕ) → r < length priority → get_or ranks (get_or priority r 0) 0 ≡ r) where
    -- the rank of a place
    rank_of : (k : ℕ) → k < length order → (r : ℕ) × (r < length priority) × (get_or priority r 0 ≡ k) × (get_or ranks k 0 ≡ r)
    rank_of k w =
        let f : ℕ → ℕ = slice_index order in
        let task = get_or order k 0 in
        let p = place_in (map f priority) task
        (task_has_place system (map f priority) holds task (All-get_or (HasTask system) order k 0 w orders.within)) in
        let within : p.0 < length priority = omega (arith, p.1, length-map priority f) in
        let there : get_or order (get_or priority p.0 0) 0 ≡ task = sym (get_or-map f priority p.0 0 0 within) ∙ p.2 in
        let same = stands_once system order orders task (get_or priority p.0 0) k (place_within p.0 within) w there refl in
        (p.0, within, same, ap (λ j. get_or ranks j 0) (sym same) ∙ places p.0 within)

    ranks_of : length priority ≡ length order → length ranks ≡ length order → IsNumbering (length order) ranks
    ranks_of same long = record {
      long = long;
      within = λ k w. let p = rank_of k w in omega (arith, p.1, p.3, same);
      once = λ j k wj wk e.
          let p = rank_of j wj in
          let q = rank_of k wk in
          let ranks' : p.0 ≡ q.0 = sym p.3 ∙ e ∙ q.3 in
          sym p.2 ∙ ap (λ r. get_or priority r 0) ranks' ∙ q.2;
    }

-- the task of a due of the clock runs
pub clock_runs : {c : Setting} {st : State} {time : ℕ} {x : RunTables} → IsRun c st time x → (i : ℕ) (d : Due) → i < length x.clock.dues →
    is_running st (slice_index c.order (get_or x.clock.dues i d).place) ≡ true
clock_runs {c} {st} {time} {x} r i d lt =
    let k = (get_or x.clock.dues i d).place in
    let some = place_at k x.clock.dues i d lt refl in
    let has = r.clock_has k (r.clock_is i d lt).within in
    ⊎_elim (λ y. y) (λ z. let none : sum_by (has_place k) x.clock.dues ≡ 0 = has ∙ ap bit z in absurd (omega (arith, some, none)))
    (cases_Bool (is_running st (slice_index c.order k)))

module _ {c : Setting} {st : State} {time : ℕ} {x : RunTables} (long' : Long)
    (set : IsSetting c) (safe : IsSafe c st) (r : IsRun c st time x) where
  long : length c.order ≡ length c.system.tasks
  long = long' c.system c.order set.traversal

  -- a running task's due is among those of the clock
  running_due : (d : Due) (u : ℕ) → phase_in st.phases u ≡ Running →
      (i : ℕ) × (i < length x.clock.dues) × (slice_index c.order (get_or x.clock.dues i d).place ≡ u)
      × ((get_or x.clock.dues i d).place < length c.order) × ((get_or x.clock.dues i d).time ≡ task_entry x.dues u)
  running_due d u run =
      let p = place_in c.order u (in_front c.system c.order (each set) st.activated u (safe.activated u (busy run))) in
      let some : sum_by (has_place p.0) x.clock.dues ≡ 1 =
      r.clock_has p.0 p.1 ∙ ap (λ t. bit (is_running st t)) p.2 ∙ ap (λ q. bit (is_running_phase q)) run in
      let f = found p.0 x.clock.dues d (omega (arith, some)) in
      let is = r.clock_is f.0 d f.1 in
      let there : slice_index c.order (get_or x.clock.dues f.0 d).place ≡ u = ap (slice_index c.order) f.2 ∙ p.2 in
      (f.0, f.1, there, is.within, is.time ∙ ap (task_entry x.dues) there)

  pub none_runs : x.clock.dues ≡ [] → (u : ℕ) → phase_in st.phases u ≡ Running → ⊥
  none_runs e u run =
      let p = running_due (record { time = 0; place = 0 }) u run in
      let none : length x.clock.dues ≡ 0 = ap length e in
      omega (arith, p.1, none)

  module _ (d : Due) (among : Contains x.clock.dues d) (first : IsFirstDue x.clock.dues d) where
    is_due : IsDueOf c.order x.dues d
    is_due = All-contains (IsDueOf c.order x.dues) x.clock.dues d r.clock_is among

    pub due_within : d.place < length c.order
    due_within = is_due.within

    pub due_time : d.time ≡ task_entry x.dues (slice_index c.order d.place)
    due_time = is_due.time

    pub none_before : (u : ℕ) → phase_in st.phases u ≡ Running → d.time ≤ task_entry x.dues u
    none_before u run = let p = running_due d u run in omega (arith, first.least p.0 d p.1, p.4)

    pub next_is_due : IsNextDue c (record { state = st; time = time; dues = x.dues }) (slice_index c.order d.place)
    next_is_due =
        let run : is_running st (slice_index c.order d.place) ≡ true =
        sym (ap (λ (e : Due). is_running st (slice_index c.order e.place)) among.2) ∙ clock_runs r among.0 d among.1 in
        record {
          running = running_from (phase_in st.phases (slice_index c.order d.place)) run;
          least = λ u q. omega (arith, none_before u q, is_due.time);
          first = λ u q e m.
              let p = running_due d u q in
              let place = (get_or x.clock.dues p.0 d).place in
              let le : d.place ≤ place = first.first p.0 d p.1 (p.4 ∙ e ∙ sym is_due.time) in
              let later : d.place < place =
              ⊎_elim (λ h. h) (λ h. let same : place ≡ d.place = omega arith in absurd (m (sym p.2 ∙ ap (slice_index c.order) same)))
              (cases_lt d.place place) in
              record { place = d.place; later = place; within = p.3; before = later; here = refl; there = p.2 };
        }

    -- where it is due by now, so is the task that is due next
    pub due_now : d.time ≤ time → (t : ℕ) → IsNextDue c (record { state = st; time = time; dues = x.dues }) t → task_entry x.dues t ≡ time
    due_now low t next =
        omega (arith, next.least (slice_index c.order d.place) next_is_due.running, due_time, low, r.not_past t next.running)

  pub first_is_startable : (rank : ℕ) → IsFirstIn x.ready rank
      → (get_or x.priority rank 0 < length c.order)
      × IsFirstStartable c (map (slice_index c.order) x.priority) st (slice_index c.order (get_or x.priority rank 0))
  first_is_startable rank first =
      let f : ℕ → ℕ = slice_index c.order in
      let within : rank < length x.priority = omega (arith, first.within, r.ready_long, r.ranked.long) in
      let place = get_or x.priority rank 0 in
      let inside : place < length c.order = place_within c.system c.order x.priority r.ranked.each rank within in
      let here : get_or x.ready rank false ≡ is_startable c st (get_or c.order place 0) =
      ap (λ k. get_or x.ready k false) (sym (r.ranked.places rank within)) ∙ r.ready_is place inside in (
        inside,
        record {
          task = task_ranked c.system c.order x.priority r.ranked.each rank within;
          startable = sym here ∙ first.here;
          first = λ u iu su m.
              let p = place_in c.order u (task_has_place c.system c.order (each set) u iu) in
              let q = rank_of c.system c.order x.priority r.ranked.each (each set) x.ranks r.ranked.places p.0 p.1 in
              let there : get_or x.ready q.0 false ≡ true =
              ap (λ k. get_or x.ready k false) (sym q.3) ∙ r.ready_is p.0 p.1 ∙ ap (is_startable c st) p.2 ∙ su in
              let task : get_or (map f x.priority) q.0 0 ≡ u = get_or-map f x.priority q.0 0 0 q.1 ∙ ap f q.2 ∙ p.2 in
              let later : rank < q.0 = ⊎_elim
              (λ lt. absurd (true≢false (sym there ∙ first.first q.0 lt)))
              (λ ge. ⊎_elim (λ h. h)
              (λ h. let same : q.0 ≡ rank = omega arith in
              absurd (m (sym p.2 ∙ ap f (sym q.2 ∙ ap (λ k. get_or x.priority k 0) same)))) (cases_lt rank q.0))
              (cases_lt q.0 rank) in
              record {
                place = rank;
                later = q.0;
                within = (let long = length-map x.priority f in omega (arith, q.1, long));
                before = later;
                here = get_or-map f x.priority rank 0 0 within;
                there = task;
              };
        },
      )

  pub none_startable : ((k : ℕ) → get_or x.ready k false ≡ false) → (u : ℕ) → HasTask c.system u → is_startable c st u ≡ false
  none_startable none u is =
      let p = place_in c.order u (task_has_place c.system c.order (each set) u is) in
      ap (is_startable c st) (sym p.2) ∙ sym (r.ready_is p.0 p.1) ∙ none (get_or x.ranks p.0 0)

-- at the start no task is startable
start_unstartable : (c : Setting) (t : ℕ) → is_startable c (start_state c) t ≡ false
start_unstartable c t = refl

-- a finish that comes next
pub finish_comes : (c : Setting) (priority : List ℕ) (m : Moment) (result : Option Event) → IfSome result (λ e. IsNextDue c m e.task) →
    IfSome result (λ e. e ≡ record { time = task_entry m.dues e.task; kind = Finish; task = e.task }) →
    ((t : ℕ) → IsNextDue c m t → task_entry m.dues t ≡ m.time) → IfSome result (λ e. ComesNext c priority m e.kind e.time e.task)
finish_comes c priority m None due event now = tt
finish_comes c priority m (Some e) due event now =
    let next : IsNextDue c m e.task = due in
    let finishes : FinishesNext c m (task_entry m.dues e.task) e.task =
    record {
      legal = record { running = next.running };
      due = refl;
      least = next.least;
      first = next.first;
      now_or_idle = inl (now e.task next);
    } in
    subst (λ (x : Event). ComesNext c priority m x.kind x.time x.task) (sym event) finishes

-- the run at its start
pub start_run : (c : Setting) (x : RunTables) → IsRoom c x → HoldsEach c.system c.order
    → (tasks priority ranks : List ℕ) → HoldsEach c.system tasks → map (slice_index c.order) priority ≡ tasks →
    length ranks ≡ length c.order → ((r : ℕ) → r < length priority → get_or ranks (get_or priority r 0) 0 ≡ r)
    → IsRun c (start_state c) 0 (record x { priority = priority; ranks = ranks })
start_run c x room orders tasks priority ranks holds are ranks_long places =
    let n = length c.system.tasks in
    let idle = phase_replicate n in
    let none : (t : ℕ) → phase_in (start_state c).phases t ≡ Running → ⊥ = λ t e. let k : Idle ≡ Running = sym (idle t) ∙ e in cc in
    let each' = subst (HoldsEach c.system) (sym are) holds in
    let same : length priority ≡ length c.order = sym (length-map priority (slice_index c.order))
    ∙ ap length are ∙ each_long c.system tasks holds ∙ sym (each_long c.system c.order orders) in
    let rs = ranks_of c.system c.order priority each' orders ranks places same ranks_long in
    let empty : length x.clock.dues ≡ 0 = ap (λ (k : ClockValue). length k.dues) room.clock_are in
    let zeros : running_count c (start_state c) ≡ 0 =
    count_zero (is_running (start_state c)) c.order (λ t h. ap is_running_phase (idle t)) in
    record {
      ranked = record { each = each'; long = same; ranks_are = rs; places = places };
      dues_long = ap length room.dues_are ∙ length-replicate n 0;
      clock_room = ap (λ (k : ClockValue). k.room) room.clock_are;
      clock_long = empty ∙ sym zeros;
      clock_has = λ k w. ap (λ (v : ClockValue). sum_by (has_place k) v.dues) room.clock_are
          ∙ sym (ap (λ (p : Phase). bit (is_running_phase p)) (idle (slice_index c.order k)));
      clock_is = λ k d w. absurd (omega (arith, w, empty));
      ready_long = ap length room.ready_are ∙ length-replicate (length c.order) false;
      ready_is = λ k w. ap (λ (xs : List Bool). get_or xs (get_or ranks k 0) false) room.ready_are
          ∙ get_or-replicate (length c.order) (get_or ranks k 0) false false (rs.within k w)
          ∙ sym (start_unstartable c (slice_index c.order k));
      not_past = λ t e. absurd (none t e);
      dues_small = λ t e. absurd (none t e);
      time_small = omega arith;
    }
