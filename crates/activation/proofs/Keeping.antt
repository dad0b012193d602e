-- The tables of a machine before and after each event.
use Rattle.std.proofs.Common.{◌≡◌, ◌≢◌, ℕ, ◌+◌, ◌-◌, ◌<◌, ◌≤◌, All, Bool, true, false, cond, not, ◌&&◌, List, [], ◌∷◌, ◌++◌}
use Rattle.std.proofs.Common.{length, get_or, set, refl, sym, subst, ◌∙◌, ap, arith, ⊎_elim, length-append}
use Rattle.std.specs.Prelude.{count_by, ◌==◌, nat_lt, slice_index}
use Rattle.std.specs.List.{sum_by}
use Rattle.std.proofs.Math.Path.{fun_ext}
use Rattle.limits.specs.Limits.{most_total}
use Rattle.std.proofs.lemmas.List.{get_or_read, length-take, get_or-take}
use Rattle.std.proofs.lemmas.List.Elements.{All-get_or}
use Rattle.row_table.specs.Rows.{row_at}
use Rattle.bit_rows.specs.Bits.{bit_in, IsFirstIn}
use Rattle.std.proofs.lemmas.Bool.{true≢false, cases_eq, cases_lt, eq-eqb, ne_eqb, ltb-true, lt-ltb, and_from}
use Rattle.std.proofs.Math.Bool.{or-true, or-false, and-true, and-false}
use Rattle.shared_systems.specs.Shared.{SharedItem, HasTask, shared_item_at, shared_need_of, own_inputs_of, shared_outputs_of}
use Rattle.mp_system.specs.Memory.{stands_in}
use Rattle.shared_systems.specs.SharedMemory.{has_inputs}
use Rattle.activation.specs.declared.events.Phase.{Phase}
use Rattle.activation.specs.declared.events.Phase.TheVariants.{Running, Done}
use Rattle.activation.specs.declared.events.EventKind.TheVariants.{Activate, Start, Finish}
use Rattle.activation.specs.Running.{RunningValue}
use Rattle.activation.specs.Machine.{Setting, State, phase_in, is_idle_phase, is_running_phase, is_done_phase, is_done}
use Rattle.activation.specs.Machine.{is_running, activated_tasks, MayActivate, MayStart, MayFinish, state_after}
use Rattle.activation.specs.Safe.{IsSafe}
use Rattle.activation.specs.Schedule.{task_entry, StandsBefore}
use Rattle.shared_systems.specs.Freed.{freed_by}
use Rattle.activation.proofs.LastReaders.{ReadsRow, reads_row}
use Rattle.activation.specs.Changes.{BooksNeed, UsesNeed, FreesNeed}
use Rattle.activation.specs.Tables.{CoreTables, AreCoreTables, AreByPlace, AreLeft, AreStartable, awaited, is_edge, is_startable}
use Rattle.activation.specs.Tables.{shared_items_of, numbers_read, readers_left}
use Rattle.activation.proofs.Totals.{place_in, in_at}
use Rattle.activation.proofs.Numbers.{number_read}
use Rattle.activation.proofs.Phases.{phase_read, running_from, phase_written, with_phase_same, with_phase_other}
use Rattle.activation.proofs.Orders.{each, task_in_order, task_has_place, in_front}
use Rattle.activation.proofs.Changes.{same_done, finish_adds, finishes_front}
use Rattle.activation.proofs.Awaiting.{awaited_same, awaited_later}
use Rattle.activation.proofs.Startables.{ready_counted, stands_appended, still, activated_is, stays, started_is, keeps_mark, reader_is}
use Rattle.activation.proofs.Startables.{one_written}
use Rattle.std.specs.Cmp.{both_ways}

-- what may start is startable
pub start_startable : (c : Setting) (st : State) (task : ℕ) → MayStart c st task → is_startable c st task ≡ true
start_startable c st task h = and_from _ _ h.activated (and_from _ _ (ap is_idle_phase h.idle) h.ready)

left_same : (done other : ℕ → Bool) → ((u : ℕ) → done u ≡ other u) → (x : SharedItem) → readers_left done x ≡ readers_left other x
left_same done other same x = ap (λ (f : ℕ → Bool). readers_left f x) (fun_ext same)

module _ {c : Setting} {st : State} {x : CoreTables} (a : AreCoreTables c st x) where
  -- the task at a place of the order
  pub task_here : (k : ℕ) → k < length c.order → HasTask c.system (slice_index c.order k)
  task_here k w = All-get_or (HasTask c.system) c.order k 0 w a.setting.traversal.tasks

  pub read_here : (k task : ℕ) → k < length c.order → task ≡ get_or c.order k task → slice_index c.order k ≡ task
  read_here k task w e = sym (get_or_read c.order k task w e 0)

  -- an activated task is one of the system
  pub front_is_task : (task : ℕ) → stands_in (activated_tasks c st) task ≡ true → HasTask c.system task
  front_is_task task h =
      task_in_order c.system c.order (each a.setting) task (in_front c.system c.order (each a.setting) st.activated task h)

  pub start_is_task : (task : ℕ) → MayStart c st task → HasTask c.system task
  start_is_task task h = front_is_task task h.activated

  pub finish_is_task : (task : ℕ) → MayFinish c st task → HasTask c.system task
  finish_is_task task h = front_is_task task (finishes_front c a.setting st a.safe task h)

  -- where a task is left to activate
  module _ {task n : ℕ} (left : st.activated < length c.order)
      (next : slice_index c.order st.activated ≡ task) (cost : n ≡ shared_need_of c.system task) where
    pub may_activate : n ≤ c.bound - x.booked → MayActivate c st task
    may_activate fits = record { left = left; next = next; fits = omega (arith, cost, a.booked_is, a.safe.booked) }

    pub may_not_activate : c.bound - x.booked < n → (other : ℕ) → MayActivate c st other → ⊥
    may_not_activate tight other h =
        let same : task ≡ other = sym next ∙ h.next in
        omega (arith, cost, ap (shared_need_of c.system) same, a.booked_is, h.fits)

  -- the place of a task tells whether it is activated
  place_is : (task : ℕ) → HasTask c.system task
      → (k : ℕ) × (k < length c.order) × (get_or c.order k 0 ≡ task) × (task_entry x.fixed.places task ≡ k)
  place_is task is =
      let p = place_in c.order task (task_has_place c.system c.order (each a.setting) task is) in
      (p.0, p.1, p.2, ap (task_entry x.fixed.places) (sym p.2) ∙ a.fixed.places_are p.0 p.1)

  pub activated_by_place : (task : ℕ) → HasTask c.system task
      → task_entry x.fixed.places task < st.activated → stands_in (activated_tasks c st) task ≡ true
  activated_by_place task is lt =
      let p = place_is task is in
      let w : p.0 < st.activated = omega (arith, p.3, lt) in
      let e = get_or-take st.activated c.order p.0 0 w in
      ap (λ t. stands_in (activated_tasks c st) t) (sym (e ∙ p.2))
      ∙ in_at (activated_tasks c st) p.0 (omega (arith, length-take st.activated c.order, p.1))

  pub place_of_activated : (task : ℕ) → HasTask c.system task
      → stands_in (activated_tasks c st) task ≡ true → task_entry x.fixed.places task < st.activated
  place_of_activated task is front =
      let p = place_in (activated_tasks c st) task front in
      let len = length-take st.activated c.order in
      let w : p.0 < st.activated = omega (arith, len, p.1) in
      let e = get_or-take st.activated c.order p.0 0 w in
      let at : task_entry x.fixed.places task ≡ p.0 =
      ap (task_entry x.fixed.places) (sym (sym e ∙ p.2)) ∙ a.fixed.places_are p.0 (omega (arith, len, p.1)) in
      omega (arith, at, w)

  -- what is read of the places
  pub place_found : (task p : ℕ) → HasTask c.system task → p ≡ get_or x.fixed.places (task - 1) p
      → (p < length c.order) × (slice_index c.order p ≡ task)
  place_found task p is e =
      let q = place_is task is in
      let same : p ≡ q.0 = number_read x.fixed.places task p is.0 (omega (arith, is.1, a.fixed.places_length)) e ∙ q.3 in
      (omega (arith, same, q.1), ap (λ k. get_or c.order k 0) same ∙ q.2)

  -- what is read of the task at a place
  module _ {k task : ℕ} (w : k < length c.order) (here : slice_index c.order k ≡ task) where
    is : HasTask c.system task
    is = subst (HasTask c.system) here (task_here k w)

    pub number_here : {n : ℕ} {tells : ℕ → ℕ → Type 0} {numbers : List ℕ}
        → AreByPlace c.order tells numbers → n ≡ get_or numbers k n → tells task n
    number_here {n} {tells} {numbers} are e = subst (λ t. tells t n) here
        (subst (tells (slice_index c.order k)) (sym (get_or_read numbers k n (omega (arith, w, are.long)) e 0)) (are.each k w))

    at : task_entry x.fixed.places task ≡ k
    at = ap (task_entry x.fixed.places) (sym here) ∙ a.fixed.places_are k w

    pub front_read : stands_in (activated_tasks c st) task ≡ nat_lt k st.activated
    front_read = both_ways _ _ (λ h. lt-ltb _ _ (omega (arith, at, place_of_activated task is h)))
        (λ h. activated_by_place task is (omega (arith, at, ltb-true _ _ h)))

    phase_here : {q : Phase} → q ≡ get_or st.phases (task - 1) q → q ≡ phase_in st.phases task
    phase_here {q} e = phase_read st.phases task q is.0 (omega (arith, is.1, a.safe.phases)) e

    pub runs_here : {q : Phase} → q ≡ get_or st.phases (task - 1) q → is_running_phase q ≡ true → MayFinish c st task
    runs_here e on = record { running = running_from (phase_in st.phases task) (ap is_running_phase (sym (phase_here e)) ∙ on) }

    pub rests_here : {q : Phase} → q ≡ get_or st.phases (task - 1) q → is_running_phase q ≡ false → MayFinish c st task → ⊥
    rests_here e off h = true≢false (sym (ap is_running_phase (phase_here e ∙ h.running)) ∙ off)

    pub ready_read : {n : ℕ} → n ≡ get_or x.waiting k n → has_inputs c.system (is_done st) task ≡ (n == 0)
    ready_read {n} e = ready_counted c.system (is_done st) task n (number_here a.waiting_are e)

  -- after an activation
  module _ {task n : ℕ} (h : MayActivate c st task) (cost : n ≡ shared_need_of c.system task) where
    pub activated_tables : IsSafe c (state_after st Activate task) → BooksNeed c st task →
        {m : ℕ} → m ≡ get_or x.waiting st.activated m → AreCoreTables c (state_after st Activate task)
        (record x { startable = set x.startable st.activated (m == 0); booked = x.booked + n })
    activated_tables safe change {m} waits = record {
      setting = a.setting;
      few_workers = a.few_workers;
      safe = safe;
      fixed = a.fixed;
      waiting_are = a.waiting_are;
      startable_are = one_written c a.setting st a.safe task (state_after st Activate task) x.startable a.startable_are
          st.activated (m == 0) h.left h.next (still c a.setting st a.safe task h)
          (activated_is c a.setting st a.safe task h ∙ ready_read h.left h.next waits);
      left_are = a.left_are;
      running_room = a.running_room;
      running_numbers = a.running_numbers;
      running_length = a.running_length;
      running_are = a.running_are;
      booked_is = omega (arith, a.booked_is, change.booked, cost);
      used_is = a.used_is;
    }

  -- where a task may start, a worker is free
  pub start_room : (task : ℕ) → MayStart c st task → length x.running.listed < x.running.room
  start_room task h = omega (arith, a.running_length, a.running_room, h.free)

  -- the place of a task that may start is in the row, and the first place of the row has the one that stands first in the order
  place_of_start : (u : ℕ) → MayStart c st u → (k : ℕ) × (k < length c.order) × (slice_index c.order k ≡ u) × (bit_in x.startable k ≡ true)
  place_of_start u h =
      let p = place_in c.order u (in_front c.system c.order (each a.setting) st.activated u h.activated) in
      (p.0, p.1, p.2, a.startable_are.each p.0 p.1 ∙ ap (is_startable c st) p.2 ∙ start_startable c st u h)

  pub first_before : (k : ℕ) → IsFirstIn x.startable k → (u : ℕ) → MayStart c st u → u ≢ slice_index c.order k
      → StandsBefore c.order (slice_index c.order k) u
  first_before k first u h other =
      let p = place_of_start u h in record {
        place = k;
        later = p.0;
        within = p.1;
        before =
            ⊎_elim
            (λ lt. absurd (true≢false (sym p.3 ∙ first.first p.0 lt)))
            (λ ge. ⊎_elim (λ lt. lt)
            (λ le. let same : p.0 ≡ k = omega arith in absurd (other (sym p.2 ∙ ap (slice_index c.order) same)))
            (cases_lt k p.0))
            (cases_lt p.0 k);
        here = refl;
        there = p.2;
      }

  pub none_may_start : ((k : ℕ) → bit_in x.startable k ≡ false) → (u : ℕ) → MayStart c st u → ⊥
  none_may_start none u h = let p = place_of_start u h in true≢false (sym p.3 ∙ none p.0)

  -- after a start
  module _ {task n : ℕ} (h : MayStart c st task) (cost : n ≡ shared_need_of c.system task) (change : UsesNeed c st task) where
    pub start_fits : IsSafe c (state_after st Start task) → x.used + n ≤ c.bound
    start_fits safe = omega (arith, a.used_is, cost, change.used, safe.used, safe.booked)

    pub started_tables : IsSafe c (state_after st Start task) → (now : RunningValue)
        → now.listed ≡ x.running.listed ++ task ∷ [] → now.room ≡ x.running.room → now.count ≡ x.running.count →
        (k : ℕ) → k < length c.order → slice_index c.order k ≡ task →
        AreCoreTables c (record { activated = st.activated; phases = set st.phases (task - 1) Running })
        (record x { startable = set x.startable k false; running = now; used = x.used + n })
    started_tables safe now listed room count k w at_k =
        let is = start_is_task task h in
        let here = with_phase_same st.phases task Running is.0 (omega (arith, is.1, a.safe.phases)) in
        let longer : length now.listed ≡ length x.running.listed + 1 = ap length listed ∙ length-append x.running.listed (task ∷ []) in
        let tables : AreCoreTables c (state_after st Start task)
        (record x { startable = set x.startable k false; running = now; used = x.used + n }) = record {
          setting = a.setting;
          few_workers = a.few_workers;
          safe = safe;
          fixed = a.fixed;
          waiting_are = record {
            long = a.waiting_are.long;
            each = λ k w. a.waiting_are.each k w ∙ sym (awaited_same c.system (is_done (state_after st Start task))
                (is_done st) (same_done c a.setting st a.safe task h) (slice_index c.order k));
          };
          startable_are = one_written c a.setting st a.safe task (state_after st Start task) x.startable a.startable_are k false
              w at_k (stays c a.setting st a.safe task h) (started_is c a.setting st a.safe task h);
          left_are = record {
            long = a.left_are.long;
            each = λ j lt. a.left_are.each j lt ∙ sym (left_same (is_done (state_after st Start task)) (is_done st)
                (same_done c a.setting st a.safe task h) (shared_item_at (shared_items_of c.system) j));
          };
          running_room = room ∙ a.running_room;
          running_numbers = count ∙ a.running_numbers;
          running_length = omega (arith, longer, a.running_length, change.running);
          running_are = λ t.
              ap (λ xs. stands_in xs t) listed ∙ stands_appended x.running.listed task t ∙
              ⊎_elim
              (λ e. let yes : (task == t) ≡ true = eq-eqb task t e in
              let on : is_running (state_after st Start task) t ≡ true =
              ap (λ u. is_running (state_after st Start task) u) (sym e) ∙ ap is_running_phase here in
              rw (yes, on) (or-true (stands_in x.running.listed t)))
              (λ d. let no : (task == t) ≡ false = ne_eqb task t d in
              let other : is_running (state_after st Start task) t ≡ is_running st t =
              ap is_running_phase (with_phase_other st.phases task t Running (λ z. d (sym z))) in
              rw (no, other) (or-false (stands_in x.running.listed t) ∙ a.running_are t))
              (cases_eq task t);
          booked_is = a.booked_is ∙ sym change.booked;
          used_is = omega (arith, a.used_is, change.used, cost);
        } in
        rw (phase_written st.phases task Running is.0) at tables

  -- after a finish
  module _ {task : ℕ} (h : MayFinish c st task) where
    fewer : (u : ℕ)
        → awaited c.system (is_done (state_after st Finish task)) u + count_by (is_edge task u) c.system.items
        ≡ awaited c.system (is_done st) u
    fewer u = awaited_later c.system (is_done st) (is_done (state_after st Finish task)) task
        (ap is_done_phase h.running) (finish_adds c a.setting st a.safe task h) u

    -- at its place the row of consumers has as many of each place as it takes off there
    module _ {k : ℕ} (w : k < length c.order) (here : slice_index c.order k ≡ task) where
      taken : (p : ℕ) → p < length c.order
          → count_by (λ q. q == p) (row_at x.fixed.consumers k) ≡ count_by (is_edge task (slice_index c.order p)) c.system.items
      taken p v = a.fixed.consumers_are.counts k p w v ∙ ap (λ t. count_by (is_edge t (slice_index c.order p)) c.system.items) here

      pub finish_within : All (λ p. p < length x.waiting) (row_at x.fixed.consumers k)
      finish_within i d v = omega (arith, a.fixed.consumers_are.within k w i d v, a.waiting_are.long)

      pub finish_enough : (p : ℕ) → p < length x.waiting → count_by (λ q. q == p) (row_at x.fixed.consumers k) ≤ slice_index x.waiting p
      finish_enough p v =
          let v' : p < length c.order = omega (arith, v, a.waiting_are.long) in
          omega (arith, taken p v', a.waiting_are.each p v', fewer (slice_index c.order p))

      pub finish_waiting : (waiting : List ℕ) → length waiting ≡ length x.waiting →
          ((p : ℕ) → p < length x.waiting
          → slice_index waiting p + count_by (λ q. q == p) (row_at x.fixed.consumers k) ≡ slice_index x.waiting p) →
          AreByPlace c.order (λ t n. n ≡ awaited c.system (is_done (state_after st Finish task)) t) waiting
      finish_waiting waiting len counts = record {
        long = len ∙ a.waiting_are.long;
        each = λ p v. omega (
          arith,
          taken p v,
          a.waiting_are.each p v,
          fewer (slice_index c.order p),
          counts p (omega (arith, v, a.waiting_are.long)),
        );
      }

      -- the places of that row are those whose mark may change
      pub finish_startable : (waiting : List ℕ)
          → AreByPlace c.order (λ t n. n ≡ awaited c.system (is_done (state_after st Finish task)) t) waiting
          → (places : List Bool) → length places ≡ length x.startable →
          ((p : ℕ) → p < length x.startable → 0 < count_by (λ q. q == p) (row_at x.fixed.consumers k)
          → bit_in places p ≡ (nat_lt p st.activated && (slice_index waiting p == 0))) →
          ((p : ℕ) → p < length x.startable → count_by (λ q. q == p) (row_at x.fixed.consumers k) ≡ 0
          → bit_in places p ≡ bit_in x.startable p) →
          AreStartable c (state_after st Finish task) places
      finish_startable waiting waits places len listed others = record {
        long = len ∙ a.startable_are.long;
        each = λ p v.
            let t = slice_index c.order p in
            let v' : p < length x.startable = omega (arith, v, a.startable_are.long) in
            ⊎_elim
            (λ (some : 0 < count_by (λ q. q == p) (row_at x.fixed.consumers k)).
            listed p v' some
            ∙ sym (reader_is c a.setting st a.safe task h t (omega (arith, taken p v, some))
            ∙ rw (
              front_read v refl,
              ready_counted c.system (is_done (state_after st Finish task)) t (slice_index waiting p) (waits.each p v),
            ) refl))
            (λ (le : count_by (λ q. q == p) (row_at x.fixed.consumers k) ≤ 0).
            others p v' (omega arith) ∙ a.startable_are.each p v
            ∙ sym (keeps_mark c a.setting st a.safe task h t (omega (arith, taken p v, le))))
            (cases_lt 0 (count_by (λ q. q == p) (row_at x.fixed.consumers k)));
      }

    -- at its place the row of readings has the shared items that it reads
    module _ {k : ℕ} (w : k < length c.order) (here : slice_index c.order k ≡ task) where
      pub finish_reads : ReadsRow c.system (is_done st) (is_done (state_after st Finish task)) task x.left x.fixed.sizes
          (row_at x.fixed.readings k)
      finish_reads =
          reads_row c.system a.setting.system.items (is_done st) (is_done (state_after st Finish task)) task
          (ap is_done_phase h.running) (finish_adds c a.setting st a.safe task h) x.left x.fixed.sizes (row_at x.fixed.readings k)
          (a.fixed.readings_are.rows_are k w ∙ ap (λ t. numbers_read t 0 (shared_items_of c.system)) here)
          a.fixed.sizes_are a.left_are

      pub finish_total : sum_by (slice_index x.fixed.sizes) (row_at x.fixed.readings k) ≤ most_total
      finish_total = omega (arith, finish_reads.total, a.setting.system.total)

      -- with the fixed part it makes what goes, less what the task leaves
      pub finish_freed : (n last : ℕ) → n + shared_outputs_of c.system task ≡ shared_need_of c.system task + own_inputs_of c.system task
          → last ≡ sum_by (λ j. cond (slice_index x.left j == 1) (slice_index x.fixed.sizes j) 0) (row_at x.fixed.readings k)
          → n + last + shared_outputs_of c.system task ≡ shared_need_of c.system task + freed_by c.system (is_done st) task
      finish_freed n last fixed last_is = omega (arith, fixed, last_is, finish_reads.freed)

    module _ (n : ℕ) (freed : n + shared_outputs_of c.system task ≡ shared_need_of c.system task + freed_by c.system (is_done st) task)
        (change : FreesNeed c st task) where
      pub finish_frees : (n ≤ x.booked) × (n ≤ x.used)
      finish_frees = (omega (arith, freed, change.booked, a.booked_is), omega (arith, freed, change.used, a.used_is))

      pub finished_tables : IsSafe c (state_after st Finish task) → (now : RunningValue)
          → ((t : ℕ) → stands_in now.listed t ≡ (stands_in x.running.listed t && not (t == task))) →
          length now.listed + 1 ≡ length x.running.listed → now.room ≡ x.running.room → now.count ≡ x.running.count →
          (waiting : List ℕ) → AreByPlace c.order (λ t n. n ≡ awaited c.system (is_done (state_after st Finish task)) t) waiting →
          (places : List Bool) → AreStartable c (state_after st Finish task) places →
          (left : List ℕ) → AreLeft (is_done (state_after st Finish task)) (shared_items_of c.system) left →
          AreCoreTables c (record { activated = st.activated; phases = set st.phases (task - 1) Done })
          (record x { waiting = waiting; startable = places; left = left; running = now; booked = x.booked - n; used = x.used - n })
      finished_tables safe now listed shorter room count waiting waits places marks left lefts =
          let is = finish_is_task task h in
          let here = with_phase_same st.phases task Done is.0 (omega (arith, is.1, a.safe.phases)) in
          let tables : AreCoreTables c (state_after st Finish task)
          (record x { waiting = waiting; startable = places; left = left; running = now; booked = x.booked - n; used = x.used - n }) = record {
            setting = a.setting;
            few_workers = a.few_workers;
            safe = safe;
            fixed = a.fixed;
            waiting_are = waits;
            startable_are = marks;
            left_are = lefts;
            running_room = room ∙ a.running_room;
            running_numbers = count ∙ a.running_numbers;
            running_length = omega (arith, shorter, a.running_length, change.running);
            running_are = λ t.
                listed t ∙
                ⊎_elim
                (λ e. let yes : (t == task) ≡ true = eq-eqb t task e in
                let off : is_running (state_after st Finish task) t ≡ false =
                ap (λ u. is_running (state_after st Finish task) u) e ∙ ap is_running_phase here in
                rw (yes, off) (and-false (stands_in x.running.listed t)))
                (λ d. let no : (t == task) ≡ false = ne_eqb t task d in
                let other : is_running (state_after st Finish task) t ≡ is_running st t =
                ap is_running_phase (with_phase_other st.phases task t Done d) in
                rw (no, other) (and-true (stands_in x.running.listed t) ∙ a.running_are t))
                (cases_eq t task);
            booked_is = omega (arith, freed, change.booked, a.booked_is);
            used_is = omega (arith, freed, change.used, a.used_is);
          } in
          rw (phase_written st.phases task Done is.0) at tables
