-- The moment of a blocker is a moment, and so evidence bounds the peak of every traversal.
use Rattle.std.proofs.Common.{◌≡◌, ℕ, ◌+◌, ◌-◌, ◌<◌, ◌≤◌, Bool, true, false, not, ◌&&◌, ◌||◌, eqb, eq-eqb, inl, inr, List, [], ◌∷◌}
use Rattle.std.proofs.Common.{length, get_or, refl, sym, ap, subst, ◌∙◌, arith}
use Rattle.std.specs.Prelude.{ℤ, pos, ◌≤ℤ◌}
use Rattle.std.specs.List.{list_any, list_all}
use Rattle.std.proofs.lemmas.Int.{ints}
use Rattle.std.proofs.lemmas.Bool.{eqb-true, and_parts, and_from, or_left, or_right, and_right, cases_eq, ne_eqb, le-leb, cases_Bool, not_from_false}
use Rattle.std.proofs.lemmas.List.{ext_get_or, length-map, get_or-map}
use Rattle.std.proofs.lemmas.List.FromFn.{length-map-range_with_len}
use Rattle.std.proofs.lemmas.List.Folds.{list_any_at}
use Rattle.std.proofs.lemmas.List.Sums.{sum_by-cons}
use Rattle.lists.proofs.Bools.{same_bool}
use Rattle.lists.specs.Numbers.{IsPlace}
use Rattle.mp_system.specs.Memory.{stands_in}
use Rattle.mp_system.specs.Replay.{is_marked}
use Rattle.shared_systems.specs.Shared.{SharedTaskSystem, SharedItem, HasTask, is_read_by, shared_size_if, shared_size_where}
use Rattle.shared_systems.specs.SharedMemory.{is_held, are_done, is_made, has_inputs, shared_peak_of}
use Rattle.shared_systems.specs.SharedTraversal.{IsSharedTraversal}
use Rattle.shared_systems.specs.Bounds.{IsSharedSystem}
use Rattle.shared_systems.specs.Paths.{reads_from, ComesAfter, reads, over}
use Rattle.shared_systems.proofs.PeakBounds.{peak_state, peak_running}
use Rattle.peak_bounds.specs.declared.step.Event.{Event}
use Rattle.peak_bounds.specs.declared.step.Event.TheVariants.{First, Last}
use Rattle.peak_bounds.specs.declared.evidence.Evidence.{Evidence}
use Rattle.peak_bounds.specs.declared.evidence.Evidence.TheVariants.{Start, Need, Set}
use Rattle.peak_bounds.specs.declared.evidence.BlockerTest.TheVariants as tests
use Rattle.peak_bounds.specs.EventSets.{BlockerValue, EventSetValue}
use Rattle.peak_bounds.specs.Moments.{Moment, FitSizes, IsMoment, is_done, is_waiting, feeds, is_fed, level_of}
use Rattle.peak_bounds.specs.Steps.{Starts, early_from, late_from}
use Rattle.peak_bounds.specs.Evidence.{use_count, task_of, set_tasks, HasRun, Waits, IsMomentOf, blocker_at, Passes, IsEventSet, memory_at_start, memory_of_task, IsEvidence}
use Rattle.peak_bounds.proofs.Lists.{marked_within, split_at}
use Rattle.peak_bounds.proofs.Orders.{stands, alone_at}
use Rattle.peak_bounds.proofs.AtMoment.{moment-le}
use Rattle.peak_bounds.proofs.Within.{starts_from, carries_start}
use Rattle.peak_bounds.proofs.Following.{found_at, feeds_by, fed_by, has_inputs_by, maker_task, taker_task, joined, first_step}

-- ---- the one moment of a blocker

pub same_marks : (n : ℕ) (xs ys : List Bool) → length xs ≡ n → length ys ≡ n
    → ((v : ℕ) → 1 ≤ v → v ≤ n → is_marked xs v ≡ true → is_marked ys v ≡ true)
    → ((v : ℕ) → 1 ≤ v → v ≤ n → is_marked ys v ≡ true → is_marked xs v ≡ true) → xs ≡ ys
same_marks n xs ys len_x len_y there back = ext_get_or false xs ys (len_x ∙ sym len_y) (λ i lt.
    sym (at xs i) ∙ same_bool (is_marked xs (i + 1)) (is_marked ys (i + 1)) (there (i + 1) (omega arith) (omega (arith, lt, len_x)))
    (back (i + 1) (omega arith) (omega (arith, lt, len_x))) ∙ at ys i)
  where
    at : (marks : List Bool) (i : ℕ) → is_marked marks (i + 1) ≡ get_or marks i false
    at marks i = rw (le-leb 1 (i + 1) (omega arith)) (ap (λ (k : ℕ). get_or marks k false) (let e : i + 1 - 1 ≡ i = omega arith in e))

same_parts : (m w : Moment) → m.task ≡ w.task → m.done ≡ w.done → m.waiting ≡ w.waiting → m.lowered ≡ w.lowered → m ≡ w
same_parts m w task done waiting lowered =
    let one = ap (λ (t : ℕ). let p : Moment = record { task = t; done = m.done; waiting = m.waiting; lowered = m.lowered } in p) task in
    let two = ap (λ (l : List Bool). let p : Moment = record { task = w.task; done = l; waiting = m.waiting; lowered = m.lowered } in p) done in
    let three = ap (λ (l : List Bool). let p : Moment = record { task = w.task; done = w.done; waiting = l; lowered = m.lowered } in p) waiting in
    let four = ap (λ (l : List ℤ). let p : Moment = record { task = w.task; done = w.done; waiting = w.waiting; lowered = l } in p) lowered in
    one ∙ two ∙ three ∙ four

pub same_moment : (system : SharedTaskSystem) (set : EventSetValue) (b : BlockerValue) (m w : Moment)
    → IsMomentOf system set b m → IsMomentOf system set b w → m ≡ w
same_moment system set b m w is_m is_w = same_parts m w (is_m.task ∙ sym is_w.task)
    (same_marks (length system.tasks) m.done w.done is_m.done_len is_w.done_len
    (λ v low high e. is_w.done v (low, high) (is_m.has_run v (low, high) e)) (λ v low high e. is_m.done v (low, high) (is_w.has_run v (low, high) e)))
    (same_marks (length system.tasks) m.waiting w.waiting is_m.waiting_len is_w.waiting_len
    (λ v low high e. is_w.waiting v (low, high) (is_m.waits v (low, high) e)) (λ v low high e. is_m.waiting v (low, high) (is_w.waits v (low, high) e)))
    (is_m.lowered ∙ sym is_w.lowered)

-- ---- what is marked follows by the items

module _ (system : SharedTaskSystem) (is : IsSharedSystem system) (tasks : List ℕ) (t : ℕ) where
  none : ℕ → Bool
  none v = false

  module _ (event : Event) (done : ℕ → Bool) where
    abbrev AreRun : Type 0
    AreRun = (v : ℕ) → HasTask system v → HasRun system event tasks t v → done v ≡ true

    abbrev FollowsFor : ℕ → Type 0
    FollowsFor v = HasRun system event tasks t v → (early_from event (λ _. false) (stands_in tasks) t v || feeds system (λ u. eqb u t || done u) v) ≡ true

  module _ (done : ℕ → Bool) (v : ℕ) where
    fed_on : (w : ℕ) → reads_from system v w ≡ true → (eqb w t || done w) ≡ true → feeds system (λ u. eqb u t || done u) v ≡ true
    fed_on w e passes = feeds_by system (λ u. eqb u t || done u) v w e passes

  pub done_why : (event : Event) (done : ℕ → Bool) → AreRun event done → (v : ℕ) → FollowsFor event done v
  done_why First done are v = λ path.
      let step = first_step system v t path in
      fed_on done v step.0 step.1 (elim step.2 [
        | inl same ↦ or_left (eqb step.0 t) (done step.0) (eq-eqb step.0 t same)
        | inr left ↦ or_right (eqb step.0 t) (done step.0) (are step.0 (taker_task system is v step.0 step.1) left)
      ])
  done_why Last done are v = λ run. elim run [
    | inl other ↦ or_left (stands_in tasks v && not (eqb v t)) (feeds system (λ u. eqb u t || done u) v)
        (and_from (stands_in tasks v) (not (eqb v t)) other.0 (not_from_false (eqb v t) (ne_eqb v t other.1)))
    | inr before ↦ (
        let step = first_step system v before.0 before.2 in
        let w = step.0 in
        let task = taker_task system is v w step.1 in
        let passes : (eqb w t || done w) ≡ true = elim step.2 [
          | inl same ↦ elim (cases_eq w t) [
            | inl here ↦ or_left (eqb w t) (done w) (eq-eqb w t here)
            | inr apart ↦ or_right (eqb w t) (done w) (are w task (inl (ap (stands_in tasks) same ∙ before.1, apart)))
          ]
          | inr left ↦ or_right (eqb w t) (done w) (are w task (inr (before.0, before.1, left)))
        ] in
        or_right (stands_in tasks v && not (eqb v t)) (feeds system (λ u. eqb u t || done u) v) (fed_on done v w step.1 passes))
  ]

  pub state_why : (event : Event) (done : ℕ → Bool) → AreRun event done → (v : ℕ) → HasRun system event tasks t v → has_inputs system done v ≡ true
  state_why First done are v = λ path. has_inputs_by system done v (λ u e. are u (maker_task system is u v e) (joined system u v t (reads e) path))
  state_why Last done are v = λ run. has_inputs_by system done v (λ u e. are u (maker_task system is u v e) (inr (elim run [
    | inl other ↦ (v, other.0, reads e)
    | inr before ↦ (before.0, before.1, joined system u v before.0 (reads e) before.2)
  ])))

  module _ (event : Event) (waiting : ℕ → Bool) where
    abbrev AreWaiting : Type 0
    AreWaiting = (v : ℕ) → HasTask system v → Waits system event tasks t v → waiting v ≡ true

    abbrev WaitsFor : ℕ → Type 0
    WaitsFor v = Waits system event tasks t v → (late_from event (λ _. false) (stands_in tasks) t v || is_fed system waiting v) ≡ true

  -- the last step leads from one that waits
  after_first : (waiting : ℕ → Bool) (v u : ℕ) → stands_in tasks u ≡ true → AreWaiting First waiting → ComesAfter system u v → is_fed system waiting v ≡ true
  after_first waiting v u stands are (reads e) = fed_by system waiting u v e (are u (maker_task system is u v e) (inl stands))
  after_first waiting v u stands are (over {w} path e) = fed_by system waiting w v e (are w (maker_task system is w v e) (inr (u, stands, path)))

  after_last : (waiting : ℕ → Bool) (v : ℕ) → AreWaiting Last waiting → ComesAfter system t v → is_fed system waiting v ≡ true
  after_last waiting v are (reads e) = fed_by system waiting t v e (are t (maker_task system is t v e) (inl refl))
  after_last waiting v are (over {w} path e) = fed_by system waiting w v e (are w (maker_task system is w v e) (inr path))

  pub waiting_why : (event : Event) (waiting : ℕ → Bool) → AreWaiting event waiting → (v : ℕ) → WaitsFor event waiting v
  waiting_why First waiting are v = λ waits. elim waits [
    | inl stands ↦ or_left (stands_in tasks v) (is_fed system waiting v) stands
    | inr after ↦ or_right (stands_in tasks v) (is_fed system waiting v) (after_first waiting v after.0 after.1 are after.2)
  ]
  waiting_why Last waiting are v = λ waits. elim waits [
    | inl same ↦ or_left (eqb v t) (is_fed system waiting v) (eq-eqb v t same)
    | inr path ↦ or_right (eqb v t) (is_fed system waiting v) (after_last waiting v are path)
  ]

-- ---- the moment of a blocker that passes the tests

module _ (system : SharedTaskSystem) (is : IsSharedSystem system) (set : EventSetValue) (bound : ℕ) (place : ℕ)
    (sizes : Passes system set bound tests.Sizes place) (opens : Passes system set bound tests.Open place) where
  blocker_moment : (let m = opens.0 in let tasks = set_tasks set in
      IsMoment system (early_from set.event (λ _. false) (stands_in tasks) m.task) (late_from set.event (λ _. false) (stands_in tasks) m.task) m)
  blocker_moment =
      let m = opens.0 in
      let of = opens.1 in
      let tasks = set_tasks set in
      let run = λ (v : ℕ) (e : is_done m v ≡ true).
      (let within = marked_within m.done v e in let task : HasTask system v = (within.0, omega (arith, within.1, of.done_len)) in
      subst (λ (t : ℕ). HasRun system set.event tasks t v) (sym of.task) (of.has_run v task e)) in
      let wait = λ (v : ℕ) (e : is_waiting m v ≡ true).
      (let within = marked_within m.waiting v e in let task : HasTask system v = (within.0, omega (arith, within.1, of.waiting_len)) in
      subst (λ (t : ℕ). Waits system set.event tasks t v) (sym of.task) (of.waits v task e)) in
      let are_run = λ (v : ℕ) (task : HasTask system v) (h : HasRun system set.event tasks m.task v).
      of.done v task (subst (λ (t : ℕ). HasRun system set.event tasks t v) of.task h) in
      let are_waiting = λ (v : ℕ) (task : HasTask system v) (h : Waits system set.event tasks m.task v).
      of.waiting v task (subst (λ (t : ℕ). Waits system set.event tasks t v) of.task h) in
      record {
        done_len = of.done_len;
        waiting_len = of.waiting_len;
        lowered_len = ap length of.lowered ∙ length-map-range_with_len _ 1 (use_count system);
        done = λ v e. done_why system is tasks m.task set.event (is_done m) are_run v (run v e);
        waiting = λ v e. waiting_why system is tasks m.task set.event (is_waiting m) are_waiting v (wait v e);
        state = λ v e. state_why system is tasks m.task set.event (is_done m) are_run v (run v e);
        lowered = subst (λ (l : List ℤ). FitSizes system.items l) (sym of.lowered) sizes;
        open_tasks = opens.2;
      }

-- ---- a bound by a set

module _ (set : EventSetValue) where
  task_at : (k : ℕ) → k < length set.blockers → get_or (set_tasks set) k 0 ≡ (blocker_at set (k + 1)).task
  task_at k lt =
      get_or-map task_of set.blockers k (record { task = 0; amounts = [] }) 0 lt
      ∙ ap (λ (i : ℕ). task_of (get_or set.blockers i (record { task = 0; amounts = [] }))) (let e : k ≡ k + 1 - 1 = omega arith in e)

  first_stands : 1 ≤ length set.blockers → stands_in (set_tasks set) (blocker_at set 1).task ≡ true
  first_stands some =
      list_any_at (λ u. eqb u (blocker_at set 1).task) (set_tasks set) 0 0 (omega (arith, some, length-map set.blockers task_of))
      (eq-eqb (get_or (set_tasks set) 0 0) (blocker_at set 1).task (task_at 0 some))

  -- a task of the set is that of a blocker
  blocker_of : (t : ℕ) → stands_in (set_tasks set) t ≡ true → (k : ℕ) × (k < length set.blockers) × ((blocker_at set (k + 1)).task ≡ t)
  blocker_of t stands =
      let found = found_at (λ u. eqb u t) (set_tasks set) 0 stands in
      let lt : found.0 < length set.blockers = omega (arith, found.1, length-map set.blockers task_of) in
      (found.0, lt, sym (task_at found.0 lt) ∙ eqb-true (get_or (set_tasks set) found.0 0) t found.2)

module _ (system : SharedTaskSystem) (is : IsSharedSystem system) (order : List ℕ) (traversal : IsSharedTraversal system order) where
  set_bound : (set : EventSetValue) (bound : ℕ) → IsEventSet system set bound → bound ≤ shared_peak_of system order
  set_bound set bound evidence =
      let tasks = set_tasks set in
      let early = λ (t : ℕ). early_from set.event (λ _. false) (stands_in tasks) t in
      let late = λ (t : ℕ). late_from set.event (λ _. false) (stands_in tasks) t in
      let found = starts_from system order traversal set.event (λ _. false) (λ _. false) (stands_in tasks) (carries_start system order traversal set.event (stands_in tasks))
      (blocker_at set 1).task (evidence.each tests.Task 1 (omega arith, evidence.some)) (first_stands set evidence.some) in
      let by = blocker_of set found.0 found.1 in
      let place = by.0 + 1 in
      let is_place : IsPlace (length set.blockers) place = (omega arith, omega (arith, by.1)) in
      let opens = evidence.each tests.Open place is_place in
      let level = evidence.each tests.Level place is_place in
      let holds = blocker_moment system is set bound place (evidence.each tests.Sizes place is_place) opens in
      let starts = subst (λ (t : ℕ). Starts order (early t) (late t) t) (sym (opens.1.task ∙ by.2)) found.2 in
      let low = moment-le system order traversal (early opens.0.task) (late opens.0.task) opens.0 starts holds in
      let same = same_moment system set (blocker_at set place) level.0 opens.0 level.1 opens.1 in
      let high = subst (λ (m : Moment). pos bound ≤ℤ level_of system m) same level.2 in
      omega (arith, ints, low, high)

-- ---- a bound by a need

not_all : (done : ℕ → Bool) (t : ℕ) (readers : List ℕ) → done t ≡ false → list_any (λ c. eqb c t) readers ≡ true → list_all done readers ≡ false
not_all done t [] undone e = absurd cc
not_all done t (c ∷ cs) undone e = elim (cases_eq c t) [
  | inl same ↦ rw (ap done same ∙ undone) refl
  | inr other ↦ (
      let later : list_any (λ d. eqb d t) cs ≡ true = rw (ne_eqb c t other) at e in
      and_right (done c) (list_all done cs) (not_all done t cs undone later))
]

not_done : (done : ℕ → Bool) (t : ℕ) (readers : List ℕ) → done t ≡ false → list_any (λ c. eqb c t) readers ≡ true → are_done done readers ≡ false
not_done done t [] undone e = refl
not_done done t (c ∷ cs) undone e = not_all done t (c ∷ cs) undone e

module _ (done : ℕ → Bool) (t : ℕ) (undone : done t ≡ false) where
  -- what a task reads is held when it starts
  held-ge : (items : List SharedItem) → list_all (λ x. not (is_read_by t x) || is_made done x) items ≡ true
      → shared_size_where (is_read_by t) items ≤ shared_size_where (is_held done) items
  held-ge [] ready = omega arith
  held-ge (x ∷ items) ready =
      let parts = and_parts (not (is_read_by t x) || is_made done x) (list_all (λ y. not (is_read_by t y) || is_made done y) items) ready in
      let here : shared_size_if (is_read_by t) x ≤ shared_size_if (is_held done) x = elim (cases_Bool (is_read_by t x)) [
        | inl read ↦ (
            let made : is_made done x ≡ true = rw read at parts.0 in
            let held : is_held done x ≡ true = rw (made, not_done done t x.readers undone read) refl in
            let one : shared_size_if (is_read_by t) x ≡ x.size = rw read refl in
            let two : shared_size_if (is_held done) x ≡ x.size = rw held refl in
            omega (arith, one, two))
        | inr unread ↦ (
            let none : shared_size_if (is_read_by t) x ≡ 0 = rw unread refl in
            omega (arith, none))
      ] in
      omega (
        arith,
        here,
        held-ge items parts.1,
        sum_by-cons (shared_size_if (is_read_by t)) x items,
        sum_by-cons (shared_size_if (is_held done)) x items,
      )

module _ (system : SharedTaskSystem) (is : IsSharedSystem system) (order : List ℕ) (traversal : IsSharedTraversal system order) where
  need_bound : (t : ℕ) → HasTask system t → memory_of_task system t ≤ shared_peak_of system order
  need_bound t task =
      let at = split_at order t (stands system order traversal t task) in
      let high = peak_running system order at.before at.rest t at.split in
      let apart = (alone_at system order traversal at.before at.rest t at.split).before in
      let held = held-ge (stands_in at.before) t apart system.items (traversal.after_suppliers at.before at.rest t at.split) in
      omega (arith, high, held)

  start_bound : memory_at_start system ≤ shared_peak_of system order
  start_bound = peak_state system order [] order refl

  pub evidence_bound : (evidence : Evidence) (bound : ℕ) → IsEvidence system evidence bound → bound ≤ shared_peak_of system order
  evidence_bound Start bound h = omega (arith, h, start_bound)
  evidence_bound (Need t) bound h = omega (arith, h.1, need_bound t h.0)
  evidence_bound (Set set) bound h = set_bound system is order traversal set bound h
