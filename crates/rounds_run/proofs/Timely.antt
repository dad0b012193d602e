-- The schedule of tasks that take one unit of time each: what started when, along its events.
use Rattle.std.proofs.Common.{◌≡◌, ◌≢◌, ◌⊎◌, ℕ, zero, suc, ◌+◌, ◌<◌, ◌≤◌, max, inl, inr, Bool, true, false, eqb}
use Rattle.std.proofs.Common.{List, [], ◌∷◌, ◌++◌, length, take, map, refl, sym, ap, subst, ◌∙◌, arith}
use Rattle.std.specs.List.{All, filter, list_any, IsDistinct}
use Rattle.std.specs.Cmp.{nat_eq_equiv}
use Rattle.std.proofs.lemmas.Bool.{cases_eq, false_from_ne_true, eq-eqb, ne_eqb, eqb-true, both_ways, or_cases, or_left, or_right}
use Rattle.std.proofs.lemmas.List.{get_or-set_same, get_or-set_other, length-set, length-replicate}
use Rattle.std.proofs.lemmas.List.{append-nil, append_assoc, map-append, length_push}
use Rattle.std.proofs.lemmas.List.Elements.{filter-append, All-take}
use Rattle.std.proofs.lemmas.Map.Keys.{IsDistinct-push}
use Rattle.patterns.specs.Pattern.{has}
use Rattle.mp_system.specs.Memory.{stands_in}
use Rattle.shared_systems.specs.Shared.{HasTask, shared_task_at}
use Rattle.shared_systems.specs.SharedMemory.{has_inputs}
use Rattle.activation.specs.declared.events.Phase.{Phase}
use Rattle.activation.specs.declared.events.Phase.TheVariants.{Idle, Running, Done}
use Rattle.activation.specs.declared.events.EventKind.{EventKind}
use Rattle.activation.specs.declared.events.EventKind.TheVariants.{Activate, Start, Finish}
use Rattle.activation.specs.declared.events.Event.{Event}
use Rattle.activation.specs.Machine.{Setting, phase_in, with_phase, is_done, AllDone}
use Rattle.activation.specs.Schedule.{Moment, task_entry, with_task_entry, moment_after, first_moment, ComesNext, IsSchedule}
use Rattle.rounds_run.specs.Rounds.{is_start_at, started_at, moments_of, round_count}
use Rattle.rounds_run.proofs.NumberLists.{has_append}
use Rattle.patterns.proofs.NumberLists.{place_of as place_in}
use Rattle.patterns.proofs.NumberLists.{has_push}
use Rattle.lists.proofs.Bools.{eqb_flip}
use Rattle.activation.proofs.Safety.{phase_replicate}
use Rattle.activation.proofs.Phases.{done_from}

-- ---- phases, and numbers by task

phase_here : (phases : List Phase) (t : ℕ) (p : Phase) → 1 ≤ t → t ≤ length phases → phase_in (with_phase phases t p) t ≡ p
unfolding phase_in with_phase
phase_here phases zero p low high = absurd (omega arith)
phase_here phases (suc i) p low high = get_or-set_same phases i p Idle (omega arith)

phase_other : (phases : List Phase) (t u : ℕ) (p : Phase) → u ≢ t → phase_in (with_phase phases t p) u ≡ phase_in phases u
unfolding phase_in with_phase
phase_other phases zero u p ne = refl
phase_other phases (suc i) zero p ne = refl
phase_other phases (suc i) (suc j) p ne = get_or-set_other phases i j p Idle (λ e. ne (ap (λ k. suc k) e))

phases_stay : (phases : List Phase) (t : ℕ) (p : Phase) → length (with_phase phases t p) ≡ length phases
unfolding with_phase
phases_stay phases zero p = refl
phases_stay phases (suc i) p = length-set phases i p

entry_here : (numbers : List ℕ) (t v : ℕ) → 1 ≤ t → t ≤ length numbers → task_entry (with_task_entry numbers t v) t ≡ v
unfolding task_entry with_task_entry
entry_here numbers zero v low high = absurd (omega arith)
entry_here numbers (suc i) v low high = get_or-set_same numbers i v 0 (omega arith)

entry_other : (numbers : List ℕ) (t u v : ℕ) → u ≢ t → task_entry (with_task_entry numbers t v) u ≡ task_entry numbers u
unfolding task_entry with_task_entry
entry_other numbers zero u v ne = refl
entry_other numbers (suc i) zero v ne = refl
entry_other numbers (suc i) (suc j) v ne = get_or-set_other numbers i j v 0 (λ e. ne (ap (λ k. suc k) e))

entries_stay : (numbers : List ℕ) (t v : ℕ) → length (with_task_entry numbers t v) ≡ length numbers
unfolding with_task_entry
entries_stay numbers zero v = refl
entries_stay numbers (suc i) v = length-set numbers i v

idle_not_running : Idle ≡ Running → ⊥
idle_not_running e = cc

idle_not_done : Idle ≡ Done → ⊥
idle_not_done e = cc

running_not_done : Running ≡ Done → ⊥
running_not_done e = cc

-- ---- what starts at a moment, one event later

started-append : (k : ℕ) (xs ys : List Event) → started_at k (xs ++ ys) ≡ started_at k xs ++ started_at k ys
started-append k xs ys =
    ap (map (λ (e : Event). e.task)) (filter-append (is_start_at k) xs ys)
    ∙ map-append (λ (e : Event). e.task) (filter (is_start_at k) xs) (filter (is_start_at k) ys)

grows : (k u : ℕ) (xs ys : List Event) → has (started_at k xs) u ≡ true → has (started_at k (xs ++ ys)) u ≡ true
grows k u xs ys there =
    ap (λ z. has z u) (started-append k xs ys) ∙ has_append (started_at k xs) (started_at k ys) u ∙ or_left _ _ there

pub activated_same : (k time t : ℕ) (xs : List Event)
    → started_at k (xs ++ record { time = time; kind = Activate; task = t } ∷ []) ≡ started_at k xs
activated_same k time t xs =
    started-append k xs (record { time = time; kind = Activate; task = t } ∷ []) ∙ append-nil (started_at k xs)

pub finished_same : (k time t : ℕ) (xs : List Event)
    → started_at k (xs ++ record { time = time; kind = Finish; task = t } ∷ []) ≡ started_at k xs
finished_same k time t xs =
    started-append k xs (record { time = time; kind = Finish; task = t } ∷ []) ∙ append-nil (started_at k xs)

pub started_more : (time t : ℕ) (xs : List Event)
    → started_at time (xs ++ record { time = time; kind = Start; task = t } ∷ []) ≡ started_at time xs ++ t ∷ []
started_more time t xs =
    started-append time xs (record { time = time; kind = Start; task = t } ∷ [])
    ∙ (let here = eq-eqb time time refl in rw here refl)

pub started_same : (k time t : ℕ) (xs : List Event) → time ≢ k
    → started_at k (xs ++ record { time = time; kind = Start; task = t } ∷ []) ≡ started_at k xs
started_same k time t xs ne =
    started-append k xs (record { time = time; kind = Start; task = t } ∷ [])
    ∙ (let other = ne_eqb time k ne in rw other (append-nil (started_at k xs)))

started_cases : (k s time t : ℕ) (xs : List Event)
    → has (started_at k (xs ++ record { time = time; kind = Start; task = t } ∷ [])) s ≡ true
    → (has (started_at k xs) s ≡ true) ⊎ ((time ≡ k) × (t ≡ s))
started_cases k s time t xs there =
    elim (cases_eq time k) [
      | inl e ↦ (
          let at : has (started_at time (xs ++ record { time = time; kind = Start; task = t } ∷ [])) s ≡ true =
          subst (λ z. has (started_at z (xs ++ record { time = time; kind = Start; task = t } ∷ [])) s ≡ true) (sym e) there in
          elim (or_cases (has (started_at time xs) s) (eqb t s)
          (sym (has_push (started_at time xs) t s) ∙ ap (λ z. has z s) (sym (started_more time t xs)) ∙ at)) [
            | inl old ↦ inl (subst (λ z. has (started_at z xs) s ≡ true) e old)
            | inr new ↦ inr (e, eqb-true t s new)
          ]
          )
      | inr ne ↦ inl (ap (λ z. has z s) (sym (started_same k time t xs ne)) ∙ there)
    ]

pub round_count_more : (xs : List Event) (e : Event) → round_count (xs ++ e ∷ []) ≡ max (round_count xs) (moments_of e)
round_count_more [] e = omega arith
round_count_more (x ∷ xs) e = let rest = round_count_more xs e in omega arith

pub any_flip : (t : ℕ) (xs : List ℕ) → list_any (eqb t) xs ≡ has xs t
any_flip t [] = refl
any_flip t (x ∷ xs) = rw (eqb_flip t x, any_flip t xs) refl

pub distinct_nil : IsDistinct eqb []
unfolding IsDistinct
distinct_nil = tt

-- ---- along the schedule

-- what is known at a moment of the events before it
pub record IsTimely (c : Setting) (supplies : ℕ → ℕ → Type 0) (hist : List Event) (m : Moment) : Type 0 where
  pub phases_long : length m.state.phases ≡ length c.system.tasks
  pub dues_long : length m.dues ≡ length c.system.tasks
  pub few : m.time ≤ length hist
  pub counted : round_count hist ≤ length hist + 1
  pub idle : (u : ℕ) → phase_in m.state.phases u ≡ Idle → (k : ℕ) → has (started_at k hist) u ≡ false
  pub soon : (u : ℕ) → phase_in m.state.phases u ≡ Running
      → (k : ℕ) × (task_entry m.dues u ≡ k + 1) × (k ≤ m.time) × (has (started_at k hist) u ≡ true)
  pub done : (u : ℕ) → phase_in m.state.phases u ≡ Done → (k : ℕ) × (k < m.time) × (has (started_at k hist) u ≡ true)
  pub tasks : (k u : ℕ) → has (started_at k hist) u ≡ true → HasTask c.system u
  pub once : (k : ℕ) → IsDistinct eqb (started_at k hist)
  pub apart : (j k u : ℕ) → has (started_at j hist) u ≡ true → has (started_at k hist) u ≡ true → j ≡ k
  pub supplied : (k u v : ℕ) → has (started_at k hist) u ≡ true → supplies v u → (j : ℕ) × (j < k) × (has (started_at j hist) v ≡ true)

module _ (c : Setting) (supplies : ℕ → ℕ → Type 0) (unit : (t : ℕ) → HasTask c.system t → (shared_task_at c.system t).time ≡ 1)
    (order_tasks : All (HasTask c.system) c.order)
    (ready : (done : ℕ → Bool) (s t : ℕ) → has_inputs c.system done s ≡ true → HasTask c.system s → supplies t s → done t ≡ true) where
  timely_first : IsTimely c supplies [] (first_moment c)
  timely_first = record {
    phases_long = length-replicate (length c.system.tasks) Idle;
    dues_long = length-replicate (length c.system.tasks) 0;
    few = omega arith;
    counted = omega arith;
    idle = λ u e k. refl;
    soon = λ u e. absurd (idle_not_running (sym (phase_replicate (length c.system.tasks) u) ∙ e));
    done = λ u e. absurd (idle_not_done (sym (phase_replicate (length c.system.tasks) u) ∙ e));
    tasks = λ k u there. absurd (both_ways _ refl there);
    once = λ k. distinct_nil;
    apart = λ j k u one two. absurd (both_ways _ refl one);
    supplied = λ k u v there by. absurd (both_ways _ refl there);
  }

  activated_task : (k t : ℕ) → stands_in (take k c.order) t ≡ true → HasTask c.system t
  activated_task k t there =
      let place = place_in (take k c.order) t there in
      subst (HasTask c.system) place.2 (All-take (HasTask c.system) k c.order order_tasks place.0 0 place.1)

  timely_activate : (priority : List ℕ) (hist : List Event) (m : Moment) (time t : ℕ) → IsTimely c supplies hist m
      → ComesNext c priority m Activate time t
      → IsTimely c supplies (hist ++ record { time = time; kind = Activate; task = t } ∷ [])
      (moment_after c m (record { time = time; kind = Activate; task = t }))
  timely_activate priority hist m time t ok next =
      let e : Event = record { time = time; kind = Activate; task = t } in
      let same = λ (k : ℕ). activated_same k time t hist in
      let longer = length_push hist e in
      let moments = round_count_more hist e in
      let now = next.now_is in
      record {
        phases_long = ok.phases_long;
        dues_long = ok.dues_long;
        few = omega (arith, ok.few, now, longer);
        counted = omega (arith, ok.counted, longer, moments);
        idle = λ u is k. ap (λ z. has z u) (same k) ∙ ok.idle u is k;
        soon = λ u is. (let s = ok.soon u is in (s.0, s.1, omega (arith, s.2, now), ap (λ z. has z u) (same s.0) ∙ s.3));
        done = λ u is. (let s = ok.done u is in (s.0, omega (arith, s.1, now), ap (λ z. has z u) (same s.0) ∙ s.2));
        tasks = λ k u there. ok.tasks k u (ap (λ z. has z u) (sym (same k)) ∙ there);
        once = λ k. subst (IsDistinct eqb) (sym (same k)) (ok.once k);
        apart = λ j k u one two. ok.apart j k u (ap (λ z. has z u) (sym (same j)) ∙ one) (ap (λ z. has z u) (sym (same k)) ∙ two);
        supplied = λ k u v there by. (let s = ok.supplied k u v (ap (λ z. has z u) (sym (same k)) ∙ there) by in
            (s.0, s.1, ap (λ z. has z v) (same s.0) ∙ s.2));
      }

  timely_finish : (priority : List ℕ) (hist : List Event) (m : Moment) (time t : ℕ) → IsTimely c supplies hist m
      → ComesNext c priority m Finish time t
      → IsTimely c supplies (hist ++ record { time = time; kind = Finish; task = t } ∷ [])
      (moment_after c m (record { time = time; kind = Finish; task = t }))
  timely_finish priority hist m time t ok next =
      let e : Event = record { time = time; kind = Finish; task = t } in
      let same = λ (k : ℕ). finished_same k time t hist in
      let longer = length_push hist e in
      let moments = round_count_more hist e in
      let own = ok.soon t next.legal.running in
      let due = next.due in
      let later : m.time ≤ time = elim next.now_or_idle [
        | inl now ↦ omega (arith, now)
        | inr idle ↦ (let after = idle.0 t next.legal.running in omega (arith, after, due))
      ] in
      let task : HasTask c.system t = ok.tasks own.0 t own.3 in
      let here = phase_here m.state.phases t Done task.0 (omega (arith, task.1, ok.phases_long)) in
      let other = λ (u : ℕ) (ne : u ≢ t). phase_other m.state.phases t u Done ne in
      record {
        phases_long = phases_stay m.state.phases t Done ∙ ok.phases_long;
        dues_long = ok.dues_long;
        few = omega (arith, ok.few, longer, own.1, own.2, due);
        counted = omega (arith, ok.counted, longer, moments);
        idle = λ u is k. ap (λ z. has z u) (same k) ∙ elim (cases_eq u t) [
          | inl at ↦ absurd (idle_not_done (sym is ∙ ap (phase_in (with_phase m.state.phases t Done)) at ∙ here))
          | inr ne ↦ ok.idle u (sym (other u ne) ∙ is) k
        ];
        soon = λ u is. elim (cases_eq u t) [
          | inl at ↦ absurd (running_not_done (sym is ∙ ap (phase_in (with_phase m.state.phases t Done)) at ∙ here))
          | inr ne ↦
              (let s = ok.soon u (sym (other u ne) ∙ is) in (s.0, s.1, omega (arith, s.2, later), ap (λ z. has z u) (same s.0) ∙ s.3))
        ];
        done = λ u is. elim (cases_eq u t) [
          | inl at ↦ (
            own.0,
            omega (arith, own.1, due),
            ap (λ z. has (started_at own.0 (hist ++ e ∷ [])) z) at ∙ ap (λ z. has z t) (same own.0) ∙ own.3,
          )
          | inr ne ↦ (let s = ok.done u (sym (other u ne) ∙ is) in (s.0, omega (arith, s.1, later), ap (λ z. has z u) (same s.0) ∙ s.2))
        ];
        tasks = λ k u there. ok.tasks k u (ap (λ z. has z u) (sym (same k)) ∙ there);
        once = λ k. subst (IsDistinct eqb) (sym (same k)) (ok.once k);
        apart = λ j k u one two. ok.apart j k u (ap (λ z. has z u) (sym (same j)) ∙ one) (ap (λ z. has z u) (sym (same k)) ∙ two);
        supplied = λ k u v there by. (let s = ok.supplied k u v (ap (λ z. has z u) (sym (same k)) ∙ there) by in
            (s.0, s.1, ap (λ z. has z v) (same s.0) ∙ s.2));
      }

  timely_start : (priority : List ℕ) (hist : List Event) (m : Moment) (time t : ℕ) → IsTimely c supplies hist m
      → ComesNext c priority m Start time t
      → IsTimely c supplies (hist ++ record { time = time; kind = Start; task = t } ∷ [])
      (moment_after c m (record { time = time; kind = Start; task = t }))
  timely_start priority hist m time t ok next =
      let e : Event = record { time = time; kind = Start; task = t } in
      let old = λ (k u : ℕ) (there : has (started_at k hist) u ≡ true). grows k u hist (e ∷ []) there in
      let longer = length_push hist e in
      let moments = round_count_more hist e in
      let now = next.now_is in
      let task : HasTask c.system t = activated_task m.state.activated t next.legal.activated in
      let one = unit t task in
      let none = ok.idle t next.legal.idle in
      let new : has (started_at time (hist ++ e ∷ [])) t ≡ true =
      ap (λ z. has z t) (started_more time t hist) ∙ has_push (started_at time hist) t t ∙ or_right _ _ (eq-eqb t t refl) in
      let here = phase_here m.state.phases t Running task.0 (omega (arith, task.1, ok.phases_long)) in
      let other = λ (u : ℕ) (ne : u ≢ t). phase_other m.state.phases t u Running ne in
      let due = entry_here m.dues t (time + (shared_task_at c.system t).time) task.0 (omega (arith, task.1, ok.dues_long)) in
      let cases = λ (k u : ℕ) (there : has (started_at k (hist ++ e ∷ [])) u ≡ true). started_cases k u time t hist there in
      record {
        phases_long = phases_stay m.state.phases t Running ∙ ok.phases_long;
        dues_long = entries_stay m.dues t (time + (shared_task_at c.system t).time) ∙ ok.dues_long;
        few = omega (arith, ok.few, now, longer);
        counted = omega (arith, ok.counted, ok.few, now, longer, moments);
        idle = λ u is k. elim (cases_eq u t) [
          | inl at ↦ absurd (idle_not_running (sym is ∙ ap (phase_in (with_phase m.state.phases t Running)) at ∙ here))
          | inr ne ↦ false_from_ne_true _ (λ there. elim (cases k u there) [
            | inl before ↦ both_ways _ (ok.idle u (sym (other u ne) ∙ is) k) before
            | inr same ↦ ne (sym same.1)
          ])
        ];
        soon = λ u is. elim (cases_eq u t) [
          | inl at ↦ (
            time,
            ap (task_entry (with_task_entry m.dues t (time + (shared_task_at c.system t).time))) at ∙ due ∙ ap (λ z. time + z) one,
            omega arith,
            ap (λ z. has (started_at time (hist ++ e ∷ [])) z) at ∙ new,
          )
          | inr ne ↦ (
              let s = ok.soon u (sym (other u ne) ∙ is) in
              (s.0, entry_other m.dues t u (time + (shared_task_at c.system t).time) ne ∙ s.1, omega (arith, s.2, now), old s.0 u s.3)
              )
        ];
        done = λ u is. elim (cases_eq u t) [
          | inl at ↦ absurd (running_not_done (sym here ∙ ap (phase_in (with_phase m.state.phases t Running)) (sym at) ∙ is))
          | inr ne ↦ (let s = ok.done u (sym (other u ne) ∙ is) in (s.0, omega (arith, s.1, now), old s.0 u s.2))
        ];
        tasks = λ k u there. elim (cases k u there) [ inl before ↦ ok.tasks k u before | inr same ↦ subst (HasTask c.system) same.1 task ];
        once = λ k. elim (cases_eq time k) [
          | inl at ↦ subst (λ z. IsDistinct eqb (started_at z (hist ++ e ∷ []))) at
              (subst (IsDistinct eqb) (sym (started_more time t hist))
              (IsDistinct-push nat_eq_equiv (started_at time hist) t (ok.once time) (any_flip t (started_at time hist) ∙ none time)))
          | inr ne ↦ subst (IsDistinct eqb) (sym (started_same k time t hist ne)) (ok.once k)
        ];
        apart = λ j k u one two. elim (cases j u one) [
          | inl before ↦ elim (cases k u two) [
            | inl too ↦ ok.apart j k u before too
            | inr same ↦ absurd (both_ways _ (none j) (subst (λ z. has (started_at j hist) z ≡ true) (sym same.1) before))
          ]
          | inr same ↦ elim (cases k u two) [
            | inl too ↦ absurd (both_ways _ (none k) (subst (λ z. has (started_at k hist) z ≡ true) (sym same.1) too))
            | inr too ↦ sym same.0 ∙ too.0
          ]
        ];
        supplied = λ k u v there by. elim (cases k u there) [
          | inl before ↦ (let s = ok.supplied k u v before by in (s.0, s.1, old s.0 v s.2))
          | inr same ↦ (
              let from : supplies v t = subst (supplies v) (sym same.1) by in
              let done = ready (is_done m.state) t v next.legal.ready task from in
              let s = ok.done v (done_from _ done) in
              (s.0, omega (arith, s.1, now, same.0), old s.0 v s.2)
              )
        ];
      }

  timely_step : (priority : List ℕ) (hist : List Event) (m : Moment) (kind : EventKind) (time t : ℕ) → IsTimely c supplies hist m
      → ComesNext c priority m kind time t
      → IsTimely c supplies (hist ++ record { time = time; kind = kind; task = t } ∷ [])
      (moment_after c m (record { time = time; kind = kind; task = t }))
  timely_step priority hist m Activate time t ok next = timely_activate priority hist m time t ok next
  timely_step priority hist m Start time t ok next = timely_start priority hist m time t ok next
  timely_step priority hist m Finish time t ok next = timely_finish priority hist m time t ok next

  timely_whole : (priority : List ℕ) (es hist : List Event) (m : Moment) → IsTimely c supplies hist m → IsSchedule c priority m es
      → (end : Moment) × IsTimely c supplies (hist ++ es) end × AllDone c end.state
  timely_whole priority [] hist m ok all = (m, subst (λ z. IsTimely c supplies z m) (sym (append-nil hist)) ok, all)
  timely_whole priority (e ∷ es) hist m ok schedule =
      let next = timely_step priority hist m e.kind e.time e.task ok schedule.0 in
      let whole = timely_whole priority es (hist ++ e ∷ []) (moment_after c m e) next schedule.1 in
      (whole.0, subst (λ z. IsTimely c supplies z whole.0) (append_assoc hist (e ∷ []) es) whole.1, whole.2)

  -- at its end
  pub timely_end : (priority : List ℕ) (es : List Event) → IsSchedule c priority (first_moment c) es
      → (end : Moment) × IsTimely c supplies es end × AllDone c end.state
  timely_end priority es schedule = timely_whole priority es [] (first_moment c) timely_first schedule

  -- every task started
  pub all_started : (es : List Event) (end : Moment) → IsTimely c supplies es end → AllDone c end.state
      → (t : ℕ) → HasTask c.system t → (k : ℕ) × (has (started_at k es) t ≡ true)
  all_started es end ok all t task = let s = ok.done t (done_from _ (all t task)) in (s.0, s.2)
