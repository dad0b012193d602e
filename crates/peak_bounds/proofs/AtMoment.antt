-- What holds at a moment of a traversal.
use Rattle.std.proofs.Common.{◌≡◌, ℕ, Bool, true, false, ◌||◌, inl, inr, List, [], ◌∷◌, ◌++◌, append_assoc, refl, sym, ap, ◌∙◌, arith}
use Rattle.std.specs.Prelude.{pos, ◌≤ℤ◌}
use Rattle.std.proofs.Math.Path.{fun_ext}
use Rattle.std.proofs.lemmas.Int.{ints}
use Rattle.std.proofs.lemmas.Bool.{or_cases}
use Rattle.shared_systems.specs.Shared.{SharedTaskSystem, HasTask}
use Rattle.mp_system.specs.Memory.{stands_in}
use Rattle.shared_systems.specs.SharedMemory.{shared_running, has_inputs, shared_peak_of}
use Rattle.shared_systems.specs.SharedTraversal.{IsSharedTraversal}
use Rattle.shared_systems.proofs.States.{still_has_inputs}
use Rattle.shared_systems.proofs.PeakBounds.{peak_running}
use Rattle.peak_bounds.specs.Moments.{uses_of, Moment, IsMoment, is_done, is_waiting, level_of}
use Rattle.peak_bounds.specs.Steps.{Starts}
use Rattle.peak_bounds.proofs.Lists.{stands_in-append, split_at}
use Rattle.peak_bounds.proofs.Lists.{marked_within}
use Rattle.peak_bounds.proofs.UseSums.{inputs_same, lowered-le}
use Rattle.peak_bounds.proofs.Sizes.{level, level_is, rises}
use Rattle.peak_bounds.proofs.Orders.{stands, task_stands, split_stands, alone_at, none_waits, none_done}

absorbed : (a b : Bool) → (a ≡ true → b ≡ true) → (a || b) ≡ b
absorbed true b h = sym (h refl)
absorbed false b h = refl

module _ (system : SharedTaskSystem) (order : List ℕ) (traversal : IsSharedTraversal system order) where
  module _ (early late : ℕ → Bool) (moment : Moment) (starts : Starts order early late moment.task) (is : IsMoment system early late moment) where
    ran_whole : (u : ℕ) → stands_in order u ≡ (stands_in starts.before u || stands_in (moment.task ∷ starts.rest) u)
    ran_whole u = ap (λ (l : List ℕ). stands_in l u) starts.order_is ∙ stands_in-append starts.before (moment.task ∷ starts.rest) u

    done_tasks : (v : ℕ) → is_done moment v ≡ true → HasTask system v
    done_tasks v e = (let within = marked_within moment.done v e in (within.0, omega (arith, within.1, is.done_len)))

    left_undone : (u : ℕ) → stands_in (moment.task ∷ starts.rest) u ≡ true → is_done moment u ≡ false
    left_undone = none_done system order traversal (is_done moment) early moment.task
        (split_stands system order traversal starts.before starts.rest moment.task starts.order_is) done_tasks is.done starts.before (moment.task ∷ starts.rest) starts.order_is
        (λ v ys same. (let tails : starts.rest ≡ ys = cc in ap (λ (l : List ℕ). stands_in l moment.task) (sym tails) ∙ (alone_at system order traversal starts.before starts.rest moment.task starts.order_is).after)) starts.none_early

    done_ran : (v : ℕ) → is_done moment v ≡ true → stands_in starts.before v ≡ true
    done_ran v e = elim (or_cases (stands_in starts.before v) (stands_in (moment.task ∷ starts.rest) v) (sym (ran_whole v) ∙ stands system order traversal v (done_tasks v e))) [
      | inl there ↦ there
      | inr left ↦ absurd (let f : true ≡ false = sym e ∙ left_undone v left in cc)
    ]

    ran_not_waiting : (u : ℕ) → stands_in starts.before u ≡ true → is_waiting moment u ≡ false
    ran_not_waiting = none_waits system order traversal (is_waiting moment) late is.waiting [] starts.before (moment.task ∷ starts.rest) starts.order_is (λ u e. absurd cc) starts.none_late

    ran_ready : (v : ℕ) → stands_in starts.before v ≡ true → has_inputs system (stands_in starts.before) v ≡ true
    ran_ready v e =
        let at = split_at starts.before v e in
        let whole : order ≡ at.before ++ v ∷ (at.rest ++ moment.task ∷ starts.rest) = starts.order_is ∙ ap (λ (l : List ℕ). l ++ moment.task ∷ starts.rest) at.split ∙ append_assoc at.before (v ∷ at.rest) (moment.task ∷ starts.rest) in
        still_has_inputs (stands_in at.before) (stands_in starts.before)
        (λ u there. ap (λ (l : List ℕ). stands_in l u) at.split ∙ stands_in-append at.before (v ∷ at.rest) u ∙ rw there refl) v system.items
        (traversal.after_suppliers at.before (at.rest ++ moment.task ∷ starts.rest) v whole)

    pub level-le : level_of system moment ≤ℤ pos (shared_running system (stands_in starts.before) moment.task)
    level-le =
        let uses = uses_of system.items in
        let ran = stands_in starts.before in
        let start = level_is uses moment.lowered (is_done moment) (λ v e. sym (inputs_same (is_done moment) v system.items) ∙ is.state v e) in
        let more = rises uses moment.lowered starts.before (is_done moment) (λ v there undone.
        is.open_tasks v (task_stands system order traversal v (ran_whole v ∙ rw there refl)) undone (ran_not_waiting v there)) in
        let union : (λ (u : ℕ). is_done moment u || ran u) ≡ ran = fun_ext (λ u. absorbed (is_done moment u) (ran u) (done_ran u)) in
        let end = level_is uses moment.lowered ran (λ v e. sym (inputs_same ran v system.items) ∙ ran_ready v e) in
        let sizes = lowered-le ran system.items moment.lowered is.lowered in
        omega (arith, ints, start, more, ap (level uses moment.lowered) union, end, sizes)

    -- what is marked is so
    pub marks_hold : Starts order (is_done moment) (is_waiting moment) moment.task
    marks_hold = record { before = starts.before; rest = starts.rest; order_is = starts.order_is; none_early = left_undone; none_late = ran_not_waiting }

  pub moment-le : (early late : ℕ → Bool) (moment : Moment) → Starts order early late moment.task → IsMoment system early late moment
      → level_of system moment ≤ℤ pos (shared_peak_of system order)
  moment-le early late moment starts is =
      let low = level-le early late moment starts is in
      let high = peak_running system order starts.before starts.rest moment.task starts.order_is in
      omega (arith, ints, low, high)
