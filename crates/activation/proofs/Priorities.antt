-- Which tasks a list holds, marked one after the other.
use Rattle.std.proofs.Common.{◌≡◌, ℕ, ◌+◌, ◌-◌, ◌<◌, Bool, true, false, cond, List, length, take, get_or, set, get_or-set_same}
use Rattle.std.proofs.Common.{get_or-set_other, refl, sym, subst, add-zero, ◌∙◌, ap, arith, ⊎_elim}
use Rattle.std.specs.Prelude.{count_by, ◌==◌}
use Rattle.std.proofs.lemmas.List.{length-set, take_all}
use Rattle.std.proofs.lemmas.List.Elements.{All-get_or, All-from_get_or}
use Rattle.std.proofs.lemmas.List.Sums.{sum_by_more, sum_by-take-le}
use Rattle.std.proofs.lemmas.Bool.{cases_eq, cases_Bool, eq-eqb, ne_eqb}
use Rattle.shared_systems.specs.Shared.{SharedTaskSystem, HasTask}
use Rattle.activation.specs.Schedule.{HoldsEach}

-- those of the first i numbers are tasks, each stands there once, and these are marked
pub record AreMarked (s : SharedTaskSystem) (tasks : List ℕ) (i : ℕ) (found : List Bool) : Type 0 where
  pub long : length found ≡ length s.tasks
  pub within : (k : ℕ) → k < i → HasTask s (get_or tasks k 0)
  pub counts : (t : ℕ) → HasTask s t → count_by (λ u. u == t) (take i tasks) ≡ cond (get_or found (t - 1) false) 1 0

module _ {s : SharedTaskSystem} {tasks : List ℕ} {i : ℕ} {found : List Bool} (m : AreMarked s tasks i found) (w : i < length tasks) where
  counted : (t : ℕ) → count_by (λ u. u == t) (take (i + 1) tasks) ≡ count_by (λ u. u == t) (take i tasks) + cond (get_or tasks i 0 == t) 1 0
  counted t = sum_by_more (λ (u : ℕ). cond (u == t) 1 0) tasks i 0 w

  pub one_marked : HasTask s (get_or tasks i 0) → get_or found (get_or tasks i 0 - 1) false ≡ false
      → AreMarked s tasks (i + 1) (set found (get_or tasks i 0 - 1) true)
  one_marked is fresh =
      let task = get_or tasks i 0 in
      record {
        long = length-set found (task - 1) true ∙ m.long;
        within = λ k l. ⊎_elim (λ e. subst (λ j. HasTask s (get_or tasks j 0)) (sym e) is) (λ n. m.within k (omega arith)) (cases_eq k i);
        counts = λ t it.
            ⊎_elim
            (λ e.
            let now : get_or (set found (task - 1) true) (t - 1) false ≡ true =
            ap (λ u. get_or (set found (task - 1) true) (u - 1) false) (sym e)
            ∙ get_or-set_same found (task - 1) true false (omega (arith, is.0, is.1, m.long)) in
            let was : get_or found (t - 1) false ≡ false = ap (λ u. get_or found (u - 1) false) (sym e) ∙ fresh in
            counted t ∙ rw (m.counts t it, was, now, eq-eqb task t e))
            (λ n.
            let other : get_or (set found (task - 1) true) (t - 1) false ≡ get_or found (t - 1) false =
            get_or-set_other found (task - 1) (t - 1) true false (omega (arith, is.0, it.0, n)) in
            counted t ∙ rw (m.counts t it, other, ne_eqb task t n, add-zero))
            (cases_eq task t);
      }

  -- a priority holds tasks alone, and none twice
  pub holds_a_task : HoldsEach s tasks → HasTask s (get_or tasks i 0)
  holds_a_task each = All-get_or (HasTask s) tasks i 0 w each.within

  pub holds_none_twice : HoldsEach s tasks → get_or found (get_or tasks i 0 - 1) false ≡ true → ⊥
  holds_none_twice each twice =
      let task = get_or tasks i 0 in
      let is = holds_a_task each in
      let before : count_by (λ u. u == task) (take i tasks) ≡ 1 = m.counts task is ∙ ap (λ (b : Bool). cond b 1 0) twice in
      let here : ◌≡◌ {A = ℕ} (cond (task == task) 1 0) 1 = ap (λ (b : Bool). cond b 1 0) (eq-eqb task task refl) in
      omega (arith, before, here, counted task, each.once task is, sum_by-take-le (λ u. cond (u == task) 1 0) tasks (i + 1))

-- a list holds each task exactly where all are marked in the end
module _ {s : SharedTaskSystem} {tasks : List ℕ} {i : ℕ} {found : List Bool} (m : AreMarked s tasks i found) (end : length tasks ≡ i) where
  all_counted : (t : ℕ) → HasTask s t → count_by (λ u. u == t) tasks ≡ cond (get_or found (t - 1) false) 1 0
  all_counted t is = ap (count_by (λ u. u == t)) (sym (take_all i tasks (omega (arith, end)))) ∙ m.counts t is

  pub each_held : ((k : ℕ) → k < length found → get_or found k false ≡ true) → HoldsEach s tasks
  each_held all = record {
    once = λ t is. all_counted t is ∙ ap (λ (b : Bool). cond b 1 0) (all (t - 1) (omega (arith, is.0, is.1, m.long)));
    within = All-from_get_or (HasTask s) tasks 0 (λ k w. m.within k (omega (arith, end)));
  }

  pub all_found : HoldsEach s tasks → (k : ℕ) → k < length found → get_or found k false ≡ true
  all_found each k w =
      ⊎_elim (λ y. y)
      (λ n.
      let is : HasTask s (k + 1) = (omega arith, omega (arith, m.long)) in
      let at : k + 1 - 1 ≡ k = omega arith in
      let none : ◌≡◌ {A = ℕ} (cond (get_or found (k + 1 - 1) false) 1 0) 0 = rw at (ap (λ (b : Bool). cond b 1 0) n) in
      absurd (omega (arith, each.once (k + 1) is, all_counted (k + 1) is, none)))
      (cases_Bool (get_or found k false))
