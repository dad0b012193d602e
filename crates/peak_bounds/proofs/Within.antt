-- Where a task of a set starts within a moment.
use Rattle.std.proofs.Common.{◌≡◌, ℕ, Bool, true, false, ◌||◌, eqb, eq-eqb, inl, inr, List, [], ◌∷◌, ◌++◌, refl, sym, ap, ◌∙◌}
use Rattle.std.proofs.Math.Bool.{and-false, or-true}
use Rattle.std.proofs.lemmas.Bool.{cases_eq, ne_eqb, cases_Bool}
use Rattle.shared_systems.specs.Shared.{SharedTaskSystem, HasTask}
use Rattle.mp_system.specs.Memory.{stands_in}
use Rattle.shared_systems.specs.SharedTraversal.{IsSharedTraversal}
use Rattle.peak_bounds.specs.declared.step.Event.{Event}
use Rattle.peak_bounds.specs.declared.step.Event.TheVariants.{First, Last}
use Rattle.peak_bounds.specs.Moments.{Moment, is_done, is_waiting}
use Rattle.peak_bounds.specs.Steps.{Starts, early_from, late_from, may_have}
use Rattle.peak_bounds.proofs.Lists.{stands_in-head, stands_in-append, first_of, last_of}
use Rattle.peak_bounds.proofs.Orders.{stands, alone_at}

-- ---- one list, split at two tasks

tail_same : (x y : ℕ) (xs ys : List ℕ) → x ∷ xs ≡ y ∷ ys → xs ≡ ys
tail_same x y xs ys e = cc

head_same : (x y : ℕ) (xs ys : List ℕ) → x ∷ xs ≡ y ∷ ys → x ≡ y
head_same x y xs ys e = cc

-- a task that does not stand before the second stands with it or after it, and so does all that stands after the first
later_part : (a b c d : List ℕ) (t s : ℕ) → a ++ t ∷ b ≡ c ++ s ∷ d → stands_in c t ≡ false → (v : ℕ) → stands_in (t ∷ b) v ≡ true → stands_in (s ∷ d) v ≡ true
later_part a b [] d t s same out v e = ap (λ (l : List ℕ). stands_in l v) (sym same) ∙ stands_in-append a (t ∷ b) v ∙ rw e (or-true (stands_in a v))
later_part [] b (x ∷ c) d t s same out v e = absurd (
    let head = head_same t x b (c ++ s ∷ d) same in
    let f : true ≡ false = sym (stands_in-head x c) ∙ ap (stands_in (x ∷ c)) (sym head) ∙ out in cc)
later_part (y ∷ a) b (x ∷ c) d t s same out v e = later_part a b c d t s (tail_same y x (a ++ t ∷ b) (c ++ s ∷ d) same) (second (eqb x t) (stands_in c t) out) v e where
  second : (p q : Bool) → (p || q) ≡ false → q ≡ false
  second false q h = h
  second true q h = absurd cc

-- and where the first stands before the second, so does all that stands before the first
earlier_part : (a b c d : List ℕ) (t s : ℕ) → a ++ t ∷ b ≡ c ++ s ∷ d → stands_in (s ∷ d) t ≡ false → (v : ℕ) → stands_in a v ≡ true → stands_in c v ≡ true
earlier_part [] b c d t s same out v e = absurd cc
earlier_part (y ∷ a) b [] d t s same out v e = absurd (
    let there : stands_in (s ∷ d) t ≡ true = ap (λ (l : List ℕ). stands_in l t) (sym same) ∙ stands_in-append (y ∷ a) (t ∷ b) t ∙ rw (stands_in-head t b) (or-true (stands_in (y ∷ a) t)) in
    let f : true ≡ false = sym there ∙ out in cc)
earlier_part (y ∷ a) b (x ∷ c) d t s same out v e =
    let head = head_same y x (a ++ t ∷ b) (c ++ s ∷ d) same in
    elim (cases_eq x v) [
      | inl here ↦ rw (eq-eqb x v here) refl
      | inr other ↦ (
          let e' : stands_in a v ≡ true = rw (head, ne_eqb x v other) at e in
          rw (ne_eqb x v other) (earlier_part a b c d t s (tail_same y x (a ++ t ∷ b) (c ++ s ∷ d) same) out v e'))
    ]

-- ---- what is known where a task of a set starts

module _ (system : SharedTaskSystem) (order : List ℕ) (traversal : IsSharedTraversal system order) where
  -- what was known holds where a task of the set starts: that the same are done, if it is the first, and that the same wait, if it is the last
  pub Carries : Event → (ℕ → Bool) → (ℕ → Bool) → (ℕ → Bool) → Type 0
  Carries First done waiting set = (before rest : List ℕ) (t : ℕ) → order ≡ before ++ t ∷ rest → set t ≡ true → (v : ℕ) → stands_in (t ∷ rest) v ≡ true → done v ≡ false
  Carries Last done waiting set = (before rest : List ℕ) (t : ℕ) → order ≡ before ++ t ∷ rest → set t ≡ true → (v : ℕ) → stands_in before v ≡ true → waiting v ≡ false

  pub starts_from : (event : Event) (done waiting set : ℕ → Bool) → Carries event done waiting set → (v : ℕ) → HasTask system v → set v ≡ true
      → (t : ℕ) × (set t ≡ true) × Starts order (early_from event done set t) (late_from event waiting set t) t
  unfolding Carries
  starts_from First done waiting set carries v task chosen =
      let first = first_of set order v (stands system order traversal v task) chosen in (
        first.task,
        first.passes,
        record {
          before = first.before;
          rest = first.rest;
          order_is = first.split;
          none_early = carries first.before first.rest first.task first.split first.passes;
          none_late = first.none;
        },
      )
  starts_from Last done waiting set carries v task chosen =
      let last = last_of set order v (stands system order traversal v task) chosen in
      let apart = alone_at system order traversal last.before last.rest last.task last.split in (
        last.task,
        last.passes,
        record {
          before = last.before;
          rest = last.rest;
          order_is = last.split;
          none_early = λ u late. elim (cases_eq last.task u) [
            | inl same ↦ rw (eq-eqb u last.task (sym same)) (and-false (set u))
            | inr other ↦ (
                let later : stands_in last.rest u ≡ true = rw (ne_eqb last.task u other) at late in
                rw (last.none u later) refl)
          ];
          none_late = λ u there. rw (carries last.before last.rest last.task last.split last.passes u there) (elim (cases_eq u last.task) [
            | inl same ↦ absurd (let f : true ≡ false = sym there ∙ ap (stands_in last.before) same ∙ apart.before in cc)
            | inr other ↦ ne_eqb u last.task other
          ]);
        },
      )

  pub carries_start : (event : Event) (set : ℕ → Bool) → Carries event (λ _. false) (λ _. false) set
  unfolding Carries
  carries_start First set = λ before rest t split chosen v e. refl
  carries_start Last set = λ before rest t split chosen v e. refl

  pub carries_within : (event : Event) (moment : Moment) (set : ℕ → Bool) → Starts order (is_done moment) (is_waiting moment) moment.task
      → ((v : ℕ) → set v ≡ true → may_have event moment v ≡ true) → Carries event (is_done moment) (is_waiting moment) set
  unfolding Carries
  carries_within First moment set starts within = λ before rest t split chosen v e.
      let out : stands_in starts.before t ≡ false = elim (cases_Bool (stands_in starts.before t)) [
        | inl there ↦ absurd (let f : true ≡ false = sym (within t chosen) ∙ starts.none_late t there in cc)
        | inr apart ↦ apart
      ] in
      starts.none_early v (later_part before rest starts.before starts.rest t moment.task (sym split ∙ starts.order_is) out v e)
  carries_within Last moment set starts within = λ before rest t split chosen v e.
      let out : stands_in (moment.task ∷ starts.rest) t ≡ false = elim (cases_Bool (stands_in (moment.task ∷ starts.rest) t)) [
        | inl there ↦ absurd (let f : true ≡ false = sym (within t chosen) ∙ starts.none_early t there in cc)
        | inr apart ↦ apart
      ] in
      starts.none_late v (earlier_part before rest starts.before starts.rest t moment.task (sym split ∙ starts.order_is) out v e)
