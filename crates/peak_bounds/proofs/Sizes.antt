-- Sums of lowered sizes: what they say of a state's memory, and what a task that runs adds to them.
use Rattle.std.proofs.Common.{◌≡◌, ℕ, Bool, true, false, cond, not, ◌&&◌, ◌||◌, eqb, eq-eqb, inl, inr, List, [], ◌∷◌, Option, Some, None, refl, sym, ap, ◌∙◌, arith}
use Rattle.std.specs.Prelude.{ℤ, pos, ◌+ℤ◌, ◌-ℤ◌, ◌≤ℤ◌}
use Rattle.std.specs.List.{list_all}
use Rattle.std.proofs.Math.Path.{fun_ext}
use Rattle.std.proofs.lemmas.Int.{ints}
use Rattle.std.proofs.lemmas.Bool.{eqb-true, and_parts, cases_eq, ne_eqb, cases_Bool}
use Rattle.std.proofs.Math.Bool.{or-true}
use Rattle.peak_bounds.specs.declared.uses.Use.{Use}
use Rattle.mp_system.specs.System.{is_named}
use Rattle.mp_system.specs.Memory.{stands_in, is_done_or}
use Rattle.mp_system.specs.Step.{AddsTask}
use Rattle.peak_bounds.specs.Moments.{is_made_for_use, is_used_by, is_there, is_over, is_held_for, lowered_where}
use Rattle.lists.proofs.Bools.{or_false, eqb_flip}
use Rattle.peak_bounds.proofs.Lists.{or_assoc, neither, stands_in-head}

-- ---- a sum over two tests that no a_use passes both

pub record Parts (all one other : Bool) : Type 0 where
  pub whole : all ≡ (one || other)
  pub apart : other ≡ true → one ≡ false

one_part : (all one other : Bool) (k : ℤ) → Parts all one other → cond all k (pos 0) ≡ cond one k (pos 0) +ℤ cond other k (pos 0)
one_part all true true k parts = absurd (let f = parts.apart refl in cc)
one_part all true false k parts = rw parts.whole (omega (arith, ints))
one_part all false true k parts = rw parts.whole (omega (arith, ints))
one_part all false false k parts = rw parts.whole (omega (arith, ints))

pub sum_parts : (all one other : Use → Bool) → ((a_use : Use) → Parts (all a_use) (one a_use) (other a_use)) → (uses : List Use) (sizes : List ℤ)
    → lowered_where all uses sizes ≡ lowered_where one uses sizes +ℤ lowered_where other uses sizes
sum_parts all one other parts [] sizes = refl
sum_parts all one other parts (a_use ∷ uses) [] = refl
sum_parts all one other parts (a_use ∷ uses) (k ∷ ks) =
    let here = one_part (all a_use) (one a_use) (other a_use) k (parts a_use) in
    let later = sum_parts all one other parts uses ks in
    omega (arith, ints, here, later)

-- ---- one more task

module _ (done later : ℕ → Bool) (v : ℕ) (adds : AddsTask done v later) (fresh : done v ≡ false) where
  named_more : (otherwise : Bool) (named : Option ℕ) → is_done_or otherwise later named ≡ (is_done_or otherwise done named || is_named named v)
  named_more otherwise None = sym (or_false otherwise)
  named_more otherwise (Some u) = adds u

  produced_new : (named : Option ℕ) → is_named named v ≡ true → is_done_or true done named ≡ false
  produced_new None e = absurd cc
  produced_new (Some u) e = ap done (eqb-true u v e) ∙ fresh

  consumed_new : (named : Option ℕ) → is_named named v ≡ true → is_done_or false done named ≡ false
  consumed_new None e = absurd cc
  consumed_new (Some u) e = ap done (eqb-true u v e) ∙ fresh

  pub produced_more : (uses : List Use) (sizes : List ℤ)
      → lowered_where (is_there later) uses sizes ≡ lowered_where (is_there done) uses sizes +ℤ lowered_where (is_made_for_use v) uses sizes
  produced_more = sum_parts (is_there later) (is_there done) (is_made_for_use v) (λ a_use. record { whole = named_more true a_use.from; apart = produced_new a_use.from })

  pub consumed_more : (uses : List Use) (sizes : List ℤ)
      → lowered_where (is_over later) uses sizes ≡ lowered_where (is_over done) uses sizes +ℤ lowered_where (is_used_by v) uses sizes
  consumed_more = sum_parts (is_over later) (is_over done) (is_used_by v) (λ a_use. record { whole = named_more false a_use.to; apart = consumed_new a_use.to })

-- ---- what is present in a state

-- what is consumed in a state has been produced
consumed_first : (done : ℕ → Bool) (to : Option ℕ) (produced : Bool)
    → ((v : ℕ) → done v ≡ true → (not (is_named to v) || produced) ≡ true) → is_done_or false done to ≡ true → produced ≡ true
consumed_first done None produced state e = absurd cc
consumed_first done (Some u) produced state e = (let h : (not (eqb u u) || produced) ≡ true = state u e in let h' : produced ≡ true = rw (eq-eqb u u refl) at h in h')

present_part : (produced consumed : Bool) → (consumed ≡ true → produced ≡ true) → Parts produced (produced && not consumed) consumed
present_part true true order = record { whole = refl; apart = λ e. refl }
present_part true false order = record { whole = refl; apart = λ e. absurd cc }
present_part false true order = absurd (let f = order refl in cc)
present_part false false order = record { whole = refl; apart = λ e. refl }

pub present_is : (done : ℕ → Bool) (uses : List Use) (sizes : List ℤ)
    → ((v : ℕ) → done v ≡ true → list_all (λ a_use. not (is_used_by v a_use) || is_there done a_use) uses ≡ true)
    → lowered_where (is_there done) uses sizes ≡ lowered_where (is_held_for done) uses sizes +ℤ lowered_where (is_over done) uses sizes
present_is done [] sizes state = refl
present_is done (a_use ∷ uses) [] state = refl
present_is done (a_use ∷ uses) (k ∷ ks) state =
    let each = λ (v : ℕ) (e : done v ≡ true). and_parts (not (is_used_by v a_use) || is_there done a_use) (list_all (λ a_use. not (is_used_by v a_use) || is_there done a_use) uses) (state v e) in
    let here = one_part (is_there done a_use) (is_held_for done a_use) (is_over done a_use) k (present_part (is_there done a_use) (is_over done a_use) (consumed_first done a_use.to (is_there done a_use) (λ v e. (each v e).0))) in
    let later = present_is done uses ks (λ v e. (each v e).1) in
    omega (arith, ints, here, later)

-- ---- tasks that run one after the other, none of which lowers the memory

module _ (uses : List Use) (sizes : List ℤ) where
  -- what is produced less what is consumed
  pub level : (ℕ → Bool) → ℤ
  level done = lowered_where (is_there done) uses sizes -ℤ lowered_where (is_over done) uses sizes

  pub level_is : (done : ℕ → Bool) → ((v : ℕ) → done v ≡ true → list_all (λ a_use. not (is_used_by v a_use) || is_there done a_use) uses ≡ true)
      → level done ≡ lowered_where (is_held_for done) uses sizes
  unfolding level
  level_is done state = omega (arith, ints, present_is done uses sizes state)

  level_more : (done later : ℕ → Bool) (v : ℕ) → AddsTask done v later → (done v ≡ false → lowered_where (is_used_by v) uses sizes ≤ℤ lowered_where (is_made_for_use v) uses sizes)
      → level done ≤ℤ level later
  unfolding level
  level_more done later v adds rising = elim (cases_Bool (done v)) [
    | inl passed ↦ (
        let same : later ≡ done = fun_ext (λ u. adds u ∙ no_more u passed) in
        rw same (omega (arith, ints)))
    | inr failed ↦ omega (arith, ints, rising failed, produced_more done later v adds failed uses sizes, consumed_more done later v adds failed uses sizes)
  ] where
    no_more : (u : ℕ) → done v ≡ true → (done u || eqb u v) ≡ done u
    no_more u passed = elim (cases_eq u v) [
      | inl same ↦ rw (ap done same ∙ passed) refl
      | inr other ↦ rw (ne_eqb u v other) (or_false (done u))
    ]

  pub rises : (xs : List ℕ) (done : ℕ → Bool) → ((v : ℕ) → stands_in xs v ≡ true → done v ≡ false → lowered_where (is_used_by v) uses sizes ≤ℤ lowered_where (is_made_for_use v) uses sizes)
      → level done ≤ℤ level (λ u. done u || stands_in xs u)
  rises [] done rising = rw (fun_ext (λ u. or_false (done u))) (omega (arith, ints))
  rises (x ∷ xs) done rising =
      let next : ℕ → Bool = λ u. done u || eqb x u in
      let one = level_more done next x (λ u. ap (λ (b : Bool). done u || b) (eqb_flip x u)) (rising x (stands_in-head x xs)) in
      let rest = rises xs next (λ v stands new. let parts = neither (done v) (eqb x v) new in rising v (rw stands (or-true (eqb x v))) parts.0) in
      let same : (λ (u : ℕ). next u || stands_in xs u) ≡ (λ (u : ℕ). done u || stands_in (x ∷ xs) u) = fun_ext (λ u. or_assoc (done u) (eqb x u) (stands_in xs u)) in
      omega (arith, ints, one, rest, ap level same)
