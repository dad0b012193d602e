-- What a search keeps from round to round, and what its end tells.
use Rattle.std.proofs.Common.{◌≡◌, ℕ, ◌+◌, ◌<◌, ◌≤◌, Bool, true, false, ◌||◌, eqb, eq-eqb, List, [], ◌∷◌, ◌++◌, ◌⊎◌, inl, inr, Option, Some, None}
use Rattle.std.proofs.Common.{length, refl, sym, ap, subst, ◌∙◌, arith}
use Rattle.std.specs.Prelude.{MatchOption}
use Rattle.std.proofs.lemmas.List.{length-append}
use Rattle.std.proofs.lemmas.Bool.{cases_lt, or_cases, or_left, eqb-true}
use Rattle.mp_system.specs.Memory.{stands_in}
use Rattle.shared_systems.specs.Shared.{SharedTaskSystem}
use Rattle.shared_systems.proofs.Steps.{stands_push}
use Rattle.state_search.specs.States.{all_done, state_at, memory_in}
use Rattle.state_search.specs.Shown.{AreNoStart}
use Rattle.state_search.specs.Kept.{KeptStates, AreLookedAt, IsFollowed, Extends}
use Rattle.state_search.proofs.Closing.{followed_more, no_start}

-- where nothing is taken out of a list, it is empty
pub nothing_waits : (taken : Option ℕ) (waiting : List ℕ) (len left : ℕ) (Q : ℕ → Type 0) → len ≡ length waiting
    → MatchOption taken ((len ≡ 0) × (left ≡ 0)) Q → ((place : ℕ) → taken ≡ Some place → ⊥) → waiting ≡ []
nothing_waits None [] len left Q long cases none = refl
nothing_waits None (x ∷ xs) len left Q long cases none = absurd (omega (arith, cases.0, long))
nothing_waits (Some place) waiting len left Q long cases none = absurd (none place refl)

-- each state that is kept waits, or is followed, where there are not too many; as many waited before as there were rounds
pub record AreExploring (system : SharedTaskSystem) (bound most : ℕ) (states : KeptStates) (waiting : List ℕ) (round : ℕ) : Type 0 where
  pub looked : AreLookedAt system bound states
  pub some : memory_in system (all_done system) < bound → 0 < length states.rows
  pub followed : length states.rows ≤ most → (i : ℕ) → i < length states.rows
      → (stands_in waiting i ≡ true) ⊎ IsFollowed system bound states.rows (state_at states.rows i)
  pub inside : (i : ℕ) → stands_in waiting i ≡ true → i < length states.rows
  pub count : round + length waiting ≡ length states.rows

module _ (system : SharedTaskSystem) (bound most : ℕ) (states : KeptStates) (waiting : List ℕ) where
  module _ (round : ℕ) (exploring : AreExploring system bound most states waiting round) where
    all_followed : length states.rows ≤ most → waiting ≡ [] → (i : ℕ) → i < length states.rows
        → IsFollowed system bound states.rows (state_at states.rows i)
    all_followed few none i lt = elim (exploring.followed few i lt) [
      | inl waits ↦ absurd (let f : false ≡ true = sym (ap (λ (l : List ℕ). stands_in l i) none) ∙ waits in cc)
      | inr followed ↦ followed
    ]

    -- where nothing waits, the start is not looked at
    pub exploring_closes : length states.rows ≤ most → waiting ≡ [] → AreNoStart system bound (length states.rows)
    exploring_closes few none = no_start system bound states exploring.looked exploring.some (all_followed few none)

    module _ (rest : List ℕ) (place : ℕ) (is : waiting ≡ rest ++ place ∷ []) where
      or_right : (b : Bool) → (b || true) ≡ true
      or_right true = refl
      or_right false = refl

      split : (i : ℕ) → stands_in waiting i ≡ (stands_in rest i || eqb place i)
      split i = ap (λ (l : List ℕ). stands_in l i) is ∙ stands_push rest place i

      pub place_inside : place < length states.rows
      place_inside = exploring.inside place
          (split place ∙ ap (λ (b : Bool). stands_in rest place || b) (eq-eqb place place refl) ∙ or_right (stands_in rest place))

      -- the search went on from the state whose place waited last
      pub exploring_on : (new : KeptStates) (later : List ℕ) → AreLookedAt system bound new → Extends states.rows rest new.rows later
          → (length new.rows ≤ most → IsFollowed system bound new.rows (state_at states.rows place))
          → AreExploring system bound most new later (round + 1)
      exploring_on new later looked extends here = record {
        looked = looked;
        some = λ low. omega (arith, exploring.some low, extends.longer);
        followed = followed;
        inside = extends.inside (λ i e. exploring.inside i (split i ∙ or_left (stands_in rest i) (eqb place i) e));
        count = omega (
          arith,
          exploring.count,
          extends.balanced,
          extends.longer,
          ap (λ (l : List ℕ). length l) is,
          length-append rest (place ∷ []),
        );
      }
        where
          old : length new.rows ≤ most → (i : ℕ) → i < length states.rows
              → (stands_in later i ≡ true) ⊎ IsFollowed system bound new.rows (state_at states.rows i)
          old few i lt = elim (exploring.followed (omega (arith, few, extends.longer)) i lt) [
            | inl waits ↦ elim (or_cases (stands_in rest i) (eqb place i) (sym (split i) ∙ waits)) [
              | inl still ↦ inl (extends.waits i still)
              | inr same ↦ inr (subst (λ (k : ℕ). IsFollowed system bound new.rows (state_at states.rows k)) (eqb-true place i same) (here few))
            ]
            | inr went ↦ inr (followed_more system bound states.rows rest new.rows later (state_at states.rows i) extends went)
          ]

          followed : length new.rows ≤ most → (i : ℕ) → i < length new.rows
              → (stands_in later i ≡ true) ⊎ IsFollowed system bound new.rows (state_at new.rows i)
          followed few i lt = elim (cases_lt i (length states.rows)) [
            | inl earlier ↦ elim (old few i earlier) [
              | inl waits ↦ inl waits
              | inr went ↦ inr (subst (IsFollowed system bound new.rows) (sym (extends.same i earlier)) went)
            ]
            | inr past ↦ inl (extends.fresh i past lt)
          ]
