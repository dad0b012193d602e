-- Where each state that is kept is followed, all that are looked at are kept.
use Rattle.std.proofs.Common.{◌≡◌, ℕ, zero, suc, ◌<◌, Bool, List, [], ◌∷◌, length, get_or, sym, ap, subst, ◌∙◌, arith, inl, inr}
use Rattle.std.specs.Prelude.{All}
use Rattle.std.proofs.lemmas.List.Elements.{All-head, All-tail}
use Rattle.std.proofs.lemmas.Bool.{cases_order}
use Rattle.indexmap.proofs.IndexTableLemmas.Probe.{pigeonhole}
use Rattle.shared_systems.specs.Shared.{SharedTaskSystem}
use Rattle.state_search.specs.States.{none_done, all_done, without, state_at, memory_in, IsLookedAt, IsStepBack, end, back, HasManyStates}
use Rattle.state_search.specs.Shown.{AreNoStart}
use Rattle.state_search.specs.Kept.{KeptStates, IsKept, AreLookedAt, IsFollowed, Extends}
use Rattle.state_search.proofs.Keeping.{kept_on}

pub followed_more : (system : SharedTaskSystem) (bound : ℕ) (rows : List (List Bool)) (waiting : List ℕ) (more : List (List Bool)) (later : List ℕ)
    (marks : List Bool) → Extends rows waiting more later → IsFollowed system bound rows marks → IsFollowed system bound more marks
followed_more system bound rows waiting more later marks extends followed = record {
  not_start = followed.not_start;
  followed = λ v step. kept_on rows waiting more later (without marks v) extends (followed.followed v step);
}

module _ (system : SharedTaskSystem) (bound : ℕ) (states : KeptStates) (are : AreLookedAt system bound states)
    (some : memory_in system (all_done system) < bound → 0 < length states.rows)
    (all : (i : ℕ) → i < length states.rows → IsFollowed system bound states.rows (state_at states.rows i)) where
  looked_kept : {marks : List Bool} → IsLookedAt system bound marks → IsKept states.rows marks
  looked_kept (end low) = record { place = 0; inside = some low; is = are.first (some low) }
  looked_kept (back {marks} {v} looked step) =
      let kept = looked_kept looked in
      let on = (all kept.place kept.inside).followed v (subst (λ (m : List Bool). IsStepBack system bound m v) (sym kept.is) step) in
      subst (λ (m : List Bool). IsKept states.rows (without m v)) kept.is on

  not_start : ¬ IsLookedAt system bound (none_done system)
  not_start looked = let kept = looked_kept looked in (all kept.place kept.inside).not_start kept.is

  -- where each of these states is kept
  record Places (marks : List (List Bool)) : Type 0 where
    list : List ℕ
    at : (i : ℕ) → i < length marks → (get_or list i 0 < length states.rows) × (state_at states.rows (get_or list i 0) ≡ state_at marks i)

  place_of : (row : List Bool) (rows : List (List Bool)) → IsKept states.rows row → Places rows → Places (row ∷ rows)
  place_of row rows kept rest = record { list = kept.place ∷ rest.list; at = at }
    where
      at : (i : ℕ) → i < length (row ∷ rows) → (get_or (kept.place ∷ rest.list) i 0 < length states.rows)
          × (state_at states.rows (get_or (kept.place ∷ rest.list) i 0) ≡ state_at (row ∷ rows) i)
      at zero lt = (kept.inside, kept.is)
      at (suc i) lt = rest.at i (omega arith)

  places_of : (rows : List (List Bool)) → All (IsLookedAt system bound) rows → Places rows
  places_of [] each = record { list = []; at = λ i lt. absurd (omega arith) }
  places_of (row ∷ rows) each =
      place_of row rows (looked_kept (All-head (IsLookedAt system bound) row rows each))
      (places_of rows (All-tail (IsLookedAt system bound) row rows each))

  module _ (other : HasManyStates system bound (length states.rows)) where
    places : Places other.states
    places = places_of other.states other.each

    apart : (i j : ℕ) → i < length other.states → j < length other.states → get_or places.list i 0 ≡ get_or places.list j 0 → i ≡ j
    apart i j in_i in_j same =
        let rows_same = sym (places.at i in_i).1 ∙ ap (state_at states.rows) same ∙ (places.at j in_j).1 in
        elim (cases_order i j) [
          | inl here ↦ here
          | inr order ↦ elim order [
            | inl below ↦ absurd (other.apart i j below in_j rows_same)
            | inr above ↦ absurd (other.apart j i above in_i (sym rows_same))
          ]
        ]

    not_many : ⊥
    not_many =
        omega (
          arith,
          other.many,
          pigeonhole (length other.states) (length states.rows) (λ i. get_or places.list i 0) (λ i lt. (places.at i lt).0) apart,
        )

  -- the start is not looked at, and no more states are than are kept
  pub no_start : AreNoStart system bound (length states.rows)
  no_start = record { start = not_start; few = not_many }
