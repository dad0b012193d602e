-- One more state is kept; states that are kept are looked at.
use Rattle.std.proofs.Common.{◌≡◌, ◌≢◌, ℕ, zero, suc, ◌+◌, ◌≤◌, ◌<◌, Bool, List, [], ◌∷◌, ◌++◌, inl, inr}
use Rattle.std.proofs.Common.{length, sym, ap, subst, ◌∙◌, arith}
use Rattle.std.proofs.lemmas.List.{get_or_append_left, length-append}
use Rattle.std.proofs.lemmas.List.Elements.{All-from_get_or}
use Rattle.std.proofs.lemmas.Bool.{cases_lt}
use Rattle.std.proofs.Math.Seq.{get_or-append_seam}
use Rattle.shared_systems.specs.Shared.{SharedTaskSystem}
use Rattle.state_search.specs.declared.states.Link.{Link}
use Rattle.state_search.specs.States.{without, state_at, IsStepBack, IsLookedAt, end, back, HasManyStates}
use Rattle.state_search.specs.Kept.{KeptStates, link_at, IsKept, IsNew, IsBefore, AreLookedAt, Extends}

abbrev pub no_link : Link
no_link = record { next = 0; task = 0 }

module _ (rows more : List (List Bool)) (marks : List Bool) (is : more ≡ rows ++ marks ∷ []) where
  pub long : length more ≡ length rows + 1
  long = omega (arith, ap (λ (l : List (List Bool)). length l) is, length-append rows (marks ∷ []))

  pub before_it : (i : ℕ) → i < length rows → state_at more i ≡ state_at rows i
  before_it i lt = ap (λ (l : List (List Bool)). state_at l i) is ∙ get_or_append_left rows (marks ∷ []) [] i lt

  pub there : (i : ℕ) → i ≡ length rows → state_at more i ≡ marks
  there i here = ap (state_at more) here ∙ ap (λ (l : List (List Bool)). state_at l (length rows)) is ∙ get_or-append_seam rows marks [] []

  module _ (system : SharedTaskSystem) (bound : ℕ) where
    carried : (i : ℕ) (link : Link) (row : List Bool) → i ≤ length rows → IsBefore system bound rows i link row
        → IsBefore system bound more i link row
    carried i link row le by =
        let e = sym (before_it link.next (omega (arith, by.earlier))) in
        record {
          earlier = by.earlier;
          step = subst (λ (m : List Bool). IsStepBack system bound m link.task) e by.step;
          row_is = by.row_is ∙ ap (λ (m : List Bool). without m link.task) e;
        }

-- ---- a state that is kept

module _ (system : SharedTaskSystem) (bound : ℕ) (old new : KeptStates) (link : Link) (marks : List Bool)
    (rows_are : new.rows ≡ old.rows ++ marks ∷ []) (links_are : new.links ≡ old.links ++ link ∷ [])
    (was : AreLookedAt system bound old) (by : IsBefore system bound old.rows (length old.rows) link marks) (fresh : IsNew old.rows marks) where
  longer : length new.rows ≡ length old.rows + 1
  longer = long old.rows new.rows marks rows_are

  link_before : (i : ℕ) → i < length old.rows → link_at new.links i ≡ link_at old.links i
  link_before i lt = ap (λ (l : List Link). link_at l i) links_are ∙ get_or_append_left old.links (link ∷ []) no_link i (omega (arith, lt, was.links))

  link_there : (i : ℕ) → i ≡ length old.rows → link_at new.links i ≡ link
  link_there i here =
      let at : i ≡ length old.links = here ∙ sym was.links in
      ap (link_at new.links) at ∙ ap (λ (l : List Link). link_at l (length old.links)) links_are ∙ get_or-append_seam old.links link [] no_link

  before : (i : ℕ) → 0 < i → i < length new.rows → IsBefore system bound new.rows i (link_at new.links i) (state_at new.rows i)
  before i some lt = elim (cases_lt i (length old.rows)) [
    | inl earlier ↦
        subst (λ (l : Link). IsBefore system bound new.rows i l (state_at new.rows i)) (sym (link_before i earlier))
        (subst (λ (m : List Bool). IsBefore system bound new.rows i (link_at old.links i) m) (sym (before_it old.rows new.rows marks rows_are i earlier))
        (carried old.rows new.rows marks rows_are system bound i (link_at old.links i) (state_at old.rows i) (omega arith) (was.before i some earlier)))
    | inr last ↦ (
        let here : i ≡ length old.rows = omega (arith, last, lt, longer) in
        subst (λ (l : Link). IsBefore system bound new.rows i l (state_at new.rows i)) (sym (link_there i here))
        (subst (λ (m : List Bool). IsBefore system bound new.rows i link m) (sym (there old.rows new.rows marks rows_are i here))
        (subst (λ (k : ℕ). IsBefore system bound new.rows k link marks) (sym here)
        (carried old.rows new.rows marks rows_are system bound (length old.rows) link marks (omega arith) by))))
  ]

  apart : (i j : ℕ) → i < j → j < length new.rows → state_at new.rows i ≢ state_at new.rows j
  apart i j lt inside same =
      let first = before_it old.rows new.rows marks rows_are i (omega (arith, lt, inside, longer)) in
      elim (cases_lt j (length old.rows)) [
        | inl earlier ↦ was.apart i j lt earlier (sym first ∙ same ∙ before_it old.rows new.rows marks rows_are j earlier)
        | inr last ↦ (
            let here : j ≡ length old.rows = omega (arith, last, inside, longer) in
            fresh i (omega (arith, lt, here)) (sym first ∙ same ∙ there old.rows new.rows marks rows_are j here))
      ]

  pub looked_more : AreLookedAt system bound new
  looked_more = record {
    links = omega (arith, longer, ap (λ (l : List Link). length l) links_are, length-append old.links (link ∷ []), was.links);
    first = λ some. before_it old.rows new.rows marks rows_are 0 (omega (arith, by.earlier)) ∙ was.first (omega (arith, by.earlier));
    low = λ some. was.low (omega (arith, by.earlier));
    before = before;
    apart = apart;
  }

-- ---- what waits

module _ (rows : List (List Bool)) (waiting : List ℕ) (more : List (List Bool)) (later : List ℕ) (most : List (List Bool)) (last : List ℕ)
    (one : Extends rows waiting more later) (two : Extends more later most last) where
  pub extends_both : Extends rows waiting most last
  extends_both = record {
    longer = omega (arith, one.longer, two.longer);
    same = λ i lt. two.same i (omega (arith, lt, one.longer)) ∙ one.same i lt;
    waits = λ i e. two.waits i (one.waits i e);
    fresh = λ i low high. elim (cases_lt i (length more)) [
      | inl within ↦ two.waits i (one.fresh i low within)
      | inr past ↦ two.fresh i past high
    ];
    inside = λ all i e. two.inside (one.inside all) i e;
    balanced = omega (arith, one.balanced, two.balanced);
  }

pub kept_on : (rows : List (List Bool)) (waiting : List ℕ) (more : List (List Bool)) (later : List ℕ) (marks : List Bool)
    → Extends rows waiting more later → IsKept rows marks → IsKept more marks
kept_on rows waiting more later marks extends kept = record {
  place = kept.place;
  inside = omega (arith, kept.inside, extends.longer);
  is = extends.same kept.place kept.inside ∙ kept.is;
}

-- ---- the states that are kept are looked at

module _ (system : SharedTaskSystem) (bound : ℕ) (states : KeptStates) (are : AreLookedAt system bound states) where
  looked : (n i : ℕ) → i < n → i < length states.rows → IsLookedAt system bound (state_at states.rows i)
  looked zero i lt inside = absurd (omega arith)
  looked (suc n) zero lt inside = subst (IsLookedAt system bound) (sym (are.first inside)) (end (are.low inside))
  looked (suc n) (suc i) lt inside =
      let by = are.before (suc i) (omega arith) inside in
      let next = looked n (link_at states.links (suc i)).next (omega (arith, by.earlier, lt)) (omega (arith, by.earlier, inside)) in
      subst (IsLookedAt system bound) (sym by.row_is) (back next by.step)

  pub row_looked : (i : ℕ) → i < length states.rows → IsLookedAt system bound (state_at states.rows i)
  row_looked i inside = looked (i + 1) i (omega arith) inside

  pub many_states : (most : ℕ) → most < length states.rows → HasManyStates system bound most
  many_states most many = record {
    states = states.rows;
    many = many;
    apart = are.apart;
    each = All-from_get_or (IsLookedAt system bound) states.rows [] (λ i lt. row_looked i lt);
  }
