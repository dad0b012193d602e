-- Items whose readers are just the tasks of a leader, and lists with two numbers.
use Rattle.std.proofs.Common.{◌≡◌, ◌≢◌, ℕ, zero, suc, ◌+◌, ◌-◌, ◌<◌, ◌≤◌, Bool, true, false, eqb, List, [], ◌∷◌, length, get_or, set, map}
use Rattle.std.proofs.Common.{refl, sym, ap, subst, ◌∙◌, arith, inl, inr}
use Rattle.std.specs.Prelude.{◌↔◌}
use Rattle.std.specs.List.{list_all}
use Rattle.std.specs.Str.{bytes_eq}
use Rattle.std.proofs.lemmas.List.{get_or-set_same, get_or-set_other, get_or-map, length-map}
use Rattle.std.proofs.lemmas.Slice.Eq.{bytes_eq-Decides}
use Rattle.std.proofs.lemmas.Bool.{cases_lt, cases_eq, or_cases, or_left, or_right, eqb-true, eq-eqb, and_parts}
use Rattle.row_table.specs.Rows.{has, numbers_with}
use Rattle.shared_systems.specs.Shared.{SharedItem, shared_item_at}
use Rattle.joined_systems.specs.Needs.{HasTwo, IsReadByAll}
use Rattle.joined_systems.proofs.JoinNumbers.{all_from}

-- ---- what stands in a list

pub has_at : (xs : List ℕ) (i : ℕ) → i < length xs → has xs (get_or xs i 0) ≡ true
has_at [] i lt = absurd (omega arith)
has_at (x ∷ xs) zero lt = or_left (eqb x x) (has xs x) (eq-eqb x x refl)
has_at (x ∷ xs) (suc i) lt = or_right (eqb x (get_or xs i 0)) (has xs (get_or xs i 0)) (has_at xs i (omega arith))

pub has_place : (xs : List ℕ) (y : ℕ) → has xs y ≡ true → (i : ℕ) × ((i < length xs) × (get_or xs i 0 ≡ y))
has_place [] y e = absurd cc
has_place (x ∷ xs) y e = elim (or_cases (eqb x y) (has xs y) e) [
  | inl here ↦ (zero, (omega arith, eqb-true x y here))
  | inr later ↦ (let there = has_place xs y later in (suc there.0, (omega (arith, there.1.0), there.1.1)))
]

pub two_at : (xs : List ℕ) (i j : ℕ) → i < length xs → j < length xs → get_or xs i 0 ≢ get_or xs j 0 → HasTwo xs
two_at xs i j lt_i lt_j apart = elim (cases_lt (get_or xs i 0) (get_or xs j 0)) [
  | inl less ↦ record {
    first = get_or xs i 0;
    second = get_or xs j 0;
    order = less;
    first_in = has_at xs i lt_i;
    second_in = has_at xs j lt_j;
  }
  | inr more ↦ record {
    first = get_or xs j 0;
    second = get_or xs i 0;
    order = omega arith;
    first_in = has_at xs j lt_j;
    second_in = has_at xs i lt_i;
  }
]

module _ (f : List ℕ) (row : List ℕ) where
  mapped : (i : ℕ) → i < length row → get_or (map (λ p. get_or f p 0) row) i 0 ≡ get_or f (get_or row i 0) 0
  mapped i lt = get_or-map (λ p. get_or f p 0) row i 0 0 lt

  pub two_of : (i : ℕ) → i < length row → get_or f (get_or row i 0) 0 ≢ get_or f (get_or row 0 0) 0 → HasTwo (map (λ p. get_or f p 0) row)
  two_of i lt apart =
      let long = length-map row (λ p. get_or f p 0) in
      two_at (map (λ p. get_or f p 0) row) i 0 (omega (arith, long, lt)) (omega (arith, long, lt))
      (λ e. apart (sym (mapped i lt) ∙ e ∙ mapped 0 (omega arith)))

  pub one_of : ((k : ℕ) → k < length row → get_or f (get_or row k 0) 0 ≡ get_or f (get_or row 0 0) 0)
      → HasTwo (map (λ p. get_or f p 0) row) → ⊥
  one_of all two =
      let long = length-map row (λ p. get_or f p 0) in
      let first = has_place (map (λ p. get_or f p 0) row) two.first two.first_in in
      let second = has_place (map (λ p. get_or f p 0) row) two.second two.second_in in
      let lt_first : first.0 < length row = omega (arith, long, first.1.0) in
      let lt_second : second.0 < length row = omega (arith, long, second.1.0) in
      omega (
        arith,
        two.order,
        first.1.1,
        second.1.1,
        mapped first.0 lt_first,
        mapped second.0 lt_second,
        all first.0 lt_first,
        all second.0 lt_second,
      )

-- ---- marks

-- the first of some tasks of a leader has it
pub head_leads : (leaders readers : List ℕ) (v : ℕ) → 1 ≤ length readers → readers ≡ numbers_with leaders 1 v
    → get_or leaders (get_or readers 0 0 - 1) 0 ≡ v
head_leads leaders readers v some is =
    let test = λ (u : ℕ). eqb (get_or leaders (u - 1) 0) v in
    let all : list_all test readers ≡ true = ap (list_all test) is
    ∙ all_from test leaders 1 v
    (λ i lt e. (let place : 1 + i - 1 ≡ i = omega arith in eq-eqb (get_or leaders (1 + i - 1) 0) v (ap (λ (k : ℕ). get_or leaders k 0) place ∙ e))) in
    eqb-true (get_or leaders (get_or readers 0 0 - 1) 0) v (head test readers some all)
  where
    head : (test : ℕ → Bool) (xs : List ℕ) → 1 ≤ length xs → list_all test xs ≡ true → test (get_or xs 0 0) ≡ true
    head test [] low all = absurd (omega arith)
    head test (x ∷ xs) low all = (and_parts (test x) (list_all test xs) all).0

module _ (leaders : List ℕ) (items : List SharedItem) (i : ℕ) (old : List Bool)
    (are : (v : ℕ) → ((get_or old v false ≡ true) ↔ IsReadByAll leaders items i v)) where
  longer : (v : ℕ) → IsReadByAll leaders items i v → IsReadByAll leaders items (i + 1) v
  longer v is = record { place = is.place; inside = omega (arith, is.inside); several = is.several; just = is.just }

  shorter : (v : ℕ) (is : IsReadByAll leaders items (i + 1) v) → is.place < i → IsReadByAll leaders items i v
  shorter v is lt = record { place = is.place; inside = lt; several = is.several; just = is.just }

  -- the item at this place, if it is the one
  here_several : (v : ℕ) (is : IsReadByAll leaders items (i + 1) v) → i ≤ is.place → 2 ≤ length (shared_item_at items i).readers
  here_several v is le =
      let same : is.place ≡ i = omega (arith, is.inside, le) in
      subst (λ (k : ℕ). 2 ≤ length (shared_item_at items k).readers) same is.several

  here_just : (v : ℕ) (is : IsReadByAll leaders items (i + 1) v) → i ≤ is.place
      → (shared_item_at items i).readers ≡ numbers_with leaders 1 v
  here_just v is le =
      let same : is.place ≡ i = omega (arith, is.inside, le) in
      subst (λ (k : ℕ). (shared_item_at items k).readers ≡ numbers_with leaders 1 v) same is.just

  pub mark_few : length (shared_item_at items i).readers < 2 → (v : ℕ) → ((get_or old v false ≡ true) ↔ IsReadByAll leaders items (i + 1) v)
  mark_few few v = (
    λ e. longer v ((are v).0 e),
    λ is. elim (cases_lt is.place i) [
      | inl lt ↦ (are v).1 (shorter v is lt)
      | inr le ↦ absurd (omega (arith, here_several v is le, few))
    ],
  )

  module _ (readers row : List ℕ) (readers_are : readers ≡ (shared_item_at items i).readers)
      (row_is : row ≡ numbers_with leaders 1 (get_or leaders (get_or readers 0 0 - 1) 0)) where
    leads : (v : ℕ) (is : IsReadByAll leaders items (i + 1) v) → i ≤ is.place → get_or leaders (get_or readers 0 0 - 1) 0 ≡ v
    leads v is le = head_leads leaders readers v
        (omega (arith, here_several v is le, ap (λ (l : List ℕ). length l) readers_are)) (readers_are ∙ here_just v is le)

    pub mark_other : bytes_eq readers row ≡ false → (v : ℕ) → ((get_or old v false ≡ true) ↔ IsReadByAll leaders items (i + 1) v)
    mark_other differ v = (
      λ e. longer v ((are v).0 e),
      λ is. elim (cases_lt is.place i) [
        | inl lt ↦ (are v).1 (shorter v is lt)
        | inr le ↦ absurd (
            let equal : readers ≡ row = readers_are ∙ here_just v is le ∙ ap (numbers_with leaders 1) (sym (leads v is le)) ∙ sym row_is in
            let yes_equal = (bytes_eq-Decides readers row).1 equal in
            cc)
      ],
    )

    pub mark_this : 2 ≤ length readers → bytes_eq readers row ≡ true → get_or leaders (get_or readers 0 0 - 1) 0 < length old
        → (v : ℕ) → ((get_or (set old (get_or leaders (get_or readers 0 0 - 1) 0) true) v false ≡ true) ↔ IsReadByAll leaders items (i + 1) v)
    mark_this several same room v =
        let l = get_or leaders (get_or readers 0 0 - 1) 0 in
        let just : (shared_item_at items i).readers ≡ numbers_with leaders 1 l =
        sym readers_are ∙ (bytes_eq-Decides readers row).0 same ∙ row_is in
        let many = ap (λ (z : List ℕ). length z) readers_are in
        let new : IsReadByAll leaders items (i + 1) l =
        record { place = i; inside = omega arith; several = omega (arith, several, many); just = just } in
        let own : get_or (set old l true) l false ≡ true = get_or-set_same old l true false room in
        elim (cases_eq v l) [
          | inl is_l ↦ (
            λ e. subst (IsReadByAll leaders items (i + 1)) (sym is_l) new,
            λ is. ap (λ (w : ℕ). get_or (set old l true) w false) is_l ∙ own,
          )
          | inr other ↦ (
              let kept : get_or (set old l true) v false ≡ get_or old v false = get_or-set_other old l v true false other in (
                λ e. longer v ((are v).0 (sym kept ∙ e)),
                λ is. elim (cases_lt is.place i) [
                  | inl lt ↦ kept ∙ (are v).1 (shorter v is lt)
                  | inr le ↦ absurd (other (sym (leads v is le)))
                ],
              )
              )
        ]
