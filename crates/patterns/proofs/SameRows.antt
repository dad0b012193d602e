-- Pairs have one pattern, and which it is.
use Rattle.std.proofs.Common.{◌≡◌, ◌≢◌, ℕ, zero, suc, ◌+◌, ◌-◌, ◌<◌, ◌≤◌, inl, inr, Bool, true, false, ◌&&◌}
use Rattle.std.proofs.Common.{List, [], ◌∷◌, length, get_or, refl, sym, ap, subst, ◌∙◌, arith, All}
use Rattle.std.specs.List.{filter, range_with_len}
use Rattle.std.specs.List.Sorted.{IsStrictlyIncreasing}
use Rattle.std.proofs.lemmas.Bool.{cases_eq, cases_lt, cases_Bool, eq-eqb, ne_eqb, false_from_ne_true, both_ways, and_right}
use Rattle.std.proofs.lemmas.List.{get_or_past, get_or_default, same_lists}
use Rattle.std.proofs.lemmas.List.Kept.{IsStrictlyIncreasing-filter}
use Rattle.std.proofs.lemmas.List.FromFn.{length-range_with_len, get_or-range_with_len, length-map-range_with_len}
use Rattle.std.proofs.lemmas.List.FromFn.{get_or-map-range_with_len}
use Rattle.limits.specs.Limits.{most_order}
use Rattle.patterns.specs.Pattern.{neighbours_of, has, is_joined, are_named, IsPairWithin, IsPatternOf}
use Rattle.patterns.specs.Plain.{plain_rows}
use Rattle.row_table.proofs.NumberLists.{has_at, place_of, rises}
use Rattle.patterns.proofs.PatternLemmas.{named_within, is_pattern_of}
use Rattle.lists.proofs.Lists.{range_rising, rising-tail}

-- ---- rising lists with the same numbers are one

pub above_head : (x : ℕ) (xs : List ℕ) (y : ℕ) → IsStrictlyIncreasing (x ∷ xs) → has xs y ≡ true → x < y
above_head x xs y rising there =
    let place = place_of xs y there in
    let lt = place.1 in
    let up = rises (x ∷ xs) rising 0 (suc place.0) (omega arith) (omega arith) in
    rw (place.2) at up

pub not_in_tail : (x : ℕ) (xs : List ℕ) (y : ℕ) → IsStrictlyIncreasing (x ∷ xs) → y ≤ x → has xs y ≡ false
not_in_tail x xs y rising le = false_from_ne_true (has xs y) (λ there. absurd (let up = above_head x xs y rising there in omega arith))

pub in_tail : (x : ℕ) (xs : List ℕ) (y : ℕ) → x ≢ y → has (x ∷ xs) y ≡ has xs y
in_tail x xs y other = rw (ne_eqb x y other) refl

pub head_in : (x : ℕ) (xs : List ℕ) → has (x ∷ xs) x ≡ true
head_in x xs = rw (eq-eqb x x refl) refl

pub same_heads : (x y : ℕ) (xs ys : List ℕ) → IsStrictlyIncreasing (x ∷ xs)
    → IsStrictlyIncreasing (y ∷ ys) → ((z : ℕ) → has (x ∷ xs) z ≡ has (y ∷ ys) z) → x ≡ y
same_heads x y xs ys one two same =
    elim (cases_eq x y) [
      | inl e ↦ e
      | inr other ↦ absurd (
          let x_there : has ys x ≡ true = sym (in_tail y ys x (λ e. other (sym e))) ∙ sym (same x) ∙ head_in x xs in
          let y_there : has xs y ≡ true = sym (in_tail x xs y other) ∙ same y ∙ head_in y ys in
          let up = above_head y ys x two x_there in
          let down = above_head x xs y one y_there in
          omega arith
          )
    ]

pub rising_same : (xs ys : List ℕ) → IsStrictlyIncreasing xs → IsStrictlyIncreasing ys → ((z : ℕ) → has xs z ≡ has ys z) → xs ≡ ys
rising_same [] [] one two same = refl
rising_same [] (y ∷ ys) one two same = absurd (both_ways false refl (same y ∙ head_in y ys))
rising_same (x ∷ xs) [] one two same = absurd (both_ways false refl (sym (same x) ∙ head_in x xs))
rising_same (x ∷ xs) (y ∷ ys) one two same =
    let heads = same_heads x y xs ys one two same in
    let tails = λ (z : ℕ). elim (cases_eq x z) as (λ _. has xs z ≡ has ys z) [
      | inl here ↦ not_in_tail x xs z one (omega arith) ∙ sym (not_in_tail y ys z two (omega arith))
      | inr other ↦ sym (in_tail x xs z other) ∙ same z ∙ in_tail y ys z (λ e. other (heads ∙ e))
    ] in
    let rest : xs ≡ ys = rising_same xs ys (rising-tail x xs one) (rising-tail y ys two) tails in
    cc

-- ---- patterns of the same pairs are one

pub same_patterns : (order : ℕ) (pairs : List (ℕ × ℕ)) (one two : List (List ℕ))
    → IsPatternOf order pairs one → IsPatternOf order pairs two → one ≡ two
same_patterns order pairs one two first second =
    same_lists one two (first.order_is ∙ sym second.order_is) (λ k d lt.
    let lt_two : k < length two = omega (arith, first.order_is, second.order_is) in
    let row_one : get_or one k d ≡ get_or one k [] = default one k d lt in
    let row_two : get_or two k d ≡ get_or two k [] = default two k d lt_two in
    row_one
    ∙ rising_same (get_or one k []) (get_or two k []) (first.pattern.rising (suc k))
    (second.pattern.rising (suc k)) (λ z. first.joined (suc k) z ∙ sym (second.joined (suc k) z))
    ∙ sym row_two) where
      default : (xs : List (List ℕ)) (k : ℕ) (d : List ℕ) → k < length xs → get_or xs k d ≡ get_or xs k []
      default xs k d lt = get_or_default xs k d [] lt

-- ---- the plain pattern

pub in_range : (a n b : ℕ) → a ≤ b → b < a + n → has (range_with_len a n) b ≡ true
in_range a n b low high =
    let at : a + (b - a) ≡ b = omega arith in
    subst (λ (y : ℕ). has (range_with_len a n) y ≡ true) (get_or-range_with_len a n (b - a) 0 (omega arith) ∙ at)
    (has_at (range_with_len a n) (b - a) (omega (arith, length-range_with_len a n)))

has_filter : (p : ℕ → Bool) (xs : List ℕ) (b : ℕ) → has (filter p xs) b ≡ (p b && has xs b)
has_filter p [] b = sym (and_right (p b) false refl)
has_filter p (x ∷ xs) b =
    elim (cases_eq x b) [
      | inl same ↦ elim (cases_Bool (p x)) [
        | inl holds ↦ (let yes_b : p b ≡ true = ap p (sym same) ∙ holds in rw (holds, yes_b, eq-eqb x b same) refl)
        | inr fails ↦ (let no_b : p b ≡ false = ap p (sym same) ∙ fails in rw fails (has_filter p xs b ∙ rw no_b refl))
      ]
      | inr other ↦ elim (cases_Bool (p x)) [
        | inl holds ↦ rw (holds, ne_eqb x b other) (has_filter p xs b)
        | inr fails ↦ rw (fails, ne_eqb x b other) (has_filter p xs b)
      ]
    ]

module _ (order : ℕ) (pairs : List (ℕ × ℕ)) (within : All (IsPairWithin order) pairs) where
  row_is : (i : ℕ) → i < order → neighbours_of (plain_rows order pairs) (suc i) ≡ filter (are_named pairs (suc i)) (range_with_len 1 order)
  row_is i lt = get_or-map-range_with_len (λ v. filter (are_named pairs v) (range_with_len 1 order)) 1 order i (suc i) [] lt (omega arith)

  row_none : (i : ℕ) → order ≤ i → neighbours_of (plain_rows order pairs) (suc i) ≡ []
  row_none i past = get_or_past (plain_rows order pairs) i []
      (omega (arith, length-map-range_with_len (λ v. filter (are_named pairs v) (range_with_len 1 order)) 1 order))

  outside : (a b : ℕ) → (((1 ≤ a) × (a ≤ order)) × ((1 ≤ b) × (b ≤ order)) → ⊥) → are_named pairs a b ≡ false
  outside a b out = false_from_ne_true (are_named pairs a b) (λ named. out (named_within order pairs a b within named))

  row_rising : (v : ℕ) → IsStrictlyIncreasing (neighbours_of (plain_rows order pairs) v)
  row_rising zero = λ k lt. absurd (omega arith)
  row_rising (suc i) = elim (cases_lt i order) [
    | inl lt ↦ rw (row_is i lt) (IsStrictlyIncreasing-filter (are_named pairs (suc i)) (range_with_len 1 order) (range_rising 1 order))
    | inr past ↦ rw (row_none i past) (λ k lt. absurd (omega arith))
  ]

  kept : (i b : ℕ) → (are_named pairs (suc i) b && has (range_with_len 1 order) b) ≡ are_named pairs (suc i) b
  kept i b = elim (cases_Bool (are_named pairs (suc i) b)) [
    | inl holds ↦
        (let w = (named_within order pairs (suc i) b within holds).1 in rw (holds, in_range 1 order b w.0 (omega (arith, w.1))) refl)
    | inr fails ↦ rw fails refl
  ]

  row_joined : (a b : ℕ) → is_joined (plain_rows order pairs) a b ≡ are_named pairs a b
  row_joined zero b = sym (outside zero b (λ w. absurd (let some = w.0.0 in omega arith)))
  row_joined (suc i) b = elim (cases_lt i order) [
    | inl lt ↦ ap (λ (l : List ℕ). has l b) (row_is i lt) ∙ has_filter (are_named pairs (suc i)) (range_with_len 1 order) b ∙ kept i b
    | inr past ↦ ap (λ (l : List ℕ). has l b) (row_none i past) ∙ sym (outside (suc i) b (λ w. absurd (let most = w.0.1 in omega arith)))
  ]

  pub plain_pattern : 1 ≤ order → order ≤ most_order → IsPatternOf order pairs (plain_rows order pairs)
  plain_pattern some small =
      is_pattern_of order pairs (plain_rows order pairs) (some, small) within
      (length-map-range_with_len (λ v. filter (are_named pairs v) (range_with_len 1 order)) 1 order) row_rising row_joined
