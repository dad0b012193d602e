-- Tests of the elements of a list, and sums of two numbers of each.
use Rattle.std.proofs.Common.{◌≡◌, ℕ, zero, suc, ◌+◌, ◌<◌, ◌≤◌, Bool, true, false, List, [], ◌∷◌, ◌⊎◌, inl, inr, length, get_or, sym, ap, ◌∙◌, arith}
use Rattle.std.specs.List.{list_any, list_all, sum_by}
use Rattle.std.proofs.lemmas.List.Sums.{sum_by-cons}
use Rattle.std.proofs.lemmas.Bool.{cases_Bool, cases_lt, or_cases, or_parts, or_left, or_right, and_parts, and_from}

module _ {X : Type 0} where
  -- where one test follows from another, so it does for some of the elements, and for all
  pub any_on : (p q : X → Bool) → ((x : X) → p x ≡ true → q x ≡ true) → (xs : List X) → list_any p xs ≡ true → list_any q xs ≡ true
  any_on p q on [] e = e
  any_on p q on (x ∷ xs) e = elim (or_cases (p x) (list_any p xs) e) [
    | inl here ↦ or_left (q x) (list_any q xs) (on x here)
    | inr there ↦ or_right (q x) (list_any q xs) (any_on p q on xs there)
  ]

  pub none_on : (p q : X → Bool) → ((x : X) → p x ≡ true → q x ≡ true) → (xs : List X) → list_any q xs ≡ false → list_any p xs ≡ false
  none_on p q on xs e = elim (cases_Bool (list_any p xs)) [
    | inl some ↦ absurd (let f : true ≡ false = sym (any_on p q on xs some) ∙ e in cc)
    | inr none ↦ none
  ]

  pub all_on : (t p q : X → Bool) → ((x : X) → t x ≡ false → p x ≡ true → q x ≡ true) → (xs : List X)
      → list_any t xs ≡ false → list_all p xs ≡ true → list_all q xs ≡ true
  all_on t p q on [] none e = e
  all_on t p q on (x ∷ xs) none e =
      let parts = or_parts (t x) (list_any t xs) none in
      let both = and_parts (p x) (list_all p xs) e in
      and_from (q x) (list_all q xs) (on x parts.0 both.0) (all_on t p q on xs parts.1 both.1)

  -- the place of an element that passes
  pub any_place : (p : X → Bool) (d : X) (xs : List X) → list_any p xs ≡ true → (i : ℕ) × (i < length xs) × (p (get_or xs i d) ≡ true)
  any_place p d [] e = absurd cc
  any_place p d (x ∷ xs) e = elim (or_cases (p x) (list_any p xs) e) [
    | inl here ↦ (0, omega arith, here)
    | inr there ↦ (let later = any_place p d xs there in (suc later.0, omega (arith, later.1), later.2))
  ]

  pub all_at : (p : X → Bool) (d : X) (xs : List X) (i : ℕ) → i < length xs → list_all p xs ≡ true → p (get_or xs i d) ≡ true
  all_at p d [] i lt e = absurd (omega arith)
  all_at p d (x ∷ xs) zero lt e = (and_parts (p x) (list_all p xs) e).0
  all_at p d (x ∷ xs) (suc i) lt e = all_at p d xs i (omega arith) (and_parts (p x) (list_all p xs) e).1

  -- ---- sums

  pub sums_le : (f g h k : X → ℕ) → ((x : X) → f x + g x ≤ h x + k x) → (xs : List X)
      → sum_by f xs + sum_by g xs ≤ sum_by h xs + sum_by k xs
  sums_le f g h k each [] = omega arith
  sums_le f g h k each (x ∷ xs) =
      omega (arith, each x, sums_le f g h k each xs, sum_by-cons f x xs, sum_by-cons g x xs, sum_by-cons h x xs, sum_by-cons k x xs)

  pub sums_same : (t : X → Bool) (f g h k : X → ℕ) → ((x : X) → t x ≡ false → f x + g x ≡ h x + k x) → (xs : List X)
      → list_any t xs ≡ false → sum_by f xs + sum_by g xs ≡ sum_by h xs + sum_by k xs
  sums_same t f g h k each [] none = omega arith
  sums_same t f g h k each (x ∷ xs) none =
      let parts = or_parts (t x) (list_any t xs) none in
      omega (arith, each x parts.0, sums_same t f g h k each xs parts.1, sum_by-cons f x xs, sum_by-cons g x xs, sum_by-cons h x xs, sum_by-cons k x xs)

-- the first number that passes, among the first ones
pub first_of : (f : ℕ → Bool) (n : ℕ)
    → ((v : ℕ) × (f v ≡ true) × ((w : ℕ) → w < v → f w ≡ false)) ⊎ ((w : ℕ) → w < n → f w ≡ false)
first_of f zero = inr (λ w lt. absurd (omega arith))
first_of f (suc n) = elim (first_of f n) [
  | inl found ↦ inl found
  | inr none ↦ elim (cases_Bool (f n)) [
    | inl here ↦ inl (n, here, none)
    | inr not_here ↦ inr (λ w lt. below w lt none not_here)
  ]
]
  where
    below : (w : ℕ) → w < suc n → ((u : ℕ) → u < n → f u ≡ false) → f n ≡ false → f w ≡ false
    below w lt none here = elim (cases_lt w n) [
      | inl less ↦ none w less
      | inr past ↦ (let same : w ≡ n = omega (arith, past, lt) in ap f same ∙ here)
    ]
