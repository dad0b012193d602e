-- How often each task stands in a list: all of 1 to n together stand as often as the list is long.
use Rattle.std.proofs.Common.{◌≡◌, ℕ, zero, suc, ◌+◌, ◌<◌, ◌≤◌, true, false, cond, eqb}
use Rattle.std.proofs.Common.{eq-eqb, List, [], ◌∷◌, length, refl, arith, inl, inr}
use Rattle.std.specs.Prelude.{All}
use Rattle.std.specs.List.{count_by, list_any}
use Rattle.std.proofs.lemmas.List.Elements.{All-head, All-tail}
use Rattle.std.proofs.lemmas.List.Sums.{sum_by-cons}
use Rattle.std.proofs.lemmas.Bool.{cases_eq, ne_eqb}

abbrev pub count_of : List ℕ → ℕ → ℕ
count_of order v = count_by (λ u. eqb u v) order

pub count_of-cons : (x : ℕ) (xs : List ℕ) (v : ℕ) → count_of (x ∷ xs) v ≡ cond (eqb x v) 1 0 + count_of xs v
count_of-cons x xs v = sum_by-cons (λ u. cond (eqb u v) 1 0) x xs

-- a number that stands in a list is counted there
pub counted : (xs : List ℕ) (v : ℕ) → list_any (λ u. eqb u v) xs ≡ true → 1 ≤ count_of xs v
counted [] v e = absurd cc
counted (x ∷ xs) v e = elim (cases_eq x v) [
  | inl same ↦ (let one : ◌≡◌ {A = ℕ} (cond (eqb x v) 1 0) 1 = rw (eq-eqb x v same) in omega (arith, one, count_of-cons x xs v))
  | inr other ↦
      (let e' : list_any (λ u. eqb u v) xs ≡ true = rw (ne_eqb x v other) at e in omega (arith, count_of-cons x xs v, counted xs v e'))
]

pub uncounted : (xs : List ℕ) (v : ℕ) → list_any (λ u. eqb u v) xs ≡ false → count_of xs v ≡ 0
uncounted [] v e = refl
uncounted (x ∷ xs) v e = elim (cases_eq x v) [
  | inl same ↦ absurd (let e' : true ≡ false = rw (eq-eqb x v same) at e in cc)
  | inr other ↦
      (let e' : list_any (λ u. eqb u v) xs ≡ false = rw (ne_eqb x v other) at e in let none : ◌≡◌ {A = ℕ} (cond (eqb x v) 1 0) 0 =
      rw (ne_eqb x v other) in omega (arith, none, count_of-cons x xs v, uncounted xs v e'))
]

-- ---- sums over 1 to n

total : (ℕ → ℕ) → ℕ → ℕ
total f zero = 0
total f (suc n) = total f n + f (suc n)

total-sum : (f g h : ℕ → ℕ) → ((v : ℕ) → h v ≡ f v + g v) → (n : ℕ) → total h n ≡ total f n + total g n
unfolding total
total-sum f g h each zero = refl
total-sum f g h each (suc n) = omega (arith, each (suc n), total-sum f g h each n)

total-past : (x n : ℕ) → n < x → total (λ v. cond (eqb x v) 1 0) n ≡ 0
unfolding total
total-past x zero lt = refl
total-past x (suc n) lt =
    (let none : ◌≡◌ {A = ℕ} (cond (eqb x (suc n)) 1 0) 0 = rw (ne_eqb x (suc n) (λ e. omega arith)) in
    omega (arith, none, total-past x n (omega arith)))

total-one : (x n : ℕ) → 1 ≤ x → x ≤ n → total (λ v. cond (eqb x v) 1 0) n ≡ 1
unfolding total
total-one x zero low high = absurd (omega arith)
total-one x (suc n) low high = elim (cases_eq x (suc n)) [
  | inl same ↦
      (let one : ◌≡◌ {A = ℕ} (cond (eqb x (suc n)) 1 0) 1 = rw (eq-eqb x (suc n) same) in omega (arith, one, total-past x n (omega arith)))
  | inr other ↦
      (let none : ◌≡◌ {A = ℕ} (cond (eqb x (suc n)) 1 0) 0 = rw (ne_eqb x (suc n) other) in
      omega (arith, none, total-one x n low (omega arith)))
]

total-none : (n : ℕ) → total (λ v. count_of [] v) n ≡ 0
unfolding total
total-none zero = refl
total-none (suc n) = omega (arith, total-none n)

-- each element of the list is counted at one number
total-length : (n : ℕ) (xs : List ℕ) → All (λ x. (1 ≤ x) × (x ≤ n)) xs → total (count_of xs) n ≡ length xs
total-length n [] within = total-none n
total-length n (x ∷ xs) within =
    let range = All-head (λ x. (1 ≤ x) × (x ≤ n)) x xs within in
    let rest = total-length n xs (All-tail (λ x. (1 ≤ x) × (x ≤ n)) x xs within) in
    omega (
      arith,
      total-sum (λ v. cond (eqb x v) 1 0) (count_of xs) (count_of (x ∷ xs)) (count_of-cons x xs) n,
      total-one x n range.0 range.1,
      rest,
    )

total-le : (f : ℕ → ℕ) → ((v : ℕ) → f v ≤ 1) → (n : ℕ) → total f n ≤ n
unfolding total
total-le f few zero = omega arith
total-le f few (suc n) = omega (arith, few (suc n), total-le f few n)

total-full : (f : ℕ → ℕ) → ((v : ℕ) → f v ≤ 1) → (n : ℕ) → n ≤ total f n → (v : ℕ) → 1 ≤ v → v ≤ n → f v ≡ 1
unfolding total
total-full f few zero full v low high = absurd (omega arith)
total-full f few (suc n) full v low high = elim (cases_eq v (suc n)) [
  | inl same ↦ rw same (omega (arith, few (suc n), total-le f few n))
  | inr other ↦ total-full f few n (omega (arith, few (suc n))) v low (omega arith)
]

total-ones : (f : ℕ → ℕ) (n : ℕ) → ((v : ℕ) → 1 ≤ v → v ≤ n → f v ≡ 1) → total f n ≡ n
unfolding total
total-ones f zero each = refl
total-ones f (suc n) each = omega (arith, each (suc n) (omega arith) (omega arith), total-ones f n (λ v low high. each v low (omega arith)))

-- ---- lists as long as their range

module _ (n : ℕ) (xs : List ℕ) (within : All (λ x. (1 ≤ x) × (x ≤ n)) xs) where
  -- where no number stands twice and the list is long enough, each stands once
  pub once-from_length : ((v : ℕ) → count_of xs v ≤ 1) → n ≤ length xs → (v : ℕ) → 1 ≤ v → v ≤ n → count_of xs v ≡ 1
  once-from_length few long = total-full (count_of xs) few n (omega (arith, total-length n xs within))

  -- where each stands once, the list is as long as there are numbers
  pub length-from_once : ((v : ℕ) → 1 ≤ v → v ≤ n → count_of xs v ≡ 1) → length xs ≡ n
  length-from_once once = omega (arith, total-length n xs within, total-ones (count_of xs) n once)
