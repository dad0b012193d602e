-- How often numbers stand in lists, and lists that have each number of a range once.
use Rattle.std.proofs.Common.{◌≡◌, ◌≢◌, ℕ, zero, suc, ◌+◌, ◌<◌, ◌≤◌, ◌⊎◌, inl, inr, Bool, true, false, cond, eqb, eq-eqb}
use Rattle.std.proofs.Common.{List, [], ◌∷◌, ◌++◌, count_by, filter, IsPermutation, refl, sym, ap, subst, ◌∙◌, arith}
use Rattle.std.specs.List.{range_with_len, AllByRecursion}
use Rattle.std.proofs.lemmas.List.Sums.{sum_by-cons, sum_by-append}
use Rattle.std.proofs.lemmas.List.Sorted.{IsPermutation-refl, IsPermutation-trans, IsPermutation-cons, IsPermutation-middle}
use Rattle.std.proofs.lemmas.Bool.{cases_eq, cases_lt, ne_eqb, true≢false}

abbrev pub bit : ℕ → ℕ → ℕ
bit u v = cond (eqb u v) 1 0

abbrev pub times : List ℕ → ℕ → ℕ
times xs v = count_by (λ u. eqb u v) xs

pub bit-same : (u v : ℕ) → u ≡ v → bit u v ≡ 1
bit-same u v e = rw (eq-eqb u v e) refl

pub bit-other : (u v : ℕ) → u ≢ v → bit u v ≡ 0
bit-other u v ne = rw (ne_eqb u v ne) refl

pub times-cons : (x : ℕ) (xs : List ℕ) (v : ℕ) → times (x ∷ xs) v ≡ bit x v + times xs v
times-cons x xs v = sum_by-cons (λ u. cond (eqb u v) 1 0) x xs

pub times-append : (xs ys : List ℕ) (v : ℕ) → times (xs ++ ys) v ≡ times xs v + times ys v
times-append xs ys v = sum_by-append (λ u. cond (eqb u v) 1 0) xs ys

-- ---- the numbers of a list that pass a test

pub times-filter : (p : ℕ → Bool) (xs : List ℕ) (v : ℕ) → p v ≡ true → times (filter p xs) v ≡ times xs v
times-filter p [] v passes = refl
times-filter p (x ∷ xs) v passes = go (p x) refl (times-filter p xs v passes) where
  go : (b : Bool) → p x ≡ b → times (filter p xs) v ≡ times xs v → times (filter p (x ∷ xs)) v ≡ times (x ∷ xs) v
  go true e rest = rw e (omega (arith, times-cons x (filter p xs) v, times-cons x xs v, rest))
  go false e rest = rw e (omega (arith, times-cons x xs v, rest, bit-other x v (λ same. true≢false (sym passes ∙ ap p (sym same) ∙ e))))

pub times-filter_none : (p : ℕ → Bool) (xs : List ℕ) (v : ℕ) → p v ≡ false → times (filter p xs) v ≡ 0
times-filter_none p [] v fails = refl
times-filter_none p (x ∷ xs) v fails = go (p x) refl (times-filter_none p xs v fails) where
  go : (b : Bool) → p x ≡ b → times (filter p xs) v ≡ 0 → times (filter p (x ∷ xs)) v ≡ 0
  go true e rest = rw e (omega (arith, times-cons x (filter p xs) v, rest, bit-other x v (λ same. true≢false (sym e ∙ ap p same ∙ fails))))
  go false e rest = rw e rest

-- ---- a range

pub times-range_low : (a n v : ℕ) → v < a → times (range_with_len a n) v ≡ 0
times-range_low a zero v lt = refl
times-range_low a (suc n) v lt =
    omega (
      arith,
      times-cons a (range_with_len (a + 1) n) v,
      bit-other a v (omega (arith, lt)),
      times-range_low (a + 1) n v (omega (arith, lt)),
    )

pub times-range : (a n v : ℕ) → a ≤ v → v < a + n → times (range_with_len a n) v ≡ 1
times-range a zero v low high = absurd (omega (arith, low, high))
times-range a (suc n) v low high = elim (cases_eq a v) [
  | inl same ↦
      omega (arith, times-cons a (range_with_len (a + 1) n) v, bit-same a v same, times-range_low (a + 1) n v (omega (arith, same)))
  | inr other ↦ omega (
    arith,
    times-cons a (range_with_len (a + 1) n) v,
    bit-other a v other,
    times-range (a + 1) n v (omega (arith, low, other)) (omega (arith, high)),
  )
]

-- what holds of each number of a range that passes a test
pub each-filter_range : (P : ℕ → Type 0) (p : ℕ → Bool) (a n : ℕ)
    → ((v : ℕ) → a ≤ v → v < a + n → p v ≡ true → P v) → AllByRecursion P (filter p (range_with_len a n))
each-filter_range P p a zero h = tt
each-filter_range P p a (suc n) h =
    go (p a) refl (each-filter_range P p (a + 1) n (λ v low high passes. h v (omega (arith, low)) (omega (arith, high)) passes)) where
      go : (b : Bool) → p a ≡ b → AllByRecursion P (filter p (range_with_len (a + 1) n))
          → AllByRecursion P (filter p (range_with_len a (suc n)))
      go true e rest = rw e (h a (omega arith) (omega arith) e, rest)
      go false e rest = rw e rest

-- ---- permutations of a range

record Found (x : ℕ) (xs : List ℕ) : Type 0 where
  before : List ℕ
  after : List ℕ
  is : xs ≡ before ++ x ∷ after

found : (x : ℕ) (xs : List ℕ) → 1 ≤ times xs x → Found x xs
found x [] some = absurd (omega (arith, some))
found x (y ∷ ys) some = elim (cases_eq y x) [
  | inl same ↦ record { before = []; after = ys; is = ap (λ (z : ℕ). z ∷ ys) same }
  | inr other ↦ (
      let rest = found x ys (omega (arith, some, times-cons y ys x, bit-other y x other)) in
      record { before = y ∷ rest.before; after = rest.after; is = ap (λ (zs : List ℕ). y ∷ zs) rest.is }
      )
]

-- a list that has each number of a range once, and no other, is a permutation of the range
pub permutation-range : (n a : ℕ) (xs : List ℕ) → ((v : ℕ) → a ≤ v → v < a + n → times xs v ≡ 1)
    → ((v : ℕ) → (v < a) ⊎ (a + n ≤ v) → times xs v ≡ 0)
    → IsPermutation xs (range_with_len a n)
permutation-range zero a [] once none = IsPermutation-refl []
permutation-range zero a (x ∷ xs) once none =
    let none_of_it : times (x ∷ xs) x ≡ 0 = none x (elim (cases_lt x a) [ inl lt ↦ inl lt | inr le ↦ inr (omega (arith, le)) ]) in
    absurd (omega (arith, none_of_it, times-cons x xs x, bit-same x x refl))
permutation-range (suc n) a xs once none =
    let f = found a xs (omega (arith, once a (omega arith) (omega arith))) in
    let rest : List ℕ = f.before ++ f.after in
    let counted : (v : ℕ) → times xs v ≡ bit a v + times rest v = (λ v. ap (λ (z : List ℕ). times z v) f.is
    ∙ omega (arith, times-append f.before (a ∷ f.after) v, times-cons a f.after v, times-append f.before f.after v)) in
    let tail : IsPermutation rest (range_with_len (a + 1) n) = permutation-range n (a + 1) rest
    (λ v low high. omega (arith, counted v, once v (omega (arith, low)) (omega (arith, high)), bit-other a v (omega (arith, low))))
    (λ v out. elim (cases_eq a v) [
      | inl same ↦ omega (arith, counted v, once v (omega (arith, same)) (omega (arith, same)), bit-same a v same)
      | inr other ↦ omega (arith, counted v, bit-other a v other, none v (apart v other out))
    ]) in
    subst (λ (z : List ℕ). IsPermutation z (range_with_len a (suc n))) (sym f.is)
    (IsPermutation-trans (f.before ++ a ∷ f.after) (a ∷ rest) (range_with_len a (suc n))
    (IsPermutation-middle f.before a f.after) (IsPermutation-cons a rest (range_with_len (a + 1) n) tail))
  where
    apart : (v : ℕ) → a ≢ v → (v < a + 1) ⊎ (a + 1 + n ≤ v) → (v < a) ⊎ (a + suc n ≤ v)
    apart v ne (inl lt) = inl (omega (arith, ne, lt))
    apart v ne (inr le) = inr (omega (arith, le))
