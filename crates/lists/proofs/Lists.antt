-- Lists, sums over them, and ranges of numbers.
use Rattle.std.proofs.Common.{◌≡◌, ◌≢◌, ◌<◌, ◌+◌, ◌++◌, ◌∷◌, ◌∙◌, ◌⊎◌, ℕ, zero, suc, List, [], length, take, map}
use Rattle.std.proofs.Common.{set, slice_index, ap, refl, inl, inr, arith, get_or-set_other, get_or-set_same}
use Rattle.std.specs.List.Sorted.{IsStrictlyIncreasing}
use Rattle.std.specs.List.{range_with_len, sum_by}
use Rattle.std.proofs.Math.Seq.{take-append_seam}
use Rattle.std.proofs.lemmas.List.FromFn.{get_or-range_with_len, length-range_with_len}
use Rattle.std.proofs.lemmas.List.Sums.{sum_by-cons}

pub append_nil : (xs : List ℕ) → xs ++ [] ≡ xs
append_nil [] = refl
append_nil (x ∷ xs) = ap (λ v. x ∷ v) (append_nil xs)

pub ends : {X : Type 0} (n : ℕ) (xs : List X) → length xs ≡ n + 1
    → (front : List X) × (last : X) × ((xs ≡ front ++ last ∷ []) × (length front ≡ n))
ends n [] e = absurd (omega arith)
ends n (x ∷ []) e = ([], x, (refl, omega arith))
ends n (x ∷ y ∷ ys) e =
    let rest = ends (length ys) (y ∷ ys) (omega arith) in
    (x ∷ rest.0, rest.1, (ap (λ zs. x ∷ zs) rest.2.0, omega (arith, rest.2.1)))

pub within : {X : Type 0} (xs : List X) (x : X) (before : List X) (y : X) (after : List X)
    → xs ++ x ∷ [] ≡ before ++ y ∷ after → ((before ≡ xs) × (y ≡ x)) ⊎ ((rest : List X) × (xs ≡ before ++ y ∷ rest))
within [] x [] y after e = inl (refl, cc)
within [] x (b ∷ []) y after e = cc
within [] x (b ∷ c ∷ before) y after e = cc
within (z ∷ xs) x [] y after e = inr (xs, cc)
within (z ∷ xs) x (b ∷ before) y after e =
    let tail : xs ++ x ∷ [] ≡ before ++ y ∷ after = cc in
    let head : z ≡ b = cc in
    elim (within xs x before y after tail) [
      | inl h ↦ inl ((let same : b ∷ before ≡ z ∷ xs = cc (h.0) in same), h.1)
      | inr h ↦ inr (h.0, (let same : z ∷ xs ≡ (b ∷ before) ++ y ∷ h.0 = cc (h.1) in same))
    ]

pub written : (new rest : List ℕ) (len : ℕ) → len ≡ length new → take len (new ++ rest) ≡ new
written new rest len e = ap (λ n. take n (new ++ rest)) e ∙ take-append_seam new rest

-- ---- a place is set

pub at_here : (xs : List ℕ) (i v : ℕ) → i < length xs → slice_index (set xs i v) i ≡ v
at_here xs i v lt = rw get_or-set_same

pub at_other : (xs : List ℕ) (i v x : ℕ) → x ≢ i → slice_index (set xs i v) x ≡ slice_index xs x
at_other xs i v x ne = rw get_or-set_other

-- ---- sums

pub sum-same : {X : Type 0} (f g : X → ℕ) → ((x : X) → f x ≡ g x) → (xs : List X) → sum_by f xs ≡ sum_by g xs
sum-same f g same [] = refl
sum-same f g same (x ∷ xs) = omega (arith, sum_by-cons f x xs, sum_by-cons g x xs, same x, sum-same f g same xs)

pub sum_by-map : {X Y : Type 0} (f : Y → ℕ) (g : X → Y) (xs : List X) → sum_by f (map g xs) ≡ sum_by (λ x. f (g x)) xs
sum_by-map f g [] = refl
sum_by-map f g (x ∷ xs) = omega (arith, sum_by-cons f (g x) (map g xs), sum_by-cons (λ x. f (g x)) x xs, sum_by-map f g xs)

-- ---- ranges, and lists that rise

pub range_last : (a n : ℕ) → range_with_len a (suc n) ≡ range_with_len a n ++ (a + n) ∷ []
range_last a zero = let e : a ≡ a + 0 = omega arith in ap (λ z. z ∷ []) e
range_last a (suc n) =
    let e : a + 1 + n ≡ a + suc n = omega arith in
    ap (λ xs. a ∷ xs) (range_last (a + 1) n ∙ ap (λ z. range_with_len (a + 1) n ++ z ∷ []) e)

pub range_rising : (a n : ℕ) → IsStrictlyIncreasing (range_with_len a n)
range_rising a n k lt =
    let long = length-range_with_len a n in
    rw (get_or-range_with_len a n k 0 (omega arith), get_or-range_with_len a n (k + 1) 0 (omega arith)) (omega arith)

pub rising-tail : (x : ℕ) (xs : List ℕ) → IsStrictlyIncreasing (x ∷ xs) → IsStrictlyIncreasing xs
rising-tail x xs rising k lt = let next : suc k + 1 ≡ suc (k + 1) = omega arith in rw next at (rising (suc k) (omega arith))
