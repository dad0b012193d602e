-- The last of some steps before a place.
use Rattle.std.proofs.Common.{◌≡◌, ℕ, suc, ◌-◌, ◌<◌, ◌≤◌, true, cond, arith, ◌∙◌}
use Rattle.std.proofs.Common.{List, [], ◌∷◌, length, map, get_or}
use Rattle.std.specs.Prelude.{nat_lt, nat_le, ◌&&◌, ◌||◌, max}
use Rattle.std.specs.List.{All, list_all}
use Rattle.std.specs.List.Sorted.{IsPermutation, IsNonDecreasing}
use Rattle.std.proofs.lemmas.List.Elements.{All-head, All-tail, All-cons, All-nil, All-get_or, All-from_get_or}
use Rattle.std.proofs.lemmas.List.Sorted.{All-permutation, IsPermutation-sym}
use Rattle.spill_plan.specs.GapSpans.{latest_before}
use Rattle.spill_plan.proofs.SpanSums.{split, lt-yes, lt-no}

-- a step is past the place, or below the number
abbrev IsBelow : ℕ → ℕ → ℕ → Type 0
IsBelow end m s = s < end → suc s ≤ m

pub latest-most : (end m : ℕ) (xs : List ℕ) → All (IsBelow end m) xs → latest_before end xs ≤ m
latest-most end m [] each = omega arith
latest-most end m (s ∷ xs) each =
    let rest = latest-most end m xs (All-tail (IsBelow end m) s xs each) in
    let here = All-head (IsBelow end m) s xs each in
    split end s
    (λ late. omega (arith, rest, lt-no s end (suc s) late))
    (λ early. omega (arith, rest, lt-yes s end (suc s) early, here early))

pub latest-least : (end m : ℕ) (xs : List ℕ) → latest_before end xs ≤ m → All (IsBelow end m) xs
latest-least end m [] h = All-nil (IsBelow end m)
latest-least end m (s ∷ xs) h = All-cons (IsBelow end m) s xs (λ early. omega (arith, lt-yes s end (suc s) early, h))
    (latest-least end m xs (omega arith))

pub latest-own : (end : ℕ) (xs : List ℕ) → All (IsBelow end (latest_before end xs)) xs
latest-own end xs = latest-least end (latest_before end xs) xs (omega arith)

pub latest-permutation : (end : ℕ) (xs ys : List ℕ) → IsPermutation xs ys → latest_before end ys ≡ latest_before end xs
latest-permutation end xs ys p =
    let m = latest_before end xs in
    let n = latest_before end ys in
    let a = latest-most end m ys (All-permutation (IsBelow end m) xs ys p (latest-own end xs)) in
    let b = latest-most end n xs (All-permutation (IsBelow end n) ys xs (IsPermutation-sym xs ys p) (latest-own end ys)) in
    omega (arith, a, b)

pub latest-within : (end : ℕ) (xs : List ℕ) → latest_before end xs ≤ end
latest-within end xs = latest-most end end xs (All-from_get_or (IsBelow end end) xs 0 (λ i h early. omega arith))

-- ---- of steps that do not fall

pub latest-none : (end : ℕ) (xs : List ℕ) → ((k : ℕ) → k < length xs → end ≤ get_or xs k 0) → latest_before end xs ≡ 0
latest-none end xs late = let low = latest-most end 0 xs
    (All-from_get_or (IsBelow end 0) xs 0 (λ i h early. absurd (omega (arith, late i h)))) in omega arith

pub latest-last : (end count : ℕ) (xs : List ℕ) → IsNonDecreasing xs → 0 < count → count ≤ length xs
    → ((k : ℕ) → k < count → get_or xs k 0 < end) → ((k : ℕ) → count ≤ k → k < length xs → end ≤ get_or xs k 0)
    → latest_before end xs ≡ suc (get_or xs (count - 1) 0)
latest-last end count xs rising some within early late =
    let last = count - 1 in
    let high = latest-most end (suc (get_or xs last 0)) xs (All-from_get_or (IsBelow end (suc (get_or xs last 0))) xs 0
    (λ i h before. split count i
    (λ after. absurd (omega (arith, late i after h)))
    (λ sooner. omega (arith, rising i last 0 (omega arith) (omega arith))))) in
    let low : suc (get_or xs last 0) ≤ latest_before end xs =
    All-get_or (IsBelow end (latest_before end xs)) xs last 0 (omega arith) (latest-own end xs) (early last (omega arith)) in
    omega (arith, high, low)

-- ---- as a test

le-max : (a b k : ℕ) → nat_le (max a b) k ≡ (nat_le a k && nat_le b k)
le-max a b k = grind arith

le-zero : (k : ℕ) → nat_le 0 k ≡ true
le-zero k = grind arith

le-cond : (s e k : ℕ) → nat_le (cond (nat_lt s e) (suc s) 0) k ≡ (nat_lt s k || nat_le e s)
le-cond s e k = grind arith

pub start-test : (a b k : ℕ) → nat_le (max a b) k ≡ (nat_le a k && nat_le b k)
start-test = le-max

pub latest-test : (step : ℕ → ℕ) (e k : ℕ) (cs : List ℕ)
    → nat_le (latest_before e (map step cs)) k ≡ list_all (λ c. nat_lt (step c) k || nat_le e (step c)) cs
latest-test step e k [] = le-zero k
latest-test step e k (c ∷ cs) = le-max (cond (nat_lt (step c) e) (suc (step c)) 0) (latest_before e (map step cs)) k
    ∙ (λ i. le-cond (step c) e k i && latest-test step e k cs i)
