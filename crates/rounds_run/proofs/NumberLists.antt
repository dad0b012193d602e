-- What is in a list of numbers, and lists that rise.
use Rattle.std.proofs.Common.{◌≡◌, ℕ, ◌+◌, ◌<◌, ◌≤◌, inl, inr, Bool, true, false, ◌&&◌, ◌||◌, eqb}
use Rattle.std.proofs.Common.{List, [], ◌∷◌, ◌++◌, length, drop, refl, sym, ap, ◌∙◌, arith}
use Rattle.std.specs.List.{filter, range_with_len}
use Rattle.std.specs.List.Sorted.{IsStrictlyIncreasing}
use Rattle.std.proofs.lemmas.Bool.{cases_eq, cases_Bool, eq-eqb, ne_eqb}
use Rattle.std.proofs.lemmas.List.Folds.{list_any-append}
use Rattle.std.proofs.lemmas.List.FromFn.{length-range_with_len, get_or-range_with_len, map-range_with_len_more}
use Rattle.std.proofs.lemmas.List.{map-id}
use Rattle.patterns.specs.Pattern.{has}
use Rattle.patterns.proofs.SameRows.{above_head, in_tail, head_in}
use Rattle.patterns.proofs.NumberLists.{place_of}

-- ---- what is in a list

pub has_append : (xs ys : List ℕ) (y : ℕ) → has (xs ++ ys) y ≡ (has xs y || has ys y)
has_append xs ys y = list_any-append (λ z. eqb z y) xs ys

-- where it stands

-- ---- lists that rise

-- two that have the same numbers are one

-- one that has j, and nothing below it, begins with j
pub begins_with : (xs : List ℕ) (j : ℕ) → IsStrictlyIncreasing xs
    → has xs j ≡ true → ((i : ℕ) → has xs i ≡ true → j ≤ i) → xs ≡ j ∷ drop 1 xs
begins_with [] j rising there least = absurd cc
begins_with (x ∷ xs) j rising there least =
    let low = least x (head_in x xs) in
    let same : x ≡ j = elim (cases_eq x j) [
      | inl e ↦ e
      | inr other ↦ absurd (let up = above_head x xs j rising (sym (in_tail x xs j other) ∙ there) in omega arith)
    ] in
    ap (λ z. z ∷ xs) same

-- ---- filters

pub has_filter : (p : ℕ → Bool) (xs : List ℕ) (i : ℕ) → has (filter p xs) i ≡ (has xs i && p i)
has_filter p [] i = refl
has_filter p (x ∷ xs) i =
    let rest = has_filter p xs i in
    elim (cases_eq x i) [
      | inl e ↦ elim (cases_Bool (p x)) [
        | inl t ↦ (
            let here : p i ≡ true = sym (ap p e) ∙ t in
            rw (t, eq-eqb x i e, here) refl
            )
        | inr f ↦ (
            let here : p i ≡ false = sym (ap p e) ∙ f in
            rw (f, eq-eqb x i e, here) (rest ∙ rw here (and_never (has xs i)))
            )
      ]
      | inr ne ↦ elim (cases_Bool (p x)) [
        | inl t ↦ rw (t, ne_eqb x i ne) rest
        | inr f ↦ rw (f, ne_eqb x i ne) rest
      ]
    ] where
      and_never : (b : Bool) → (b && false) ≡ false
      and_never true = refl
      and_never false = refl

-- what passes p passes q: then no more pass p, and just as many only where they are the same
filter_le : (p q : ℕ → Bool) → ((i : ℕ) → p i ≡ true → q i ≡ true) → (xs : List ℕ) → length (filter p xs) ≤ length (filter q xs)
filter_le p q to [] = omega arith
filter_le p q to (x ∷ xs) =
    let rest = filter_le p q to xs in
    elim (cases_Bool (p x)) [
      | inl t ↦ rw (t, to x t) (omega arith)
      | inr f ↦ elim (cases_Bool (q x)) [ inl t ↦ rw (f, t) (omega arith) | inr g ↦ rw (f, g) rest ]
    ]

pub filter_same : (p q : ℕ → Bool) → ((i : ℕ) → p i ≡ true → q i ≡ true) → (xs : List ℕ)
    → length (filter q xs) ≤ length (filter p xs) → filter p xs ≡ filter q xs
filter_same p q to [] le = refl
filter_same p q to (x ∷ xs) le =
    elim (cases_Bool (p x)) [
      | inl t ↦ (
          let u = to x t in
          let fewer : length (x ∷ filter q xs) ≤ length (x ∷ filter p xs) = rw (t, u) at le in
          rw (t, u) (ap (λ zs. x ∷ zs) (filter_same p q to xs (omega (arith, fewer))))
          )
      | inr f ↦ elim (cases_Bool (q x)) [
        | inl t ↦ absurd (
            let fewer : length (x ∷ filter q xs) ≤ length (filter p xs) = rw (f, t) at le in
            let more = filter_le p q to xs in
            omega (arith, fewer, more)
            )
        | inr g ↦ rw (f, g) (filter_same p q to xs (rw (f, g) at le))
      ]
    ]

-- ---- ranges

pub from_range : (a n b : ℕ) → has (range_with_len a n) b ≡ true → (a ≤ b) × (b < a + n)
from_range a n b there =
    let place = place_of (range_with_len a n) b there in
    let lt : place.0 < n = omega (arith, place.1, length-range_with_len a n) in
    let at = get_or-range_with_len a n place.0 0 lt in
    (omega (arith, at, place.2), omega (arith, at, place.2))

pub range_more : (k : ℕ) → range_with_len 1 (k + 1) ≡ range_with_len 1 k ++ (k + 1) ∷ []
range_more k =
    sym (map-id (range_with_len 1 (k + 1))) ∙ map-range_with_len_more (λ x. x) 1 k (k + 1) (omega arith)
    ∙ ap (λ z. z ++ (k + 1) ∷ []) (map-id (range_with_len 1 k))
