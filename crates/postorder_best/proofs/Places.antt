-- Members of a list and their places.
use Rattle.std.proofs.Common.{sym, ◌∙◌, subst, ap, ◌+◌, ◌-◌, ◌≡◌, ◌⊎◌, inl, inr, ℕ, zero, suc}
use Rattle.std.proofs.Common.{◌<◌, ◌≤◌, arith, refl, List, [], ◌∷◌, ◌++◌, length, get_or}
use Rattle.postorder_best.specs.Postorder.{Member}
use Rattle.postorder_best.specs.Rows.{Once}

pub member_left : (x : ℕ) (xs ys : List ℕ) → Member x xs → Member x (xs ++ ys)
member_left x [] ys m = absurd m
member_left x (z ∷ xs) ys m = elim m [ inl e ↦ inl e | inr r ↦ inr (member_left x xs ys r) ]

pub member_right : (x : ℕ) (xs ys : List ℕ) → Member x ys → Member x (xs ++ ys)
member_right x [] ys m = m
member_right x (z ∷ xs) ys m = inr (member_right x xs ys m)

pub member_parts : (x : ℕ) (xs ys : List ℕ) → Member x (xs ++ ys) → Member x xs ⊎ Member x ys
member_parts x [] ys m = inr m
member_parts x (z ∷ xs) ys m =
    elim m [ inl e ↦ inl (inl e) | inr r ↦ elim (member_parts x xs ys r) [ inl a ↦ inl (inr a) | inr b ↦ inr b ] ]

pub at_member : (xs : List ℕ) (k : ℕ) → k < length xs → Member (get_or xs k 0) xs
at_member [] k lt = absurd (omega arith)
at_member (x ∷ xs) zero lt = inl refl
at_member (x ∷ xs) (suc k) lt = inr (at_member xs k (omega arith))

pub place_of : (x : ℕ) (xs : List ℕ) → Member x xs → (k : ℕ) × (k < length xs) × (get_or xs k 0 ≡ x)
place_of x [] m = absurd m
place_of x (y ∷ ys) m = elim m [
  | inl e ↦ (0, omega arith, sym e)
  | inr r ↦ let p = place_of x ys r in (suc p.0, let l = p.1 in omega arith, p.2)
]

pub one_place : (xs : List ℕ) (i j : ℕ) → Once xs → i < length xs → j < length xs → get_or xs i 0 ≡ get_or xs j 0 → i ≡ j
one_place [] i j o li lj e = absurd (omega arith)
one_place (x ∷ xs) zero zero o li lj e = refl
one_place (x ∷ xs) zero (suc j) o li lj e = absurd (o.0 (subst (λ v. Member v xs) (sym e) (at_member xs j (omega arith))))
one_place (x ∷ xs) (suc i) zero o li lj e = absurd (o.0 (subst (λ v. Member v xs) e (at_member xs i (omega arith))))
one_place (x ∷ xs) (suc i) (suc j) o li lj e = let r = one_place xs i j o.1 (omega arith) (omega arith) e in omega arith

-- what stands in the middle part stands at its places
pub at_middle : (before block after : List ℕ) (k : ℕ) → length before ≤ k → k < length before + length block
    → get_or (before ++ (block ++ after)) k 0 ≡ get_or block (k - length before) 0
at_middle [] [] after k low high = absurd (omega arith)
at_middle [] (b ∷ bs) after zero low high = refl
at_middle [] (b ∷ bs) after (suc k) low high =
    let e : k - 0 ≡ k = omega arith in
    let f : suc k - 0 ≡ suc k = omega arith in
    at_middle [] bs after k (omega arith) (omega arith) ∙ ap (λ v. get_or bs v 0) e ∙ sym (ap (λ v. get_or (b ∷ bs) v 0) f)
at_middle (x ∷ xs) block after zero low high = absurd (omega arith)
at_middle (x ∷ xs) block after (suc k) low high =
    let e : suc k - length (x ∷ xs) ≡ k - length xs = omega arith in
    at_middle xs block after k (omega arith) (omega arith) ∙ ap (λ v. get_or block v 0) (sym e)

pub middle_member : (before block after : List ℕ) (k : ℕ) → length before ≤ k
    → k < length before + length block → Member (get_or (before ++ (block ++ after)) k 0) block
middle_member before block after k low high =
    subst (λ v. Member v block) (sym (at_middle before block after k low high)) (at_member block (k - length before) (omega arith))

pub middle_place : (x : ℕ) (before block after : List ℕ) → Member x block
    → (k : ℕ) × (length before ≤ k) × (k < length before + length block) × (get_or (before ++ (block ++ after)) k 0 ≡ x)
middle_place x before block after m =
    let p = place_of x block m in
    let l = p.1 in
    let e : length before + p.0 - length before ≡ p.0 = omega arith in (
      length before + p.0,
      omega arith,
      omega arith,
      at_middle before block after (length before + p.0) (omega arith) (omega arith) ∙ ap (λ v. get_or block v 0) e ∙ p.2,
    )
