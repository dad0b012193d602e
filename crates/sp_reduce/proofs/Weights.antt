-- Lists with the same weights are the same in another order.
use Rattle.std.proofs.Common.{◌≡◌, ℕ, ◌≤◌, sym, subst, ap, arith, List, [], ◌∷◌, ◌++◌}
use Rattle.std.specs.Prelude.{IsPermutation}
use Rattle.std.specs.List.{sum_by}
use Rattle.std.proofs.lemmas.List.Sums.{sum_by-cons, sum_by-append}
use Rattle.std.proofs.lemmas.List.Sorted.{IsPermutation-refl, IsPermutation-sym, IsPermutation-trans}
use Rattle.std.proofs.lemmas.List.Sorted.{IsPermutation-cons, IsPermutation-middle}
use Rattle.sp_reduce.proofs.Ends.{split}

-- with a test that weighs an element once, and only that
module _ {X : Type 0} (test : X → X → ℕ) (self : (x : X) → test x x ≡ 1) (same : (x y : X) → 1 ≤ test x y → y ≡ x) where
  record Cut (x : X) (ys : List X) : Type 0 where
    before : List X
    after : List X
    is : ys ≡ before ++ x ∷ after

  cut : (x : X) (ys : List X) → 1 ≤ sum_by (test x) ys → Cut x ys
  cut x [] h = absurd (omega arith)
  cut x (y ∷ ys) h = split 1 (test x y)
      (λ l. record { before = []; after = ys; is = ap (λ (z : X). z ∷ ys) (same x y l) })
      (λ l. let k = cut x ys (omega (arith, h, sum_by-cons (test x) y ys)) in
      record { before = y ∷ k.before; after = k.after; is = ap (λ (zs : List X). y ∷ zs) k.is })

  pub weighed : (xs ys : List X) → ((f : X → ℕ) → sum_by f xs ≡ sum_by f ys) → IsPermutation xs ys
  weighed [] [] h = IsPermutation-refl []
  weighed [] (y ∷ ys) h = absurd (omega (arith, h (λ z. 1), sum_by-cons (λ (z : X). 1) y ys))
  weighed (x ∷ xs) ys h =
      let k = cut x ys (omega (arith, h (test x), sum_by-cons (test x) x xs, self x)) in
      let rest : (f : X → ℕ) → sum_by f xs ≡ sum_by f (k.before ++ k.after) =
      λ f. omega (
        arith,
        h f,
        ap (sum_by f) k.is,
        sum_by-cons f x xs,
        sum_by-append f k.before (x ∷ k.after),
        sum_by-cons f x k.after,
        sum_by-append f k.before k.after,
      ) in
      let inner = IsPermutation-cons x xs (k.before ++ k.after) (weighed xs (k.before ++ k.after) rest) in
      subst (IsPermutation (x ∷ xs)) (sym k.is)
      (IsPermutation-trans (x ∷ xs) (x ∷ (k.before ++ k.after)) (k.before ++ x ∷ k.after) inner
      (IsPermutation-sym (k.before ++ x ∷ k.after) (x ∷ (k.before ++ k.after)) (IsPermutation-middle k.before x k.after)))
