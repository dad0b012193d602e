-- A permutation holds each number once, so as many of its numbers pass a test as of the numbers from 1 on.
use Rattle.std.proofs.Common.{◌≡◌, ◌≤◌, ◌+◌, ◌&&◌, inl, inr, ℕ, zero, suc, Bool, true, false, cond, nat_lt}
use Rattle.std.proofs.Common.{◌==◌, List, [], ◌∷◌, get_or, refl, sym, ap, subst, ◌∙◌, arith}
use Rattle.std.specs.List.{All, count_by, range_with_len}
use Rattle.std.proofs.lemmas.Bool.{cases_eq, cases_lt, lt-ltb, le-ltb, eq-eqb, ne_eqb}
use Rattle.std.proofs.lemmas.List.Sums.{sum_by-cons}
use Rattle.std.proofs.lemmas.List.Folds.{fold-map}
use Rattle.std.proofs.lemmas.List.FromFn.{sum_by-map-range_with_len_more}
use Rattle.permutations.specs.Perm.{IsPerm, times}

abbrev pub bit : Bool → ℕ
bit b = cond b 1 0

-- whether a number passes and is less than m
abbrev passes_below : (ℕ → Bool) → ℕ → ℕ → Bool
passes_below test m x = test x && nat_lt x m

here : (t : Bool) → bit (t && true) ≡ bit (t && false) + cond t 1 0
here true = refl
here false = refl

there : (t : Bool) (k : ℕ) → k ≡ k + cond t 0 0
there true k = omega arith
there false k = omega arith

one_more : (test : ℕ → Bool) (m x : ℕ) → bit (passes_below test (suc m) x) ≡ bit (passes_below test m x) + cond (test m) (bit (x == m)) 0
one_more test m x =
    elim (cases_eq x m) [
      | inl e ↦ subst (λ v. bit (passes_below test (suc m) v) ≡ bit (passes_below test m v) + cond (test m) (bit (v == m)) 0) (sym e)
          (rw (lt-ltb m (suc m) (omega arith), le-ltb m m (omega arith), eq-eqb m m refl) (here (test m)))
      | inr ne ↦ rw (ne_eqb x m ne) (elim (cases_lt x m) [
        | inl lt ↦ rw (lt-ltb x (suc m) (omega arith), lt-ltb x m lt) (there (test m) (bit (test x && true)))
        | inr le ↦ rw (le-ltb x (suc m) (omega arith), le-ltb x m le) (there (test m) (bit (test x && false)))
      ])
    ]

more : (test : ℕ → Bool) (m : ℕ) (b : Bool) → test m ≡ b → (xs : List ℕ)
    → count_by (passes_below test (suc m)) xs ≡ count_by (passes_below test m) xs + cond b (times xs m) 0
more test m true e [] = refl
more test m false e [] = refl
more test m true e (x ∷ xs) =
    let h : bit (passes_below test (suc m) x) ≡ bit (passes_below test m x) + bit (x == m) =
    one_more test m x ∙ ap (λ b. bit (passes_below test m x) + cond b (bit (x == m)) 0) e in
    omega (
      arith,
      more test m true e xs,
      sum_by-cons (λ y. bit (passes_below test (suc m) y)) x xs,
      sum_by-cons (λ y. bit (passes_below test m y)) x xs,
      sum_by-cons (λ y. bit (y == m)) x xs,
    )
more test m false e (x ∷ xs) =
    let h : bit (passes_below test (suc m) x) ≡ bit (passes_below test m x) + 0 =
    one_more test m x ∙ ap (λ b. bit (passes_below test m x) + cond b (bit (x == m)) 0) e in
    omega (
      arith,
      more test m false e xs,
      sum_by-cons (λ y. bit (passes_below test (suc m) y)) x xs,
      sum_by-cons (λ y. bit (passes_below test m y)) x xs,
    )

-- tests that agree on a list count alike
count_same : (one two : ℕ → Bool) (xs : List ℕ) → All (λ x. one x ≡ two x) xs → count_by one xs ≡ count_by two xs
count_same one two [] same = refl
count_same one two (x ∷ xs) same =
    let h : bit (one x) ≡ bit (two x) = ap bit (same 0 0 (omega arith)) in
    omega (
      arith,
      count_same one two xs (λ k d lt. same (suc k) d (omega arith)),
      sum_by-cons (λ y. bit (one y)) x xs,
      sum_by-cons (λ y. bit (two y)) x xs,
    )

none_count : (xs : List ℕ) → count_by (λ x. false) xs ≡ 0
none_count [] = refl
none_count (x ∷ xs) = none_count xs

and_true : (t : Bool) → (t && true) ≡ t
and_true true = refl
and_true false = refl

and_false : (t : Bool) → (t && false) ≡ false
and_false true = refl
and_false false = refl

pub range_count : (test : ℕ → Bool) (m : ℕ)
    → count_by test (range_with_len 1 (suc m)) ≡ count_by test (range_with_len 1 m) + bit (test (suc m))
range_count test m =
    let e : suc m ≡ m + 1 = omega arith in
    ap (λ k. count_by test (range_with_len 1 k)) e ∙ sym (fold-map (λ a b. a + bit b) test 0 (range_with_len 1 (m + 1)))
    ∙ sum_by-map-range_with_len_more bit test 1 m (suc m) (omega arith)
    ∙ ap (λ k. k + bit (test (suc m))) (fold-map (λ a b. a + bit b) test 0 (range_with_len 1 m))

module _ (test : ℕ → Bool) (n : ℕ) (order : List ℕ) (perm : IsPerm n order) where
  up_to : (m : ℕ) → m ≤ n → count_by (passes_below test (suc m)) order ≡ count_by test (range_with_len 1 m)
  up_to zero le =
      count_same (passes_below test 1) (λ x. false) order
      (λ k d lt. let v = perm.vertices k d lt in rw (le-ltb (get_or order k d) 1 v.0) (and_false (test (get_or order k d))))
      ∙ none_count order
  up_to (suc m) le =
      more test (suc m) (test (suc m)) refl order
      ∙ ap (λ k. count_by (passes_below test (suc m)) order + cond (test (suc m)) k 0) (perm.once (suc m) (omega arith, le))
      ∙ ap (λ k. k + bit (test (suc m))) (up_to m (omega arith)) ∙ sym (range_count test m)

  pub count_along : count_by test order ≡ count_by test (range_with_len 1 n)
  count_along =
      sym (count_same (passes_below test (suc n)) test order
      (λ k d lt. let v = perm.vertices k d lt in
      let most = v.1 in
      rw (lt-ltb (get_or order k d) (suc n) (omega arith)) (and_true (test (get_or order k d)))))
      ∙ up_to n (omega arith)
