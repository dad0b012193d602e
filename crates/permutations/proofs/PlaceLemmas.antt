-- The place of a vertex in a list: from the front, at the end, and as the inverse of the list.
use Rattle.std.proofs.Common.{◌≡◌, ◌≢◌, ℕ, zero, suc, ◌+◌, ◌<◌, ◌≤◌, true, false, not, cond, eqb, ltb, List, [], ◌∷◌}
use Rattle.std.proofs.Common.{◌++◌, inl, inr, length, get_or, Some, None, refl, sym, ap, ◌∙◌, add-one, arith}
use Rattle.std.proofs.lemmas.Bool.{cases_Bool, cases_eq, eq-eqb, ne_eqb, lt-ltb, le-ltb, ltb-true, ltb-false}
use Rattle.std.proofs.lemmas.List.Sums.{sum_by-cons}
use Rattle.std.specs.List.{position_or_len}
use Rattle.permutations.specs.Perm.{vertex_at, place_after, place_of, times}

-- ---- from the front

-- a place as it is with one element more before the list
further : ℕ → ℕ
further zero = zero
further (suc i) = suc (suc i)

further-after : (m n : ℕ)
    → place_after (cond (ltb (1 + m) (suc n)) (Some (1 + m)) None) ≡ further (place_after (cond (ltb m n) (Some m) None))
unfolding further
further-after m n =
    elim (cases_Bool (ltb m n)) [
      | inl e ↦ rw (e, lt-ltb (1 + m) (suc n) (omega (arith, ltb-true m n e)))
          (let same : 1 + m + 1 ≡ further (m + 1) = rw (add-one m) (omega arith) in same)
      | inr e ↦ rw (e, le-ltb (1 + m) (suc n) (omega (arith, ltb-false m n e))) refl
    ]

place-cons : (x v : ℕ) (xs : List ℕ) → place_of (x ∷ xs) v ≡ cond (eqb x v) 1 (further (place_of xs v))
place-cons x v xs =
    elim (eqb x v) as (λ b. place_after (cond (ltb (cond (not b) (1 + position_or_len (λ y. eqb y v) xs) 0) (suc (length xs)))
    (Some (cond (not b) (1 + position_or_len (λ y. eqb y v) xs) 0)) None) ≡ cond b 1 (further (place_of xs v))) [
      | true ↦ rw (lt-ltb 0 (suc (length xs)) (omega arith)) refl
      | false ↦ further-after (position_or_len (λ y. eqb y v) xs) (length xs)
    ]

place-here : (x v : ℕ) (xs : List ℕ) → x ≡ v → place_of (x ∷ xs) v ≡ 1
place-here x v xs e = place-cons x v xs ∙ ap (λ b. cond b 1 (further (place_of xs v))) (eq-eqb x v e)

place-beyond : (x v : ℕ) (xs : List ℕ) → x ≢ v → place_of (x ∷ xs) v ≡ further (place_of xs v)
place-beyond x v xs e = place-cons x v xs ∙ ap (λ b. cond b 1 (further (place_of xs v))) (ne_eqb x v e)

pub times-cons : (x v : ℕ) (xs : List ℕ) → times (x ∷ xs) v ≡ cond (eqb x v) 1 0 + times xs v
times-cons x v xs = sum_by-cons (λ y. cond (eqb y v) 1 0) x xs

pub times-here : (x v : ℕ) (xs : List ℕ) → x ≡ v → times (x ∷ xs) v ≡ 1 + times xs v
times-here x v xs e = times-cons x v xs ∙ ap (λ b. cond b 1 0 + times xs v) (eq-eqb x v e)

pub times-beyond : (x v : ℕ) (xs : List ℕ) → x ≢ v → times (x ∷ xs) v ≡ times xs v
times-beyond x v xs e = times-cons x v xs ∙ ap (λ b. cond b 1 0 + times xs v) (ne_eqb x v e) ∙ omega arith

-- ---- a vertex without a place stands nowhere

further-none : (i : ℕ) → further i ≡ 0 → i ≡ 0
unfolding further
further-none zero e = refl
further-none (suc i) e = cc

pub place-none : (xs : List ℕ) (v : ℕ) → times xs v ≡ 0 → place_of xs v ≡ 0
unfolding further
place-none [] v none = refl
place-none (x ∷ xs) v none =
    elim (cases_eq x v) [
      | inl e ↦ absurd (omega (arith, times-here x v xs e))
      | inr e ↦ place-beyond x v xs e ∙ ap further (place-none xs v (sym (times-beyond x v xs e) ∙ none))
    ]

pub times-none : (xs : List ℕ) (v : ℕ) → place_of xs v ≡ 0 → times xs v ≡ 0
times-none [] v none = refl
times-none (x ∷ xs) v none =
    elim (cases_eq x v) [
      | inl e ↦ absurd (omega (arith, place-here x v xs e))
      | inr e ↦ times-beyond x v xs e ∙ times-none xs v (further-none (place_of xs v) (sym (place-beyond x v xs e) ∙ none))
    ]

-- the test of the format, and that of the code
pub times_test : (xs : List ℕ) (v : ℕ) → eqb (times xs v) 0 ≡ eqb (place_of xs v) 0
times_test xs v =
    elim (cases_eq (place_of xs v) 0) [
      | inl e ↦ eq-eqb (times xs v) 0 (times-none xs v e) ∙ sym (eq-eqb (place_of xs v) 0 e)
      | inr e ↦ ne_eqb (times xs v) 0 (λ none. e (place-none xs v none)) ∙ sym (ne_eqb (place_of xs v) 0 e)
    ]

-- ---- what stands at the place of a vertex

further-vertex : (x : ℕ) (xs : List ℕ) (i : ℕ) → i ≢ 0 → vertex_at (x ∷ xs) (further i) ≡ vertex_at xs i
unfolding further
further-vertex x xs zero e = absurd (e refl)
further-vertex x xs (suc i) e = refl

further-le : (i n : ℕ) → i ≤ n → further i ≤ suc n
unfolding further
further-le zero n le = omega arith
further-le (suc i) n le = omega arith

pub place-vertex : (xs : List ℕ) (v : ℕ) → place_of xs v ≢ 0 → vertex_at xs (place_of xs v) ≡ v
unfolding further
place-vertex [] v some = absurd (some refl)
place-vertex (x ∷ xs) v some =
    elim (cases_eq x v) [
      | inl e ↦ rw (place-here x v xs e) e
      | inr e ↦ (
          let beyond = place-beyond x v xs e in
          let there : place_of xs v ≢ 0 = λ none. some (beyond ∙ ap further none) in
          rw beyond (further-vertex x xs (place_of xs v) there ∙ place-vertex xs v there)
          )
    ]

pub place-le : (xs : List ℕ) (v : ℕ) → place_of xs v ≤ length xs
place-le [] v = omega arith
place-le (x ∷ xs) v =
    elim (cases_eq x v) [
      | inl e ↦ rw (place-here x v xs e) (omega arith)
      | inr e ↦ rw (place-beyond x v xs e) (further-le (place_of xs v) (length xs) (place-le xs v))
    ]

-- ---- the place of what stands at a place

pub times-at : (xs : List ℕ) (i : ℕ) → i < length xs → 0 < times xs (get_or xs i 0)
times-at [] i lt = absurd (omega arith)
times-at (x ∷ xs) zero lt = omega (arith, times-here x x xs refl)
times-at (x ∷ xs) (suc i) lt = omega (arith, times-cons x (get_or xs i 0) xs, times-at xs i (omega arith))

pub place-at : (xs : List ℕ) (i : ℕ) → i < length xs → times xs (get_or xs i 0) ≡ 1 → place_of xs (get_or xs i 0) ≡ suc i
unfolding further
place-at [] i lt once = absurd (omega arith)
place-at (x ∷ xs) zero lt once = place-here x x xs refl
place-at (x ∷ xs) (suc i) lt once =
    elim (cases_eq x (get_or xs i 0)) [
      | inl e ↦ absurd (omega (arith, times-here x (get_or xs i 0) xs e, times-at xs i (omega arith)))
      | inr e ↦ place-beyond x (get_or xs i 0) xs e
          ∙ ap further (place-at xs i (omega arith) (sym (times-beyond x (get_or xs i 0) xs e) ∙ once))
    ]

-- ---- one vertex more at the end

pub place-push_same : (xs : List ℕ) (v : ℕ) → place_of xs v ≡ 0 → place_of (xs ++ v ∷ []) v ≡ suc (length xs)
unfolding further
place-push_same [] v none = place-here v v [] refl
place-push_same (x ∷ xs) v none =
    elim (cases_eq x v) [
      | inl e ↦ absurd (omega (arith, place-here x v xs e))
      | inr e ↦ place-beyond x v (xs ++ v ∷ []) e
          ∙ ap further (place-push_same xs v (further-none (place_of xs v) (sym (place-beyond x v xs e) ∙ none)))
    ]

pub place-push_other : (xs : List ℕ) (y v : ℕ) → y ≢ v → place_of (xs ++ y ∷ []) v ≡ place_of xs v
unfolding further
place-push_other [] y v other = place-beyond y v [] other
place-push_other (x ∷ xs) y v other =
    elim (cases_eq x v) [
      | inl e ↦ place-here x v (xs ++ y ∷ []) e ∙ sym (place-here x v xs e)
      | inr e ↦ place-beyond x v (xs ++ y ∷ []) e ∙ ap further (place-push_other xs y v other) ∙ sym (place-beyond x v xs e)
    ]
