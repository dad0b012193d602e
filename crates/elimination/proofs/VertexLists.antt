-- Lists of vertices: what is in them, how often, and that one with none twice is no longer than their number.
use Rattle.std.proofs.Common.{◌≡◌, ◌≢◌, ℕ, zero, suc, ◌+◌, ◌<◌, ◌≤◌, cond, eqb, List, [], ◌∷◌, ◌++◌}
use Rattle.std.proofs.Common.{length, get_or, inl, inr, refl, sym, ap, subst, ◌∙◌, arith}
use Rattle.std.specs.List.{All}
use Rattle.std.proofs.lemmas.Bool.{cases_eq, eq-eqb, ne_eqb}
use Rattle.std.proofs.lemmas.List.Elements.{All-head, All-tail, All-push}
use Rattle.std.proofs.lemmas.List.Sums.{sum_by-cons}
use Rattle.patterns.specs.Pattern.{has, neighbours_of, IsPattern}
use Rattle.elimination.specs.Elimination.{IsVertex, times}
use Rattle.patterns.proofs.NumberLists.{has_at}

-- ---- what is in a list

-- the place of what is in a list

-- the vertices in a row of a pattern
pub row_within : (rows : List (List ℕ)) (v : ℕ) (row : List ℕ) → IsPattern rows → row ≡ neighbours_of rows v
    → (j : ℕ) → j < length row → get_or row j 0 < length rows + 1
row_within rows v row p e j lt =
    let b = (p.inside v (get_or row j 0) (ap (λ z. has z (get_or row j 0)) (sym e) ∙ has_at row j lt)).1 in
    omega arith

-- ---- how often

pub times-cons : (x v : ℕ) (xs : List ℕ) → times (x ∷ xs) v ≡ cond (eqb x v) 1 0 + times xs v
times-cons x v xs = sum_by-cons (λ y. cond (eqb y v) 1 0) x xs

pub times-here : (x v : ℕ) (xs : List ℕ) → x ≡ v → times (x ∷ xs) v ≡ 1 + times xs v
times-here x v xs e = times-cons x v xs ∙ ap (λ b. cond b 1 0 + times xs v) (eq-eqb x v e)

pub times-beyond : (x v : ℕ) (xs : List ℕ) → x ≢ v → times (x ∷ xs) v ≡ times xs v
times-beyond x v xs e = times-cons x v xs ∙ ap (λ b. cond b 1 0 + times xs v) (ne_eqb x v e) ∙ omega arith

pub times_append : (xs ys : List ℕ) (x : ℕ) → times (xs ++ ys) x ≡ times xs x + times ys x
times_append [] ys x = omega arith
times_append (y ∷ xs) ys x =
    let i = times_append xs ys x in
    elim (cases_eq y x) [
      | inl e ↦ omega (arith, times-here y x (xs ++ ys) e, times-here y x xs e)
      | inr ne ↦ omega (arith, times-beyond y x (xs ++ ys) ne, times-beyond y x xs ne)
    ]

-- one more at the end
pub times_push_same : (xs : List ℕ) (v : ℕ) → times (xs ++ v ∷ []) v ≡ times xs v + 1
times_push_same xs v = omega (arith, times_append xs (v ∷ []) v, times-here v v [] refl)

pub times_push_other : (xs : List ℕ) (v x : ℕ) → x ≢ v → times (xs ++ v ∷ []) x ≡ times xs x
times_push_other xs v x ne = omega (arith, times_append xs (v ∷ []) x, times-beyond v x [] (λ e. ne (sym e)))

-- ---- some of the vertices, none twice

pub record IsPart (n : ℕ) (list : List ℕ) : Type 0 where
  pub vertices : All (IsVertex n) list
  pub once : (v : ℕ) → times list v ≤ 1

pub part-push : (n : ℕ) (list : List ℕ) (v : ℕ) → IsPart n list → IsVertex n v → times list v ≡ 0 → IsPart n (list ++ v ∷ [])
part-push n list v part vertex fresh = record {
  vertices = All-push (IsVertex n) list v part.vertices vertex;
  once = λ w.
      let most = part.once w in
      elim (cases_eq w v) [
        | inl e ↦ subst (λ z. times (list ++ v ∷ []) z ≤ 1) (sym e) (omega (arith, times_push_same list v))
        | inr ne ↦ omega (arith, times_push_other list v w ne)
      ];
}

-- how many of a list are one of the vertices up to n: each of them is, and each vertex counts once
total : ℕ → List ℕ → ℕ
total zero list = 0
total (suc n) list = total n list + times list (suc n)

total-none : (n : ℕ) → total n [] ≡ 0
unfolding total
total-none zero = refl
total-none (suc n) = omega (arith, total-none n)

total-beyond : (n x : ℕ) (xs : List ℕ) → n < x → total n (x ∷ xs) ≡ total n xs
unfolding total
total-beyond zero x xs lt = refl
total-beyond (suc n) x xs lt = omega (arith, total-beyond n x xs (omega arith), times-beyond x (suc n) xs (λ e. absurd (omega arith)))

total-within : (n x : ℕ) (xs : List ℕ) → IsVertex n x → total n (x ∷ xs) ≡ 1 + total n xs
unfolding total
total-within zero x xs vertex = absurd (let some = vertex.0 in let small = vertex.1 in omega arith)
total-within (suc n) x xs vertex =
    let some = vertex.0 in
    let small = vertex.1 in
    elim (cases_eq x (suc n)) [
      | inl e ↦ omega (arith, total-beyond n x xs (omega arith), times-here x (suc n) xs e)
      | inr e ↦ omega (arith, total-within n x xs (some, omega arith), times-beyond x (suc n) xs e)
    ]

total-length : (n : ℕ) (xs : List ℕ) → All (IsVertex n) xs → total n xs ≡ length xs
total-length n [] vertices = total-none n
total-length n (x ∷ xs) vertices =
    omega (arith, total-within n x xs (All-head (IsVertex n) x xs vertices), total-length n xs (All-tail (IsVertex n) x xs vertices))

total-le : (n : ℕ) (xs : List ℕ) → ((v : ℕ) → times xs v ≤ 1) → total n xs ≤ n
unfolding total
total-le zero xs once = omega arith
total-le (suc n) xs once = omega (arith, total-le n xs once, once (suc n))

pub length-part : (n : ℕ) (list : List ℕ) → IsPart n list → length list ≤ n
length-part n list part = omega (arith, total-length n list part.vertices, total-le n list part.once)
