-- Numbers that stand in a list, and where.
use Rattle.std.proofs.Common.{◌≡◌, ℕ, suc, ◌-◌, ◌<◌, ◌≤◌, Bool, true, false, cond, eqb, List, [], ◌∷◌, ◌++◌, length}
use Rattle.std.proofs.Common.{take, drop, get_or, refl, sym, ap, subst, ◌∙◌, arith, inl, inr, ◌⊎◌, eq-eqb}
use Rattle.std.specs.List.{count_by, range_with_len, All}
use Rattle.std.proofs.lemmas.List.{take-append-drop, length-append}
use Rattle.std.proofs.lemmas.List.FromFn.{length-range_with_len, get_or-range_with_len}
use Rattle.std.proofs.lemmas.List.Folds.{list_any-append}
use Rattle.std.proofs.lemmas.List.Sums.{sum_by-cons, get_or-le-sum_by}
use Rattle.std.proofs.lemmas.Bool.{or_left, or_right, or_cases, eqb-true, cases_Bool, false_from_ne_true}
use Rattle.mp_system.specs.Memory.{stands_in}
use Rattle.graphs.specs.Graph.{IsAmong}

pub stands-left : (xs ys : List ℕ) (v : ℕ) → stands_in xs v ≡ true → stands_in (xs ++ ys) v ≡ true
stands-left xs ys v h = list_any-append (λ u. eqb u v) xs ys ∙ or_left (stands_in xs v) (stands_in ys v) h

pub stands-new : (xs : List ℕ) (v : ℕ) → stands_in (xs ++ v ∷ []) v ≡ true
stands-new xs v =
    let here : stands_in (v ∷ []) v ≡ true = or_left (eqb v v) false (eq-eqb v v refl) in
    list_any-append (λ u. eqb u v) xs (v ∷ []) ∙ or_right (stands_in xs v) (stands_in (v ∷ []) v) here

pub stands-cases : (xs : List ℕ) (w v : ℕ) → stands_in (xs ++ w ∷ []) v ≡ true → (stands_in xs v ≡ true) ⊎ (w ≡ v)
stands-cases xs w v h = elim (or_cases (stands_in xs v) (stands_in (w ∷ []) v) (sym (list_any-append (λ u. eqb u v) xs (w ∷ [])) ∙ h)) [
  | inl old ↦ inl old
  | inr new ↦ elim (or_cases (eqb w v) false new) [ inl e ↦ inr (eqb-true w v e) | inr never ↦ absurd cc ]
]

pub stands-take : (k : ℕ) (xs : List ℕ) (v : ℕ) → stands_in (take k xs) v ≡ true → stands_in xs v ≡ true
stands-take k xs v h = subst (λ (ys : List ℕ). stands_in ys v ≡ true) (take-append-drop k xs) (stands-left (take k xs) (drop k xs) v h)

-- where a number stands
pub record Place (xs : List ℕ) (v : ℕ) : Type 0 where
  pub before : List ℕ
  pub rest : List ℕ
  pub is : xs ≡ before ++ v ∷ rest

pub place : (xs : List ℕ) (v : ℕ) → stands_in xs v ≡ true → Place xs v
place [] v h = absurd cc
place (x ∷ xs) v h = elim (cases_Bool (eqb x v)) [
  | inl e ↦ record { before = []; rest = xs; is = ap (λ (y : ℕ). y ∷ xs) (eqb-true x v e) }
  | inr e ↦ (let p = place xs v (rw e at h) in record { before = x ∷ p.before; rest = p.rest; is = ap (λ (ys : List ℕ). x ∷ ys) p.is })
]

-- a list with one number more, cut before a number
pub push-split : (xs : List ℕ) (w : ℕ) (before : List ℕ) (v : ℕ) (rest : List ℕ) → xs ++ w ∷ [] ≡ before ++ v ∷ rest
    → ((xs ≡ before) × (w ≡ v)) ⊎ ((more : List ℕ) × (xs ≡ before ++ v ∷ more))
push-split [] w [] v rest e = inl (refl, cc)
push-split (x ∷ xs) w [] v rest e = inr (xs, (let same : x ≡ v = cc in ap (λ (y : ℕ). y ∷ xs) same))
push-split [] w (b ∷ bs) v rest e =
    absurd (let n : length (w ∷ []) ≡ length (b ∷ (bs ++ v ∷ rest)) = ap length e in omega (arith, n, length-append bs (v ∷ rest)))
push-split (x ∷ xs) w (b ∷ bs) v rest e =
    let head : x ≡ b = cc in
    let tail : xs ++ w ∷ [] ≡ bs ++ v ∷ rest = cc in
    elim (push-split xs w bs v rest tail) [
      | inl last ↦ inl ((λ i. head i ∷ last.0 i), last.1)
      | inr more ↦ inr (more.0, λ i. head i ∷ more.1 i)
    ]

-- ---- counts

module _ {X : Type 0} (p : X → Bool) where
  -- an element that passes counts
  pub count-at : (xs : List X) (i : ℕ) (d : X) → i < length xs → p (get_or xs i d) ≡ true → 1 ≤ count_by p xs
  count-at xs i d lt e =
      let le = get_or-le-sum_by (λ y. cond {A = ℕ} (p y) 1 0) xs i d lt in
      let one : cond {A = ℕ} (p (get_or xs i d)) 1 0 ≡ 1 = rw e refl in
      omega (arith, le, one)

  pub count-none : (xs : List X) → count_by p xs ≡ 0 → All (λ x. p x ≡ false) xs
  count-none xs none i d lt = false_from_ne_true (p (get_or xs i d)) (λ e. omega (arith, none, count-at xs i d lt e))

  pub count-some : (d : X) (xs : List X) → 1 ≤ count_by p xs → (i : ℕ) × (i < length xs) × (p (get_or xs i d) ≡ true)
  count-some d [] some = absurd (omega arith)
  count-some d (x ∷ xs) some =
      let e = sum_by-cons (λ y. cond {A = ℕ} (p y) 1 0) x xs in
      elim (cases_Bool (p x)) [
        | inl holds ↦ (0, omega arith, holds)
        | inr fails ↦ (let none : cond {A = ℕ} (p x) 1 0 ≡ 0 = rw fails refl in
            let r = count-some d xs (omega (arith, e, some, none)) in (suc r.0, omega (arith, r.1), r.2))
      ]

-- a task that passes counts among all tasks
pub count-task : (p : ℕ → Bool) (n v : ℕ) → IsAmong n v → p v ≡ true → 1 ≤ count_by p (range_with_len 1 n)
count-task p n v among e =
    let lt : v - 1 < n = omega (arith, among.0, among.1) in
    let at : get_or (range_with_len 1 n) (v - 1) 0 ≡ v = get_or-range_with_len 1 n (v - 1) 0 lt ∙ omega (arith, among.0) in
    count-at p (range_with_len 1 n) (v - 1) 0 (omega (arith, lt, length-range_with_len 1 n)) (ap p at ∙ e)
