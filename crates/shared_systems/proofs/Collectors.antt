-- The collectors of shared items with their numbers, and those that are due between two states.
use Rattle.std.proofs.Common.{◌≡◌, ℕ, ◌+◌, ◌<◌, ◌≤◌, Bool, true, false, cond, not, ◌&&◌, eqb, eq-eqb}
use Rattle.std.proofs.Common.{List, [], ◌∷◌, ◌++◌, refl, ap, subst, ◌∙◌, arith, inl, inr}
use Rattle.std.specs.Prelude.{All, count_by}
use Rattle.std.proofs.lemmas.List.Sums.{sum_by-cons, sum_by-append}
use Rattle.std.proofs.lemmas.List.Elements.{All-head, All-tail, All-nil, All-cons, All-append}
use Rattle.std.proofs.lemmas.Bool.{cases_Bool, cases_eq, ne_eqb, and_parts}
use Rattle.mp_system.specs.Memory.{stands_in}
use Rattle.shared_systems.specs.Shared.{SharedItem}
use Rattle.shared_systems.specs.SharedMemory.{are_done}
use Rattle.shared_systems.specs.Collected.{is_shared, next_from}
use Rattle.shared_systems.specs.Woven.{is_due, due_from}
use Rattle.shared_systems.proofs.States.{next_ge}

-- ---- counts

abbrev pub count_of : List ℕ → ℕ → ℕ
count_of order v = count_by (λ u. eqb u v) order

pub count_of-cons : (x : ℕ) (xs : List ℕ) (v : ℕ) → count_of (x ∷ xs) v ≡ cond (eqb x v) 1 0 + count_of xs v
count_of-cons x xs v = sum_by-cons (λ u. cond (eqb u v) 1 0) x xs

pub count_of-append : (xs ys : List ℕ) (v : ℕ) → count_of (xs ++ ys) v ≡ count_of xs v + count_of ys v
count_of-append xs ys v = sum_by-append (λ u. cond (eqb u v) 1 0) xs ys

pub one_if : (x v : ℕ) → x ≡ v → ◌≡◌ {A = ℕ} (cond (eqb x v) 1 0) 1
one_if x v e = rw (eq-eqb x v e) refl

pub none_if : (x v : ℕ) → (x ≡ v → ⊥) → ◌≡◌ {A = ℕ} (cond (eqb x v) 1 0) 0
none_if x v e = rw (ne_eqb x v e) refl

pub uncounted_above : (xs : List ℕ) (v : ℕ) → All (λ d. v < d) xs → count_of xs v ≡ 0
uncounted_above [] v above = refl
uncounted_above (x ∷ xs) v above =
    let here = All-head (λ d. v < d) x xs above in
    omega (arith, count_of-cons x xs v, none_if x v (λ e. omega arith), uncounted_above xs v (All-tail (λ d. v < d) x xs above))

-- what stands in a list is counted there
pub stands_counted : (xs : List ℕ) (v : ℕ) (b : Bool) → count_of xs v ≡ cond b 1 0 → stands_in xs v ≡ b
stands_counted [] v true e = absurd (omega arith)
stands_counted [] v false e = refl
stands_counted (x ∷ xs) v b e = elim (cases_eq x v) [
  | inl same ↦ rw (eq-eqb x v same) (elim b as (λ b. count_of (x ∷ xs) v ≡ cond b 1 0 → true ≡ b) [
    | true ↦ λ e. refl
    | false ↦ λ e. absurd (omega (arith, count_of-cons x xs v, one_if x v same))
  ] e)
  | inr other ↦ rw (ne_eqb x v other) (stands_counted xs v b (omega (arith, count_of-cons x xs v, none_if x v other)))
]

-- ---- all collectors

-- what is said of each collector with its item
abbrev pub Each : (ℕ → SharedItem → Type 0) → ℕ → List SharedItem → Type 0
Each P k [] = Unit {0}
Each P k (x ∷ xs) = (is_shared x ≡ true → P k x) × Each P (next_from k x) xs

pub next_is : (k : ℕ) (x : SharedItem) → next_from k x ≡ k + cond (is_shared x) 1 0
next_is k x = elim (is_shared x) as (λ b. cond b (k + 1) k ≡ k + cond b 1 0) [ true ↦ refl | false ↦ omega arith ]

pub next_shared : (k : ℕ) (x : SharedItem) → is_shared x ≡ true → next_from k x ≡ k + 1
next_shared k x shared = rw shared refl

pub each_map : (P Q : ℕ → SharedItem → Type 0) (R : SharedItem → Type 0) (low : ℕ)
    → ((k : ℕ) (x : SharedItem) → low ≤ k → is_shared x ≡ true → R x → P k x → Q k x)
    → (k : ℕ) (xs : List SharedItem) → low ≤ k → All R xs → Each P k xs → Each Q k xs
each_map P Q R low f k [] le within each = tt
each_map P Q R low f k (x ∷ xs) le within each = (
  λ shared. f k x le shared (All-head R x xs within) (each.0 shared),
  each_map P Q R low f (next_from k x) xs (omega (arith, next_ge k x)) (All-tail R x xs within) each.1,
)

pub each_make : (Q : ℕ → SharedItem → Type 0) (R : SharedItem → Type 0) → ((k : ℕ) (x : SharedItem) → is_shared x ≡ true → R x → Q k x)
    → (k : ℕ) (xs : List SharedItem) → All R xs → Each Q k xs
each_make Q R f k [] within = tt
each_make Q R f k (x ∷ xs) within =
    (λ shared. f k x shared (All-head R x xs within), each_make Q R f (next_from k x) xs (All-tail R x xs within))

pub each_both : (P Q : ℕ → SharedItem → Type 0) (k : ℕ) (xs : List SharedItem)
    → Each P k xs → Each Q k xs → Each (λ j x. P j x × Q j x) k xs
each_both P Q k [] p q = tt
each_both P Q k (x ∷ xs) p q = (λ shared. (p.0 shared, q.0 shared), each_both P Q (next_from k x) xs p.1 q.1)

pub more_shared : (k : ℕ) (x : SharedItem) (xs : List SharedItem) → next_from k x + count_by is_shared xs ≡ k + count_by is_shared (x ∷ xs)
more_shared k x xs = omega (arith, next_is k x, sum_by-cons (λ y. cond (is_shared y) 1 0) x xs)

-- the numbers of collectors are all from k on, as many as there are shared items
pub each_range : (k : ℕ) (xs : List SharedItem) → Each (λ j x. (k ≤ j) × (j < k + count_by is_shared xs)) k xs
each_range k [] = tt
each_range k (x ∷ xs) = (
  λ shared. (let one : ◌≡◌ {A = ℕ} (cond (is_shared x) 1 0) 1 = rw shared refl in
      (omega arith, omega (arith, one, sum_by-cons (λ y. cond (is_shared y) 1 0) x xs))),
  each_map (λ j y. (next_from k x ≤ j) × (j < next_from k x + count_by is_shared xs))
      (λ j y. (k ≤ j) × (j < k + count_by is_shared (x ∷ xs))) (λ y. Unit {0}) 0
      (λ j y low shared unit within. (omega (arith, within.0, next_ge k x), omega (arith, within.1, more_shared k x xs)))
      (next_from k x) xs (omega arith) (λ i d lt. tt) (each_range (next_from k x) xs),
)

pub each_at : (P : ℕ → SharedItem → Type 0) (k : ℕ) (xs : List SharedItem) → Each P k xs
    → (v : ℕ) → k ≤ v → v < k + count_by is_shared xs → (x : SharedItem) × P v x
each_at P k [] each v low high = absurd (omega arith)
each_at P k (x ∷ xs) each v low high = elim (cases_Bool (is_shared x)) [
  | inl shared ↦ elim (cases_eq k v) [
    | inl same ↦ (x, subst (λ (j : ℕ). P j x) same (each.0 shared))
    | inr other ↦ each_at P (next_from k x) xs each.1 v (omega (arith, next_shared k x shared)) (omega (arith, more_shared k x xs))
  ]
  | inr sole ↦
      (let same : next_from k x ≡ k = rw sole refl in
      each_at P (next_from k x) xs each.1 v (omega arith) (omega (arith, more_shared k x xs)))
]

-- ---- the collectors that are due

module _ (done later : ℕ → Bool) where
  due_here : (Q : ℕ → Type 0) (k : ℕ) (due : Bool) → (due ≡ true → Q k) → All Q (cond due (k ∷ []) [])
  due_here Q k true here = All-cons Q k [] (here refl) (All-nil Q)
  due_here Q k false here = All-nil Q

  pub due_all : (Q : ℕ → Type 0) (k : ℕ) (xs : List SharedItem)
      → Each (λ j x. is_due done later x ≡ true → Q j) k xs → All Q (due_from done later k xs)
  due_all Q k [] each = All-nil Q
  due_all Q k (x ∷ xs) each =
      All-append Q (cond (is_due done later x) (k ∷ []) []) (due_from done later (next_from k x) xs)
      (due_here Q k (is_due done later x)
      (λ due. each.0 ((and_parts (is_shared x) (are_done later x.readers && not (are_done done x.readers)) due).0) due))
      (due_all Q (next_from k x) xs each.1)

  pub due_range : (k : ℕ) (xs : List SharedItem) → All (λ d. (k ≤ d) × (d < k + count_by is_shared xs)) (due_from done later k xs)
  due_range k xs =
      due_all (λ d. (k ≤ d) × (d < k + count_by is_shared xs)) k xs
      (each_map (λ j x. (k ≤ j) × (j < k + count_by is_shared xs))
      (λ j x. is_due done later x ≡ true → (k ≤ j) × (j < k + count_by is_shared xs)) (λ y. Unit {0}) 0
      (λ j x low shared unit within due. within) k xs (omega arith) (λ i d lt. tt) (each_range k xs))

  due_above : (v k : ℕ) (xs : List SharedItem) → v < k → count_of (due_from done later k xs) v ≡ 0
  due_above v k xs lt = uncounted_above (due_from done later k xs) v
      (λ i d inside. (let range = due_range k xs i d inside in omega (arith, range.0)))

  one_here : (k v : ℕ) (due : Bool) → k ≡ v → count_of (cond due (k ∷ []) []) v ≡ cond due 1 0
  one_here k v true same = omega (arith, count_of-cons k [] v, one_if k v same)
  one_here k v false same = refl

  none_here : (k v : ℕ) (due : Bool) → (due ≡ true → k ≡ v → ⊥) → count_of (cond due (k ∷ []) []) v ≡ 0
  none_here k v true other = omega (arith, count_of-cons k [] v, none_if k v (other refl))
  none_here k v false other = refl

  -- each stands there once if it is due, and else not at all
  pub due_counts : (k : ℕ) (xs : List SharedItem)
      → Each (λ j x. count_of (due_from done later k xs) j ≡ cond (are_done later x.readers && not (are_done done x.readers)) 1 0) k xs
  due_counts k [] = tt
  due_counts k (x ∷ xs) =
      let here = cond (is_due done later x) (k ∷ []) [] in
      let rest = due_from done later (next_from k x) xs in (
        λ shared. (
            let due : is_due done later x ≡ (are_done later x.readers && not (are_done done x.readers)) = rw shared refl in
            let one : count_of here k ≡ cond (are_done later x.readers && not (are_done done x.readers)) 1 0 =
            one_here k k (is_due done later x) refl ∙ ap (λ (b : Bool). cond b 1 0) due in
            omega (arith, count_of-append here rest k, one, due_above k (next_from k x) xs (omega (arith, next_shared k x shared)))
            ),
        each_map (λ j y. count_of rest j ≡ cond (are_done later y.readers && not (are_done done y.readers)) 1 0)
            (λ j y. count_of (here ++ rest) j ≡ cond (are_done later y.readers && not (are_done done y.readers)) 1 0)
            (λ y. Unit {0}) (next_from k x)
            (λ j y low shared unit is. (
            let none = none_here k j (is_due done later x) (λ due same. (
            let x_shared = (and_parts (is_shared x) (are_done later x.readers && not (are_done done x.readers)) due).0 in
            omega (arith, next_shared k x x_shared))) in
            omega (arith, count_of-append here rest j, none, is)
            ))
            (next_from k x) xs (omega arith) (λ i d lt. tt) (due_counts (next_from k x) xs),
      )
