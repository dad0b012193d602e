-- The numbers of the items that a task reads.
use Rattle.std.proofs.Common.{◌≡◌, ℕ, zero, suc, ◌+◌, ◌<◌, ◌≤◌, Bool, true, false, cond, eqb, eq-eqb, List, [], ◌∷◌, ◌++◌}
use Rattle.std.proofs.Common.{length, refl, sym, ap, ◌∙◌, arith, inl, inr}
use Rattle.std.specs.Prelude.{All, count_by}
use Rattle.std.specs.List.{filter, sum_by}
use Rattle.std.proofs.lemmas.List.Sums.{sum_by-cons, sum_by-le-sum_by}
use Rattle.std.proofs.lemmas.List.Elements.{All-nil, All-cons, All-append, All-weaker}
use Rattle.std.proofs.lemmas.Bool.{cases_lt, cases_Bool, ne_eqb}
use Rattle.shared_systems.specs.Shared.{SharedItem, shared_item_at, is_read_by}
use Rattle.activation.specs.Tables.{numbers_read}

-- a sum over what passes
pub sum_filter : {X : Type 0} (p : X → Bool) (f : X → ℕ) (xs : List X) → sum_by f (filter p xs) ≡ sum_by (λ x. cond (p x) (f x) 0) xs
sum_filter p f [] = refl
sum_filter p f (x ∷ xs) = elim (cases_Bool (p x)) [
  | inl passes ↦
      let here : filter p (x ∷ xs) ≡ x ∷ filter p xs = rw passes refl in
      let term : cond (p x) (f x) 0 ≡ f x = rw passes refl in
      omega (
        arith,
        ap (sum_by f) here,
        term,
        sum_filter p f xs,
        sum_by-cons f x (filter p xs),
        sum_by-cons (λ y. cond (p y) (f y) 0) x xs,
      )
  | inr off ↦
      let here : filter p (x ∷ xs) ≡ filter p xs = rw off refl in
      let term : ◌≡◌ {A = ℕ} (cond (p x) (f x) 0) 0 = rw off refl in
      omega (arith, ap (sum_by f) here, term, sum_filter p f xs, sum_by-cons (λ y. cond (p y) (f y) 0) x xs)
]

pub sum_filter-le : {X : Type 0} (p : X → Bool) (f : X → ℕ) (xs : List X) → sum_by f (filter p xs) ≤ sum_by f xs
sum_filter-le p f xs = omega (
  arith,
  sum_filter p f xs,
  sum_by-le-sum_by (λ x. cond (p x) (f x) 0) f xs (λ x. less (p x) (f x)),
)
  where
    less : (b : Bool) (n : ℕ) → cond b n 0 ≤ n
    less true n = omega arith
    less false n = omega arith

module _ (t : ℕ) where
  one_sum : (f : ℕ → ℕ) (b : Bool) (first : ℕ) (rest : List ℕ)
      → sum_by f (cond b (first ∷ []) [] ++ rest) ≡ cond b (f first) 0 + sum_by f rest
  one_sum f true first rest = sum_by-cons f first rest
  one_sum f false first rest = omega arith

  nothing : (b : Bool) → ◌≡◌ {A = ℕ} (cond b 0 0) 0
  nothing true = refl
  nothing false = refl

  one_all : (P : ℕ → Type 0) (b : Bool) (first : ℕ) → P first → All P (cond b (first ∷ []) [])
  one_all P true first h = All-cons P first [] h (All-nil P)
  one_all P false first h = All-nil P

  pub numbers_within : (first : ℕ) (xs : List SharedItem) → All (λ j. (first ≤ j) × (j < first + length xs)) (numbers_read t first xs)
  numbers_within first [] = All-nil (λ j. (first ≤ j) × (j < first + 0))
  numbers_within first (x ∷ xs) =
      let P : ℕ → Type 0 = λ j. (first ≤ j) × (j < first + length (x ∷ xs)) in
      All-append P (cond (is_read_by t x) (first ∷ []) []) (numbers_read t (first + 1) xs)
      (one_all P (is_read_by t x) first (omega arith, omega arith))
      (All-weaker (λ j. (first + 1 ≤ j) × (j < first + 1 + length xs)) P (λ j h. (omega (arith, h), omega (arith, h)))
      (numbers_read t (first + 1) xs) (numbers_within (first + 1) xs))

  -- a sum over these numbers
  pub numbers_sum : (f : ℕ → ℕ) (g : SharedItem → ℕ) (first : ℕ) (xs : List SharedItem)
      → ((i : ℕ) → i < length xs → f (first + i) ≡ g (shared_item_at xs i))
      → sum_by f (numbers_read t first xs) ≡ sum_by (λ x. cond (is_read_by t x) (g x) 0) xs
  numbers_sum f g first [] same = refl
  numbers_sum f g first (x ∷ xs) same =
      let at : first + 0 ≡ first = omega arith in
      let here : f first ≡ g x = ap f (sym at) ∙ same 0 (omega arith) in
      let term : cond (is_read_by t x) (f first) 0 ≡ cond (is_read_by t x) (g x) 0 =
      ap (λ (n : ℕ). cond (is_read_by t x) n 0) here in
      let rest = numbers_sum f g (first + 1) xs
      (λ i lt. let e : first + 1 + i ≡ first + suc i = omega arith in ap f e ∙ same (suc i) (omega arith)) in
      omega (
        arith,
        one_sum f (is_read_by t x) first (numbers_read t (first + 1) xs),
        term,
        rest,
        sum_by-cons (λ y. cond (is_read_by t y) (g y) 0) x xs,
      )

  -- a number below the first is none of them
  numbers_above : (first : ℕ) (xs : List SharedItem) (j : ℕ) → j < first → count_by (λ i. eqb i j) (numbers_read t first xs) ≡ 0
  numbers_above first [] j lt = refl
  numbers_above first (x ∷ xs) j lt =
      let zero' : ◌≡◌ {A = ℕ} (cond (is_read_by t x) (cond (eqb first j) 1 0) 0) 0 =
      rw (ne_eqb first j (λ e. omega arith)) (nothing (is_read_by t x)) in
      omega (
        arith,
        one_sum (λ i. cond (eqb i j) 1 0) (is_read_by t x) first (numbers_read t (first + 1) xs),
        zero',
        numbers_above (first + 1) xs j (omega arith),
      )

  -- nor is one past the last
  numbers_past : (first : ℕ) (xs : List SharedItem) (j : ℕ) → first + length xs ≤ j
      → count_by (λ i. eqb i j) (numbers_read t first xs) ≡ 0
  numbers_past first [] j le = refl
  numbers_past first (x ∷ xs) j le =
      let none : ◌≡◌ {A = ℕ} (cond (is_read_by t x) (cond (eqb first j) 1 0) 0) 0 =
      rw (ne_eqb first j (λ e. omega arith)) (nothing (is_read_by t x)) in
      omega (
        arith,
        one_sum (λ i. cond (eqb i j) 1 0) (is_read_by t x) first (numbers_read t (first + 1) xs),
        none,
        numbers_past (first + 1) xs j (omega arith),
      )

  -- the number of an item stands once among them where the task reads it
  pub numbers_count : (first : ℕ) (xs : List SharedItem) (j : ℕ) → j < length xs
      → count_by (λ i. eqb i (first + j)) (numbers_read t first xs) ≡ cond (is_read_by t (shared_item_at xs j)) 1 0
  numbers_count first [] j lt = absurd (omega arith)
  numbers_count first (x ∷ xs) zero lt =
      let e : first + 0 ≡ first = omega arith in
      let term : ◌≡◌ {A = ℕ} (cond (is_read_by t x) (cond (eqb first (first + 0)) 1 0) 0) (cond (is_read_by t x) 1 0) =
      rw (eq-eqb first (first + 0) (sym e)) refl in
      omega (
        arith,
        one_sum (λ i. cond (eqb i (first + 0)) 1 0) (is_read_by t x) first (numbers_read t (first + 1) xs),
        term,
        numbers_above (first + 1) xs (first + 0) (omega arith),
      )
  numbers_count first (x ∷ xs) (suc j) lt =
      let e : first + 1 + j ≡ first + suc j = omega arith in
      let rest : count_by (λ i. eqb i (first + suc j)) (numbers_read t (first + 1) xs) ≡ cond (is_read_by t (shared_item_at xs j)) 1 0 =
      ap (λ (n : ℕ). count_by (λ i. eqb i n) (numbers_read t (first + 1) xs)) (sym e) ∙ numbers_count (first + 1) xs j (omega arith) in
      let none : ◌≡◌ {A = ℕ} (cond (is_read_by t x) (cond (eqb first (first + suc j)) 1 0) 0) 0 =
      rw (ne_eqb first (first + suc j) (λ e. omega arith)) (nothing (is_read_by t x)) in
      omega (
        arith,
        one_sum (λ i. cond (eqb i (first + suc j)) 1 0) (is_read_by t x) first (numbers_read t (first + 1) xs),
        none,
        rest,
      )

  -- none stands twice
  pub numbers_once : (xs : List SharedItem) (j : ℕ) → count_by (λ i. eqb i j) (numbers_read t 0 xs) ≤ 1
  numbers_once xs j = elim (cases_lt j (length xs)) [
    | inl lt ↦
        let e : 0 + j ≡ j = omega arith in
        let counted = ap (λ (n : ℕ). count_by (λ i. eqb i n) (numbers_read t 0 xs)) (sym e) ∙ numbers_count 0 xs j lt in
        omega (arith, counted, small (is_read_by t (shared_item_at xs j)))
    | inr past ↦ omega (arith, numbers_past 0 xs j (omega arith))
  ]
    where
      small : (b : Bool) → cond b 1 0 ≤ 1
      small true = omega arith
      small false = omega arith
