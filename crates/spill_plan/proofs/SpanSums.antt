-- Sums over spans, and tests of spans.
use Rattle.std.proofs.Common.{◌≡◌, ◌≢◌, ℕ, zero, suc, ◌+◌, ◌-◌, ◌<◌, ◌≤◌, inl, inr, Bool, true}
use Rattle.std.proofs.Common.{false, cond, refl, subst, arith, List, [], ◌∷◌, length, get_or}
use Rattle.std.specs.Prelude.{nat_lt}
use Rattle.std.specs.List.{sum_by}
use Rattle.std.proofs.lemmas.List.Sums.{sum_by-cons}
use Rattle.spill_plan.specs.declared.span.Span.{Span}
use Rattle.spill_plan.specs.SpillPlans.{sum_from}
use Rattle.spill_plan.specs.Spans.{no_span, is_across}
use Rattle.lists.proofs.Orders.{le_or_lt}

pub split : {A : Type 0} (m n : ℕ) → (m ≤ n → A) → (n < m → A) → A
split m n f g = elim (le_or_lt m n) [ inl h ↦ f h | inr h ↦ g h ]

-- ---- tests of a span

pub lt-yes : (m n x : ℕ) → m < n → cond (nat_lt m n) x 0 ≡ x
lt-yes m n x h = grind arith

pub lt-no : (m n x : ℕ) → n ≤ m → cond (nat_lt m n) x 0 ≡ 0
lt-no m n x h = grind arith

pub across-yes : (k : ℕ) (s : Span) → s.start ≤ k → k < s.end → is_across k s ≡ true
across-yes k s h l = grind arith

pub across-early : (k : ℕ) (s : Span) → k < s.start → is_across k s ≡ false
across-early k s h = grind arith

pub across-late : (k : ℕ) (s : Span) → s.end ≤ k → is_across k s ≡ false
across-late k s h = grind arith

pub record Across (k : ℕ) (x : Span) : Type 0 where
  pub start : x.start ≤ k
  pub end : k < x.end

pub across-is : (k : ℕ) (x : Span) → is_across k x ≡ true → Across k x
across-is k x e = record { start = grind arith; end = grind arith }

-- ---- choices

pub cond-yes : (b : Bool) (x : ℕ) → b ≡ true → cond b x 0 ≡ x
cond-yes true x e = refl
cond-yes false x e = absurd cc

pub cond-no : (b : Bool) (x : ℕ) → b ≡ false → cond b x 0 ≡ 0
cond-no true x e = absurd cc
cond-no false x e = refl

pub cond-le : (b : Bool) (x y : ℕ) → x ≤ y → cond b x 0 ≤ cond b y 0
cond-le true x y h = h
cond-le false x y h = omega arith

-- a size is its parts
pub parts : (b : Bool) (s a : ℕ) → a ≤ s → cond b s 0 ≡ cond b a 0 + cond b (s - a) 0
parts true s a h = omega arith
parts false s a h = refl

-- ---- sums

pub sum-le : (f g : ℕ → Span → ℕ) (base : ℕ) (xs : List Span) → ((i : ℕ) → i < length xs → f (base + i) (get_or xs i no_span)
    ≤ g (base + i) (get_or xs i no_span)) → sum_from base f xs ≤ sum_from base g xs
sum-le f g base [] each = omega arith
sum-le f g base (x ∷ xs) each =
    let here : f base x ≤ g base x = subst (λ n. f n x ≤ g n x) (omega arith) (each 0 (omega arith)) in
    let rest = sum-le f g (suc base) xs (λ i h. subst (λ n. f n (get_or xs i no_span) ≤ g n (get_or xs i no_span)) (omega arith)
    (each (suc i) (omega arith))) in
    omega (arith, here, rest)

pub sum-add : (f g : ℕ → Span → ℕ) (base : ℕ) (xs : List Span) → sum_from base (λ i x. f i x + g i x) xs
    ≡ sum_from base f xs + sum_from base g xs
sum-add f g base [] = refl
sum-add f g base (x ∷ xs) = omega (arith, sum-add f g (suc base) xs)

pub sum-same : (f g : ℕ → Span → ℕ) (base : ℕ) (xs : List Span)
    → ((i : ℕ) → i < length xs → f (base + i) (get_or xs i no_span) ≡ g (base + i) (get_or xs i no_span)) → sum_from base f xs
    ≡ sum_from base g xs
sum-same f g base xs each = omega (
  arith,
  sum-le f g base xs (λ i h. omega (arith, each i h)),
  sum-le g f base xs
      (λ i h. omega (arith, each i h)),
)

pub sum-le-all : (f g : ℕ → Span → ℕ) (xs : List Span) → ((i : ℕ) → i < length xs → f i (get_or xs i no_span) ≤ g i (get_or xs i no_span))
    → sum_from 0 f xs ≤ sum_from 0 g xs
sum-le-all f g xs each = sum-le f g 0 xs (λ i h. subst (λ n. f n (get_or xs i no_span) ≤ g n (get_or xs i no_span)) (omega arith)
    (each i h))

pub sum-same-all : (f g : ℕ → Span → ℕ) (xs : List Span) → ((i : ℕ) → i < length xs → f i (get_or xs i no_span)
    ≡ g i (get_or xs i no_span)) → sum_from 0 f xs ≡ sum_from 0 g xs
sum-same-all f g xs each = sum-same f g 0 xs (λ i h. subst (λ n. f n (get_or xs i no_span) ≡ g n (get_or xs i no_span)) (omega arith)
    (each i h))

-- a sum that takes no places
pub sum_from-sum_by : (f : Span → ℕ) (base : ℕ) (xs : List Span) → sum_from base (λ i x. f x) xs ≡ sum_by f xs
sum_from-sum_by f base [] = refl
sum_from-sum_by f base (x ∷ xs) = omega (arith, sum_by-cons f x xs, sum_from-sum_by f (suc base) xs)

-- ---- sums that differ at one place

sum-change-from : (f g : ℕ → Span → ℕ) (base : ℕ) (xs : List Span) (i : ℕ) → i < length xs
    → ((j : ℕ) → j < length xs → j ≢ i → f (base + j) (get_or xs j no_span) ≡ g (base + j) (get_or xs j no_span))
    → sum_from base f xs + g (base + i) (get_or xs i no_span) ≡ sum_from base g xs + f (base + i) (get_or xs i no_span)
sum-change-from f g base [] i h same = absurd (omega arith)
sum-change-from f g base (x ∷ xs) zero h same =
    let e : base + 0 ≡ base = omega arith in
    let rest = tails f g (suc base) xs (λ j l. subst (λ n. f n (get_or xs j no_span) ≡ g n (get_or xs j no_span)) (omega arith)
    (same (suc j) (omega arith) (omega arith))) in
    rw e (omega (arith, rest))
  where
    tails : (f g : ℕ → Span → ℕ) (base : ℕ) (xs : List Span) → ((j : ℕ) → j < length xs → f (base + j) (get_or xs j no_span)
        ≡ g (base + j) (get_or xs j no_span)) → sum_from base f xs ≡ sum_from base g xs
    tails f g base [] each = refl
    tails f g base (x ∷ xs) each =
        let here : f base x ≡ g base x = subst (λ n. f n x ≡ g n x) (omega arith) (each 0 (omega arith)) in
        omega (
          arith,
          here,
          tails f g (suc base) xs (λ j l. subst (λ n. f n (get_or xs j no_span) ≡ g n (get_or xs j no_span))
              (omega arith) (each (suc j) (omega arith))),
        )
sum-change-from f g base (x ∷ xs) (suc i) h same =
    let here : f base x ≡ g base x = subst (λ n. f n x ≡ g n x) (omega arith) (same 0 (omega arith) (omega arith)) in
    let e : base + suc i ≡ suc base + i = omega arith in
    let rest = sum-change-from f g (suc base) xs i (omega arith)
    (λ j l ne. subst (λ n. f n (get_or xs j no_span) ≡ g n (get_or xs j no_span)) (omega arith)
    (same (suc j) (omega arith) (omega arith))) in
    rw e (omega (arith, rest, here))

pub sum-change : (f g : ℕ → Span → ℕ) (xs : List Span) (i : ℕ) → i < length xs
    → ((j : ℕ) → j < length xs → j ≢ i → f j (get_or xs j no_span) ≡ g j (get_or xs j no_span))
    → sum_from 0 f xs + g i (get_or xs i no_span) ≡ sum_from 0 g xs + f i (get_or xs i no_span)
sum-change f g xs i h same =
    let e : 0 + i ≡ i = omega arith in
    let whole = sum-change-from f g 0 xs i h (λ j l ne. subst (λ n. f n (get_or xs j no_span) ≡ g n (get_or xs j no_span)) (omega arith)
    (same j l ne)) in
    subst (λ n. sum_from 0 f xs + g n (get_or xs i no_span) ≡ sum_from 0 g xs + f n (get_or xs i no_span)) e whole

-- a sum of nothing
pub sum-none : (f : ℕ → Span → ℕ) (xs : List Span) → ((j : ℕ) → j < length xs → f j (get_or xs j no_span) ≡ 0) → sum_from 0 f xs ≡ 0
sum-none f xs each = omega (arith, sum-le-all f (λ i x. 0) xs (λ i h. omega (arith, each i h)), zeros 0 xs)
  where
    zeros : (base : ℕ) (xs : List Span) → sum_from base (λ i x. 0) xs ≡ 0
    zeros base [] = refl
    zeros base (x ∷ xs) = omega (arith, zeros (suc base) xs)

-- one term is at most the sum
pub term-le : (f : ℕ → Span → ℕ) (xs : List Span) (i : ℕ) → i < length xs → f i (get_or xs i no_span) ≤ sum_from 0 f xs
term-le f xs i h = let e : 0 + i ≡ i = omega arith in subst (λ n. f n (get_or xs i no_span) ≤ sum_from 0 f xs) e (go 0 xs i h refl)
  where
    go : (base : ℕ) (ys : List Span) (j : ℕ) → j < length ys → base + j ≡ base + j → f (base + j) (get_or ys j no_span) ≤ sum_from base f ys
    go base [] j l e = absurd (omega arith)
    go base (y ∷ ys) zero l e = let e0 : base + 0 ≡ base = omega arith in rw e0 (omega arith)
    go base (y ∷ ys) (suc j) l e = let e1 : base + suc j ≡ suc base + j = omega arith in rw e1
        (omega (arith, go (suc base) ys j (omega arith) (omega arith)))
