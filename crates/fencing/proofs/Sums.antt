-- Sums over the tasks, and over takings.
use Rattle.std.proofs.Common.{◌≡◌, ◌≢◌, ℕ, zero, suc, ◌+◌, ◌<◌, ◌≤◌, cond, eqb, true, false, eq-eqb, List, [], ◌∷◌, length, get_or, refl, arith, ⊎_elim}
use Rattle.std.specs.Prelude.{All}
use Rattle.std.specs.List.{sum_by, range_with_len}
use Rattle.std.proofs.lemmas.Bool.{cases_eq, ne_eqb}
use Rattle.std.proofs.lemmas.List.Elements.{All-head, All-tail}
use Rattle.std.proofs.lemmas.List.Sums.{get_or-le-sum_by, sum_by-cons}
use Rattle.fences.proofs.ChainAmounts.{one_sum}
use Rattle.fences.proofs.Swaps.{count_of, count_of-cons}
use Rattle.fencing.specs.declared.ledger.Taking.{Taking}
use Rattle.fencing.specs.Takings.{amount_from, amount_to, taken_by, taken_from, taking_amount}

pub sum_none : {X : Type 0} (f : X → ℕ) → ((x : X) → f x ≡ 0) → (xs : List X) → sum_by f xs ≡ 0
sum_none f each [] = refl
sum_none f each (x ∷ xs) = omega (arith, each x, sum_none f each xs, sum_by-cons f x xs)

pub sums_same : (f g : ℕ → ℕ) (a n : ℕ) → ((v : ℕ) → a ≤ v → v < a + n → f v ≡ g v) → sum_by f (range_with_len a n) ≡ sum_by g (range_with_len a n)
sums_same f g a zero each = refl
sums_same f g a (suc n) each =
    omega (
      arith,
      each a (omega arith) (omega arith),
      sums_same f g (a + 1) n (λ v low high. each v (omega arith) (omega arith)),
      sum_by-cons f a (range_with_len (a + 1) n),
      sum_by-cons g a (range_with_len (a + 1) n),
    )

pub sums_le : (f g : ℕ → ℕ) (a n : ℕ) → ((v : ℕ) → a ≤ v → v < a + n → f v ≤ g v) → sum_by f (range_with_len a n) ≤ sum_by g (range_with_len a n)
sums_le f g a zero each = omega arith
sums_le f g a (suc n) each =
    omega (
      arith,
      each a (omega arith) (omega arith),
      sums_le f g (a + 1) n (λ v low high. each v (omega arith) (omega arith)),
      sum_by-cons f a (range_with_len (a + 1) n),
      sum_by-cons g a (range_with_len (a + 1) n),
    )

pub sums_add : (f g h : ℕ → ℕ) (a n : ℕ) → ((v : ℕ) → a ≤ v → v < a + n → f v + g v ≡ h v) → sum_by f (range_with_len a n) + sum_by g (range_with_len a n) ≡ sum_by h (range_with_len a n)
sums_add f g h a zero each = refl
sums_add f g h a (suc n) each =
    omega (
      arith,
      each a (omega arith) (omega arith),
      sums_add f g h (a + 1) n (λ v low high. each v (omega arith) (omega arith)),
      sum_by-cons f a (range_with_len (a + 1) n),
      sum_by-cons g a (range_with_len (a + 1) n),
      sum_by-cons h a (range_with_len (a + 1) n),
    )

-- one term is changed
module _ (f g : ℕ → ℕ) (v : ℕ) (others : (u : ℕ) → v ≢ u → f u ≡ g u) where
  unchanged : (ns : List ℕ) → count_of ns v ≡ 0 → sum_by g ns ≡ sum_by f ns
  unchanged [] none = refl
  unchanged (x ∷ xs) none =
      ⊎_elim
      (λ same. absurd (let one : ◌≡◌ {A = ℕ} (cond (eqb v x) 1 0) 1 = rw (eq-eqb v x same) in omega (arith, one, count_of-cons x xs v)))
      (λ other. omega (arith, others x other, unchanged xs (omega (arith, count_of-cons x xs v)), sum_by-cons f x xs, sum_by-cons g x xs))
      (cases_eq v x)

  pub changed : (ns : List ℕ) → count_of ns v ≡ 1 → sum_by g ns + f v ≡ sum_by f ns + g v
  changed [] one = absurd (omega (arith, one))
  changed (x ∷ xs) one =
      ⊎_elim
      (λ same.
      let here : ◌≡◌ {A = ℕ} (cond (eqb v x) 1 0) 1 = rw (eq-eqb v x same) in
      let rest = unchanged xs (omega (arith, here, count_of-cons x xs v)) in
      rw same (omega (arith, rest, sum_by-cons f x xs, sum_by-cons g x xs)))
      (λ other.
      let none : ◌≡◌ {A = ℕ} (cond (eqb v x) 1 0) 0 = rw (ne_eqb v x other) in
      omega (arith, others x other, changed xs (omega (arith, none, count_of-cons x xs v)), sum_by-cons f x xs, sum_by-cons g x xs))
      (cases_eq v x)

-- ---- over takings

-- what is taken by one task alone
pub taken_aimed : (v : ℕ) (added : List Taking) → All (λ taking. taking.to ≡ v) added → (u : ℕ) → taken_by added u ≡ cond (eqb v u) (sum_by taking_amount added) 0
taken_aimed v [] aimed u = elim (eqb v u) as (λ b. ◌≡◌ {A = ℕ} 0 (cond b 0 0)) [ true ↦ refl | false ↦ refl ]
taken_aimed v (taking ∷ added) aimed u =
    let here : taking.to ≡ v = All-head (λ (t : Taking). t.to ≡ v) taking added aimed in
    let rest = taken_aimed v added (All-tail (λ (t : Taking). t.to ≡ v) taking added aimed) u in
    let one : amount_to u taking ≡ cond (eqb v u) taking.amount 0 = rw here refl in
    let both : cond (eqb v u) taking.amount 0 + cond (eqb v u) (sum_by taking_amount added) 0 ≡ cond (eqb v u) (taking.amount + sum_by taking_amount added) 0 =
    elim (eqb v u) as (λ b. cond b taking.amount 0 + cond b (sum_by taking_amount added) 0 ≡ cond b (taking.amount + sum_by taking_amount added) 0) [ true ↦ refl | false ↦ refl ] in
    rw (sum_by-cons taking_amount taking added) (omega (arith, both, one, rest, sum_by-cons (amount_to u) taking added))

-- one taking is among what is taken of its task, and among what its task takes
pub from_among : (added : List Taking) (k : ℕ) (d : Taking) → k < length added → (get_or added k d).amount ≤ taken_from added (get_or added k d).from
from_among added k d lt =
    let taking = get_or added k d in
    let here : amount_from taking.from taking ≡ taking.amount = rw (eq-eqb taking.from taking.from refl) refl in
    omega (arith, here, get_or-le-sum_by (amount_from taking.from) added k d lt)

pub to_among : (takings : List Taking) (k : ℕ) (d : Taking) → k < length takings → (get_or takings k d).amount ≤ taken_by takings (get_or takings k d).to
to_among takings k d lt =
    let taking = get_or takings k d in
    let here : amount_to taking.to taking ≡ taking.amount = rw (eq-eqb taking.to taking.to refl) refl in
    omega (arith, here, get_or-le-sum_by (amount_to taking.to) takings k d lt)

-- what all tasks take
parts : (taking : Taking) (takings : List Taking) (ns : List ℕ) → sum_by (taken_by (taking ∷ takings)) ns ≡ sum_by (λ v. cond (eqb taking.to v) taking.amount 0) ns + sum_by (taken_by takings) ns
parts taking takings [] = refl
parts taking takings (x ∷ xs) =
    omega (
      arith,
      sum_by-cons (taken_by (taking ∷ takings)) x xs,
      sum_by-cons (λ v. cond (eqb taking.to v) taking.amount 0) x xs,
      sum_by-cons (taken_by takings) x xs,
      sum_by-cons (amount_to x) taking takings,
      parts taking takings xs,
    )

pub all_taken : (takings : List Taking) (ns : List ℕ) → All (λ (t : Taking). count_of ns t.to ≡ 1) takings → sum_by (taken_by takings) ns ≡ sum_by taking_amount takings
all_taken [] ns once = sum_none (taken_by []) (λ v. refl) ns
all_taken (taking ∷ takings) ns once =
    omega (
      arith,
      parts taking takings ns,
      one_sum taking.to taking.amount ns (All-head (λ (t : Taking). count_of ns t.to ≡ 1) taking takings once),
      all_taken takings ns (All-tail (λ (t : Taking). count_of ns t.to ≡ 1) taking takings once),
      sum_by-cons taking_amount taking takings,
    )
