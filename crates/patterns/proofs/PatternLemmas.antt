-- Patterns and pairs: what pairs name, and which rows are their pattern.
use Rattle.std.proofs.Common.{◌≡◌, ℕ, zero, suc, ◌+◌, ◌≤◌, inl, inr, Bool, true, false, not, ◌||◌, ◌&&◌, eqb, List}
use Rattle.std.proofs.Common.{[], ◌∷◌, length, drop, refl, sym, ap, ◌∙◌, arith, All, IsPermutation, length-drop}
use Rattle.std.specs.List.{list_any}
use Rattle.std.specs.List.Sorted.{IsStrictlyIncreasing}
use Rattle.std.proofs.lemmas.Bool.{eq-eqb, cases_Bool, eqb-true, and_parts, or_cases, false_from_ne_true}
use Rattle.std.proofs.lemmas.List.Folds.{list_any-append}
use Rattle.std.proofs.lemmas.List.Sorted.{list_any-IsPermutation}
use Rattle.std.proofs.lemmas.Grind.{get_or_after_one}
use Rattle.std.proofs.lemmas.Bool.Decides.{nat_tests}
use Rattle.limits.specs.Limits.{most_order}
use Rattle.row_table.specs.Rows.{row_at}
use Rattle.patterns.specs.Pattern.{neighbours_of, has, is_joined, names, are_named, IsPairWithin, IsPatternOf}
use Rattle.patterns.specs.Partners.{partner, partners, IsPairBelow}
use Rattle.lists.proofs.Bools.{eqb_flip as eqb-same}

-- ---- what pairs name

or_flip : (a b : Bool) → (a || b) ≡ (b || a)
or_flip true true = refl
or_flip true false = refl
or_flip false true = refl
or_flip false false = refl

any_same : {X : Type 0} (p q : X → Bool) (xs : List X) → ((x : X) → p x ≡ q x) → list_any p xs ≡ list_any q xs
any_same p q [] same = refl
any_same p q (x ∷ xs) same = rw (same x, any_same p q xs same) refl

names_flip : (a b : ℕ) (pair : ℕ × ℕ) → names a b pair ≡ names b a pair
names_flip a b pair = or_flip (eqb pair.0 a && eqb pair.1 b) (eqb pair.0 b && eqb pair.1 a)

pub named_flip : (pairs : List (ℕ × ℕ)) (a b : ℕ) → are_named pairs a b ≡ are_named pairs b a
named_flip pairs a b = rw (eqb-same a b, any_same (names a b) (names b a) pairs (names_flip a b)) refl

never_itself : (pairs : List (ℕ × ℕ)) (a : ℕ) → are_named pairs a a ≡ false
never_itself pairs a = rw (eq-eqb a a refl) refl

All-head : {X : Type 0} (P : X → Type 0) (x : X) (xs : List X) → All P (x ∷ xs) → P x
All-head P x xs all = all 0 x (omega arith)

All-tail : {X : Type 0} (P : X → Type 0) (x : X) (xs : List X) → All P (x ∷ xs) → All P xs
All-tail P x xs all = λ k d lt. all (suc k) d (omega arith)

abbrev BothWithin : ℕ → ℕ → ℕ → Type 0
BothWithin order a b = ((1 ≤ a) × (a ≤ order)) × ((1 ≤ b) × (b ≤ order))

one_within : (order a b : ℕ) (pair : ℕ × ℕ) → IsPairWithin order pair → names a b pair ≡ true → BothWithin order a b
one_within order a b pair within named =
    elim (or_cases (eqb pair.0 a && eqb pair.1 b) (eqb pair.0 b && eqb pair.1 a) named) [
      | inl straight ↦
          (let p = and_parts (eqb pair.0 a) (eqb pair.1 b) straight in rw (← eqb-true pair.0 a p.0, ← eqb-true pair.1 b p.1) within)
      | inr crossed ↦
          (let p = and_parts (eqb pair.0 b) (eqb pair.1 a) crossed in
          rw (← eqb-true pair.0 b p.0, ← eqb-true pair.1 a p.1) (within.1, within.0))
    ]

any_within : (order : ℕ) (pairs : List (ℕ × ℕ)) (a b : ℕ) → All (IsPairWithin order) pairs
    → list_any (names a b) pairs ≡ true → BothWithin order a b
any_within order [] a b within named = absurd cc
any_within order (pair ∷ pairs) a b within named =
    elim (or_cases (names a b pair) (list_any (names a b) pairs) named) [
      | inl here ↦ one_within order a b pair (All-head (IsPairWithin order) pair pairs within) here
      | inr later ↦ any_within order pairs a b (All-tail (IsPairWithin order) pair pairs within) later
    ]

pub named_within : (order : ℕ) (pairs : List (ℕ × ℕ)) (a b : ℕ)
    → All (IsPairWithin order) pairs → are_named pairs a b ≡ true → BothWithin order a b
named_within order pairs a b within named =
    any_within order pairs a b within (and_parts (not (eqb a b)) (list_any (names a b) pairs) named).1

pub below_from_within : (order : ℕ) (pairs : List (ℕ × ℕ)) → All (IsPairWithin order) pairs → All (IsPairBelow (order + 1)) pairs
below_from_within order pairs within = λ k d lt. let w = within k d lt in (omega (arith, w.0.1), omega (arith, w.1.1))

-- ---- partners are whom pairs name

partner_is : (v u a b : ℕ) → has (partner v (a, b)) u ≡ (not (eqb v u) && names v u (a, b))
partner_is v u a b = grind (arith, nat_tests)

partner_named : (v u : ℕ) (pair : ℕ × ℕ) → has (partner v pair) u ≡ (not (eqb v u) && names v u pair)
partner_named v u pair = partner_is v u pair.0 pair.1

and_or : (a b c : Bool) → ((a && b) || (a && c)) ≡ (a && (b || c))
and_or true b c = refl
and_or false b c = refl

pub partners_named : (pairs : List (ℕ × ℕ)) (v u : ℕ) → has (partners pairs v) u ≡ are_named pairs v u
partners_named [] v u = elim (cases_Bool (eqb v u)) [ inl e ↦ rw e refl | inr e ↦ rw e refl ]
partners_named (pair ∷ pairs) v u =
    list_any-append (λ x. eqb x u) (partner v pair) (partners pairs v)
    ∙ rw (partner_named v u pair, partners_named pairs v u) (and_or (not (eqb v u)) (names v u pair) (list_any (names v u) pairs))

-- ---- which rows are the pattern of pairs

pub is_pattern_of : (order : ℕ) (pairs : List (ℕ × ℕ)) (rows : List (List ℕ))
    → (1 ≤ order) × (order ≤ most_order) → All (IsPairWithin order) pairs → length rows ≡ order
    → ((v : ℕ) → IsStrictlyIncreasing (neighbours_of rows v))
    → ((a b : ℕ) → is_joined rows a b ≡ are_named pairs a b) → IsPatternOf order pairs rows
is_pattern_of order pairs rows few within order_is rising joined = record {
  order_is = order_is;
  pattern = record {
    some = omega (arith, few.0);
    few = omega (arith, few.1);
    rising = rising;
    inside = λ a b there. let w = named_within order pairs a b within (sym (joined a b) ∙ there) in (w.1.0, omega (arith, w.1.1));
    symmetric = λ a b there. joined b a ∙ named_flip pairs b a ∙ sym (joined a b) ∙ there;
    irreflexive = λ a. joined a a ∙ never_itself pairs a;
  };
  joined = joined;
}

-- the rows from the second on
pub neighbours_in : (rows : List (List ℕ)) (i : ℕ) → neighbours_of (drop 1 rows) (suc i) ≡ row_at rows (suc i)
neighbours_in rows i = let one : 1 + i ≡ suc i = omega arith in get_or_after_one rows i [] ∙ ap (row_at rows) one

pub sorted_pattern : (order : ℕ) (pairs moved : List (ℕ × ℕ)) (rows : List (List ℕ))
    → (1 ≤ order) × (order ≤ most_order) → All (IsPairWithin order) pairs
    → IsPermutation pairs moved → length rows ≡ order + 1 → ((v : ℕ) → IsStrictlyIncreasing (row_at rows v))
    → ((v x : ℕ) → has (row_at rows v) x ≡ has (partners moved v) x) → IsPatternOf order pairs (drop 1 rows)
sorted_pattern order pairs moved rows few within is_moved count sorted same =
    is_pattern_of order pairs (drop 1 rows) few within (omega (arith, length-drop 1 rows)) rising joined where
      rising : (v : ℕ) → IsStrictlyIncreasing (neighbours_of (drop 1 rows) v)
      rising zero = λ k lt. absurd (omega arith)
      rising (suc i) = rw (neighbours_in rows i) (sorted (suc i))

      moved_named : (a b : ℕ) → are_named moved a b ≡ are_named pairs a b
      moved_named a b = ap (λ (named : Bool). not (eqb a b) && named) (sym (list_any-IsPermutation (names a b) pairs moved is_moved))

      joined : (a b : ℕ) → is_joined (drop 1 rows) a b ≡ are_named pairs a b
      joined zero b =
          sym (false_from_ne_true (are_named pairs zero b)
          (λ named. absurd (let w = named_within order pairs zero b within named in let some = w.0.0 in omega arith)))
      joined (suc i) b =
          ap (λ (l : List ℕ). has l b) (neighbours_in rows i) ∙ same (suc i) b ∙ partners_named moved (suc i) b ∙ moved_named (suc i) b
