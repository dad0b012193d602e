-- Truth values, and tests of numbers.
use Rattle.std.proofs.Common.{Bool, true, false, not, ◌||◌, ◌&&◌, ◌==◌, ◌≡◌, ◌≤◌, ◌⊎◌}
use Rattle.std.proofs.Common.{ℕ, cond, eqb, inl, inr, refl, sym, ◌∙◌, arith, eq-eqb}
use Rattle.std.proofs.lemmas.Bool.{ne_eqb, cases_eq, not_from_false, eqb-false, not-true}

-- ---- truth values

pub true_or_false : (b : Bool) → (b ≡ true) ⊎ (b ≡ false)
true_or_false true = inl refl
true_or_false false = inr refl

pub same_bool : (a b : Bool) → (a ≡ true → b ≡ true) → (b ≡ true → a ≡ true) → a ≡ b
same_bool true b to from = sym (to refl)
same_bool false true to from = from refl
same_bool false false to from = refl

pub both_true : (a b : Bool) → (a && b) ≡ true → (a ≡ true) × (b ≡ true)
both_true true b e = (refl, e)
both_true false b e = absurd cc

pub or_false : (b : Bool) → (b || false) ≡ b
or_false true = refl
or_false false = refl

pub or_true : (b : Bool) → (b || true) ≡ true
or_true true = refl
or_true false = refl

pub false_of_not : (a : Bool) → not a ≡ true → a ≡ false
false_of_not true e = absurd cc
false_of_not false e = refl

pub cond_zero : (b : Bool) (n : ℕ) → n ≡ 0 → cond b n 0 ≡ 0
cond_zero true n e = e
cond_zero false n e = refl

-- ---- tests of numbers

pub eqb_same : (v : ℕ) → (v == v) ≡ true
eqb_same v = eq-eqb v v refl

pub eqb_flip : (a b : ℕ) → eqb a b ≡ eqb b a
eqb_flip a b = elim (cases_eq a b) [ inl e ↦ rw e refl | inr o ↦ ne_eqb a b o ∙ sym (ne_eqb b a (λ e. o (sym e))) ]

pub not_from_ne : (a b : ℕ) → (a ≡ b → ⊥) → not (a == b) ≡ true
not_from_ne a b h = not_from_false (a == b) (ne_eqb a b h)

pub ne_from_not : (a b : ℕ) → not (a == b) ≡ true → a ≡ b → ⊥
ne_from_not a b h = eqb-false a b (not-true (a == b) h)

pub positive : (n : ℕ) → not (eqb n 0) ≡ true → 1 ≤ n
positive n e = let some = eqb-false n 0 (not-true (eqb n 0) e) in omega (arith, some)
