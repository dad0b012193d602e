-- The first of so many places at which a fact does not hold.
use Rattle.std.proofs.Common.{◌≡◌, ℕ, zero, suc, ◌⊎◌, inl, inr, sym, subst, arith}
use Rattle.std.proofs.lemmas.Bool.{cases_eq, cases_order}
use Rattle.lists.specs.Numbers.{Each, IsFirstWithout}

-- at each place, the fact holds or not
abbrev pub IsEither : ℕ → (ℕ → Type 0) → Type 0
IsEither count fact = Each count (λ place. fact place ⊎ (fact place → ⊥))

-- it holds at each place, or there is a first at which it does not
pub first_without : (count : ℕ) (fact : ℕ → Type 0) → IsEither count fact
    → Each count fact ⊎ ((place : ℕ) × IsFirstWithout count fact place)
first_without zero fact either = inl (λ v place. absurd (omega (arith, place.0, place.1)))
first_without (suc n) fact either =
    elim (first_without n fact (λ v place. either v (place.0, omega (arith, place.1)))) [
      | inr first ↦ inr (
        first.0,
        record {
          is_place = (first.1.is_place.0, omega (arith, first.1.is_place.1));
          fails = first.1.fails;
          before = first.1.before;
        },
      )
      | inl before ↦ elim (either (suc n) (omega arith, omega arith)) [
        | inr fails ↦ inr (
          suc n,
          record {
            is_place = (omega arith, omega arith);
            fails = fails;
            before = λ w some less. before w (some, omega arith);
          },
        )
        | inl holds ↦ inl (λ v place. elim (cases_eq v (suc n)) [
          | inl last ↦ subst fact (sym last) holds
          | inr other ↦ before v (place.0, omega (arith, place.1, other))
        ])
      ]
    ]

-- there is one first
pub one_first_without : (count : ℕ) (fact : ℕ → Type 0) (v w : ℕ) → IsFirstWithout count fact v → IsFirstWithout count fact w → v ≡ w
one_first_without count fact v w one two = elim (cases_order v w) [
  | inl same ↦ same
  | inr (inl lt) ↦ absurd (one.fails (two.before v one.is_place.0 lt))
  | inr (inr gt) ↦ absurd (two.fails (one.before w two.is_place.0 gt))
]
