-- Rising lists with the same numbers are one.
use Rattle.std.proofs.Common.{◌≡◌, ◌≢◌, ℕ, suc, ◌<◌, ◌≤◌, inl, inr, true, false}
use Rattle.std.proofs.Common.{List, [], ◌∷◌, refl, sym, ◌∙◌, arith}
use Rattle.std.specs.List.Sorted.{IsStrictlyIncreasing}
use Rattle.std.proofs.lemmas.Bool.{cases_eq, eq-eqb, ne_eqb, false_from_ne_true, both_ways}
use Rattle.row_table.specs.Rows.{has}
use Rattle.row_table.proofs.NumberLists.{place_of, rises}
use Rattle.lists.proofs.Lists.{rising-tail}

above_head : (x : ℕ) (xs : List ℕ) (y : ℕ) → IsStrictlyIncreasing (x ∷ xs) → has xs y ≡ true → x < y
above_head x xs y rising there =
    let place = place_of xs y there in
    let lt = place.1 in
    let up = rises (x ∷ xs) rising 0 (suc place.0) (omega arith) (omega arith) in
    rw (place.2) at up

not_in_tail : (x : ℕ) (xs : List ℕ) (y : ℕ) → IsStrictlyIncreasing (x ∷ xs) → y ≤ x → has xs y ≡ false
not_in_tail x xs y rising le = false_from_ne_true (has xs y) (λ there. absurd (let up = above_head x xs y rising there in omega arith))

in_tail : (x : ℕ) (xs : List ℕ) (y : ℕ) → x ≢ y → has (x ∷ xs) y ≡ has xs y
in_tail x xs y other = rw (ne_eqb x y other) refl

head_in : (x : ℕ) (xs : List ℕ) → has (x ∷ xs) x ≡ true
head_in x xs = rw (eq-eqb x x refl) refl

same_heads : (x y : ℕ) (xs ys : List ℕ) → IsStrictlyIncreasing (x ∷ xs)
    → IsStrictlyIncreasing (y ∷ ys) → ((z : ℕ) → has (x ∷ xs) z ≡ has (y ∷ ys) z) → x ≡ y
same_heads x y xs ys one two same =
    elim (cases_eq x y) [
      | inl e ↦ e
      | inr other ↦ absurd (
          let x_there : has ys x ≡ true = sym (in_tail y ys x (λ e. other (sym e))) ∙ sym (same x) ∙ head_in x xs in
          let y_there : has xs y ≡ true = sym (in_tail x xs y other) ∙ same y ∙ head_in y ys in
          let up = above_head y ys x two x_there in
          let down = above_head x xs y one y_there in
          omega arith
          )
    ]

pub rising_same : (xs ys : List ℕ) → IsStrictlyIncreasing xs → IsStrictlyIncreasing ys → ((z : ℕ) → has xs z ≡ has ys z) → xs ≡ ys
rising_same [] [] one two same = refl
rising_same [] (y ∷ ys) one two same = absurd (both_ways false refl (same y ∙ head_in y ys))
rising_same (x ∷ xs) [] one two same = absurd (both_ways false refl (sym (same x) ∙ head_in x xs))
rising_same (x ∷ xs) (y ∷ ys) one two same =
    let heads = same_heads x y xs ys one two same in
    let tails = λ (z : ℕ). elim (cases_eq x z) as (λ _. has xs z ≡ has ys z) [
      | inl here ↦ not_in_tail x xs z one (omega arith) ∙ sym (not_in_tail y ys z two (omega arith))
      | inr other ↦ sym (in_tail x xs z other) ∙ same z ∙ in_tail y ys z (λ e. other (heads ∙ e))
    ] in
    let rest : xs ≡ ys = rising_same xs ys (rising-tail x xs one) (rising-tail y ys two) tails in
    cc
