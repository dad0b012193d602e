-- What is in a list of numbers, and how often.
use Rattle.std.proofs.Common.{◌≡◌, ◌≢◌, ℕ, suc, ◌<◌, ◌≤◌, inl, inr, ◌⊎◌, Bool, true, false, ◌||◌, eqb}
use Rattle.std.proofs.Common.{List, [], ◌∷◌, ◌++◌, length, get_or, refl, sym, ◌∙◌, arith, subst, set}
use Rattle.std.specs.List.{AllPairs}
use Rattle.std.proofs.lemmas.Bool.{cases_eq, cases_Bool, eq-eqb, eqb-true, both_ways, or_cases, or_left, or_right}
use Rattle.std.proofs.lemmas.List.Folds.{list_any-append}
use Rattle.std.proofs.lemmas.List.{get_or-set_other}
use Rattle.std.proofs.lemmas.Grind.{get_or-set_at}
use Rattle.elimination.specs.Elimination.{times}
use Rattle.elimination.proofs.VertexLists.{times-here, times-beyond}
use Rattle.patterns.proofs.NumberLists.{place_of}
use Rattle.patterns.proofs.NumberLists.{has_push}
use Rattle.patterns.proofs.NumberLists.{has_at}
use Rattle.patterns.specs.Pattern.{has}

pub has_one : (b x : ℕ) → has (b ∷ []) x ≡ true → b ≡ x
has_one b x h = eqb-true b x (sym (has_push [] b x) ∙ h)

pub has_own : (b : ℕ) → has (b ∷ []) b ≡ true
has_own b = has_push [] b b ∙ eq-eqb b b refl

has_append : (xs ys : List ℕ) (x : ℕ) → has (xs ++ ys) x ≡ (has xs x || has ys x)
has_append xs ys x = list_any-append (λ z. eqb z x) xs ys

pub has_left : (xs ys : List ℕ) (x : ℕ) → has xs x ≡ true → has (xs ++ ys) x ≡ true
has_left xs ys x h = has_append xs ys x ∙ or_left _ _ h

pub has_right : (xs ys : List ℕ) (x : ℕ) → has ys x ≡ true → has (xs ++ ys) x ≡ true
has_right xs ys x h = has_append xs ys x ∙ or_right (has xs x) _ h

pub has_cases : (xs ys : List ℕ) (x : ℕ) → has (xs ++ ys) x ≡ true → (has xs x ≡ true) ⊎ (has ys x ≡ true)
has_cases xs ys x h = or_cases (has xs x) (has ys x) (sym (has_append xs ys x) ∙ h)

pub times_unless : (xs : List ℕ) (x : ℕ) → has xs x ≡ false → times xs x ≡ 0
times_unless [] x h = refl
times_unless (y ∷ xs) x h =
    elim (cases_eq y x) [
      | inl e ↦ absurd (both_ways _ h (subst (λ z. has (y ∷ xs) z ≡ true) e (has_left (y ∷ []) xs y (has_own y))))
      | inr ne ↦ times-beyond y x xs ne ∙ times_unless xs x (elim (cases_Bool (has xs x))
          [ inl t ↦ absurd (both_ways _ h (has_right (y ∷ []) xs x t)) | inr f ↦ f ])
    ]

pub times_some : (xs : List ℕ) (x : ℕ) → has xs x ≡ true → 0 < times xs x
times_some [] x h = let p = place_of [] x h in absurd (let lt = p.1 in omega arith)
times_some (y ∷ xs) x h =
    elim (cases_eq y x) [
      | inl e ↦ omega (arith, times-here y x xs e)
      | inr ne ↦ elim (has_cases (y ∷ []) xs x h) [
        | inl t ↦ absurd (ne (has_one y x t))
        | inr t ↦ omega
            (arith, times-beyond y x xs ne, times_some xs x t)
      ]
    ]

-- a list that rises has no number twice
pub rising_once : (xs : List ℕ) → AllPairs (λ x y. x < y) xs → (v : ℕ) → times xs v ≤ 1
rising_once [] up v = omega arith
rising_once (x ∷ xs) up v =
    let rest = rising_once xs (λ i j d lt le. up (suc i) (suc j) d (omega arith) (omega arith)) v in
    elim (cases_eq x v) [
      | inl e ↦ (
          let none : has xs v ≡ false = elim (cases_Bool (has xs v)) [
            | inl t ↦ absurd (
                let p = place_of xs v t in
                let above : x < get_or xs p.0 0 = up 0 (suc p.0) 0 (omega arith) (omega (arith, p.1)) in
                let is = p.2 in
                omega arith
                )
            | inr f ↦ f
          ] in
          omega (arith, times-here x v xs e, times_unless xs v none)
          )
      | inr ne ↦ omega (arith, times-beyond x v xs ne)
    ]

-- a table of marks after a write
pub mark_other : (seen : List Bool) (b x : ℕ) (m : Bool) → x ≢ b → get_or (set seen b m) x false ≡ get_or seen x false
mark_other seen b x m ne = get_or-set_other seen b x m false ne

pub mark_here : (seen : List Bool) (b : ℕ) (m : Bool) → b < length seen → get_or (set seen b m) b false ≡ m
mark_here seen b m lt = get_or-set_at seen b b m false refl lt

-- what is not in a list stands at no place of it
pub absent : (xs : List ℕ) (x : ℕ) → has xs x ≡ false → (n : ℕ) → n ≤ length xs → (j : ℕ) → j < n → get_or xs j 0 ≢ x
absent xs x none' n le j lt e = both_ways _ none' (subst (λ z. has xs z ≡ true) e (has_at xs j (omega arith)))
