-- States that are looked up among those of a set.
use Rattle.std.proofs.Common.{◌≡◌, zero, suc, Bool, true, false, cond, ◌||◌, List, [], ◌∷◌, ◌++◌, map, refl, sym, ap, ◌∙◌, arith, inl, inr}
use Rattle.std.specs.List.{list_any}
use Rattle.std.specs.Bool.{Decides}
use Rattle.std.specs.Cmp.{booleans_Decides}
use Rattle.std.specs.Cmp.Lexicographic.{pointwise, pointwise_decides}
use Rattle.std.specs.Bool.{beq}
use Rattle.std.proofs.lemmas.List.{map-append}
use Rattle.std.proofs.lemmas.Bool.{or_cases, cases_Bool}
use Rattle.state_search.specs.Kept.{IsKept, IsNew}

decides : (xs ys : List Bool) → Decides (pointwise beq xs ys) (xs ≡ ys)
decides xs ys = pointwise_decides booleans_Decides xs ys

module _ {K : Type 0} (row : K → List Bool) (marks : List Bool) where
  pub found : (keys : List K) → list_any (λ k. pointwise beq marks (row k)) keys ≡ true → IsKept (map row keys) marks
  found [] e = absurd cc
  found (k ∷ keys) e = elim (or_cases (pointwise beq marks (row k)) (list_any (λ j. pointwise beq marks (row j)) keys) e) [
    | inl here ↦ record { place = 0; inside = omega arith; is = sym ((decides marks (row k)).0 here) }
    | inr there ↦ (
        let later = found keys there in
        record { place = suc later.place; inside = omega (arith, later.inside); is = later.is })
  ]

  neither : (a b : Bool) → (a || b) ≡ false → (a ≡ false) × (b ≡ false)
  neither false false e = (refl, refl)
  neither false true e = absurd cc
  neither true b e = absurd cc

  pub not_found : (keys : List K) → list_any (λ k. pointwise beq marks (row k)) keys ≡ false → IsNew (map row keys) marks
  not_found [] e i lt same = absurd (omega arith)
  not_found (k ∷ keys) e zero lt same =
      let parts = neither (pointwise beq marks (row k)) (list_any (λ j. pointwise beq marks (row j)) keys) e in
      let f : true ≡ false = sym ((decides marks (row k)).1 (sym same)) ∙ parts.0 in cc
  not_found (k ∷ keys) e (suc i) lt same =
      let parts = neither (pointwise beq marks (row k)) (list_any (λ j. pointwise beq marks (row j)) keys) e in
      not_found keys parts.1 i (omega arith) same

  pub new_not_found : (keys : List K) → IsNew (map row keys) marks → list_any (λ k. pointwise beq marks (row k)) keys ≡ false
  new_not_found keys new = elim (cases_Bool (list_any (λ k. pointwise beq marks (row k)) keys)) [
    | inl there ↦ absurd (let kept = found keys there in new kept.place kept.inside kept.is)
    | inr none ↦ none
  ]

  -- a state that is put in goes last
  pub pushed_rows : (keys more : List K) (key : K) → row key ≡ marks → IsNew (map row keys) marks
      → more ≡ cond (list_any (λ k. pointwise beq (row key) (row k)) keys) keys (keys ++ key ∷ [])
      → map row more ≡ map row keys ++ marks ∷ []
  pushed_rows keys more key is new more_is =
      let none : list_any (λ k. pointwise beq (row key) (row k)) keys ≡ false =
      ap (λ (m : List Bool). list_any (λ k. pointwise beq m (row k)) keys) is ∙ new_not_found keys new in
      ap (λ (l : List K). map row l) (more_is ∙ ap (λ (b : Bool). cond {A = List K} b keys (keys ++ key ∷ [])) none)
      ∙ map-append row keys (key ∷ []) ∙ ap (λ (m : List Bool). map row keys ++ m ∷ []) is
