-- Two tables that undo each other hold a permutation.
use Rattle.std.proofs.Common.{◌≡◌, ◌≢◌, ℕ, zero, suc, ◌<◌, ◌≤◌, ◌^◌, List, [], ◌∷◌, length}
use Rattle.std.proofs.Common.{get_or, inl, inr, refl, sym, ap, subst, ◌∙◌, arith}
use Rattle.std.proofs.lemmas.Bool.{cases_eq, cases_lt}
use Rattle.std.proofs.lemmas.List.Elements.{All-from_get_or}
use Rattle.std.proofs.lemmas.List.{get_or_past}
use Rattle.permutations.specs.Perm.{IsPart, AreInverse, IsVertex, IsPerm, vertex_at, place_of, times}
use Rattle.permutations.specs.PermTables.{ArePermTables}
use Rattle.permutations.proofs.PlaceLemmas.{place-vertex, place-le, times-here, times-beyond}
use Rattle.permutations.proofs.PermLemmas.{perm_from_part, place_of_vertex}

-- at no two places stands the same
abbrev AreDifferent : List ℕ → Type 0
AreDifferent xs = (i j : ℕ) → i < length xs → j < length xs → get_or xs i 0 ≡ get_or xs j 0 → i ≡ j

-- where a vertex stands, counted from 0
stands : (xs : List ℕ) (v : ℕ) → times xs v ≢ 0 → (i : ℕ) × (i < length xs) × (get_or xs i 0 ≡ v)
stands [] v some = absurd (some refl)
stands (x ∷ xs) v some =
    elim (cases_eq x v) [
      | inl e ↦ (0, omega arith, e)
      | inr e ↦ let there = stands xs v (λ none. some (times-beyond x v xs e ∙ none)) in (suc there.0, omega arith, there.2)
    ]

once : (xs : List ℕ) (v : ℕ) → AreDifferent xs → times xs v ≤ 1
once [] v different = omega arith
once (x ∷ xs) v different =
    let rest = once xs v (λ i j li lj e. let same = different (suc i) (suc j) (omega arith) (omega arith) e in omega arith) in
    elim (cases_eq x v) [
      | inl e ↦ elim (cases_eq (times xs v) 0) [
        | inl none ↦ omega (arith, times-here x v xs e)
        | inr some ↦ (
            let there = stands xs v some in
            let same = different 0 (suc there.0) (omega arith) (omega arith) (e ∙ sym there.2) in
            absurd (omega arith)
            )
      ]
      | inr e ↦ omega (arith, times-beyond x v xs e)
    ]

module _ (order places : List ℕ) (inverse : AreInverse (0 ∷ order) places) where
  some_at : (i : ℕ) → i < length order → get_or order i 0 ≢ 0
  some_at i lt e =
      let here = (inverse.vertex (suc i) (omega arith)).1 in
      let first = (inverse.vertex 0 (omega arith)).1 in
      let none : get_or places (get_or order i 0) 0 ≡ get_or places 0 0 = ap (λ x. get_or places x 0) e in
      absurd (omega arith)

  different : AreDifferent order
  different i j li lj e =
      let one = (inverse.vertex (suc i) (omega arith)).1 in
      let other = (inverse.vertex (suc j) (omega arith)).1 in
      let same : get_or places (get_or order i 0) 0 ≡ get_or places (get_or order j 0) 0 = ap (λ x. get_or places x 0) e in
      omega arith

  part : IsPart (length order) order
  part = record {
    vertices = All-from_get_or (IsVertex (length order)) order 0
        (λ i lt. let some = some_at i lt in let small = (inverse.vertex (suc i) (omega arith)).0 in (omega arith, omega arith));
    once = λ v. once order v different;
  }

  pub perm_of_tables : IsPerm (length order) order
  perm_of_tables = perm_from_part (length order) order part refl

  at_place : (k : ℕ) → vertex_at order k ≡ get_or (0 ∷ order) k 0
  at_place zero = refl
  at_place (suc i) = refl

  pub places_of_tables : (v : ℕ) → get_or places v 0 ≡ place_of order v
  places_of_tables v =
      elim (cases_lt v (suc (length order))) [
        | inl lt ↦ (
            let there = inverse.place v lt in
            let at = at_place (get_or places v 0) ∙ there.1 in
            sym (place_of_vertex (length order) order perm_of_tables (get_or places v 0) (let small = there.0 in omega arith))
            ∙ ap (place_of order) at
            )
        | inr le ↦ get_or_past places v 0 (let same = inverse.same_length in omega arith) ∙ sym (beyond le)
      ]
    where
      beyond : suc (length order) ≤ v → place_of order v ≡ 0
      beyond le =
          elim (cases_eq (place_of order v) 0) [
            | inl e ↦ e
            | inr e ↦ (
                let small = place-le order v in
                let here = at_place (place_of order v) in
                let within = (inverse.vertex (place_of order v) (omega arith)).0 in
                let found = place-vertex order v e in
                absurd (omega arith)
                )
          ]

pub inverse_tables : (vertices places : List ℕ) → AreInverse vertices places → length vertices ≤ 2 ^ 32 → ArePermTables vertices places
inverse_tables [] places inverse small = absurd (let some = inverse.some in omega arith)
inverse_tables (x ∷ xs) places inverse small =
    let e : x ≡ 0 = inverse.unused in
    let here : AreInverse (0 ∷ xs) places = subst (λ y. AreInverse (y ∷ xs) places) e inverse in
    record {
      tables = record {
        unused = ap (λ y. y ∷ xs) e;
        few = let same = inverse.same_length in omega arith;
        inverse = places_of_tables xs places here;
      };
      perm = perm_of_tables xs places here;
      small = omega arith;
    }
