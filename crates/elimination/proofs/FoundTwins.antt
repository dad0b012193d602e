-- A vertex whose neighbours are all near another, and are not fewer, is its twin.
use Rattle.std.proofs.Common.{◌≡◌, ℕ, ◌<◌, ◌≤◌, inl, inr, Bool, List, sym, ◌∙◌, subst, IsTrue}
use Rattle.std.proofs.lemmas.Bool.{cases_eq}
use Rattle.patterns.specs.Pattern.{has}
use Rattle.patterns.proofs.NumberLists.{place_of}
use Rattle.elimination.specs.Elimination.{degree_of}
use Rattle.elimination.specs.Quotients.{Quotient}
use Rattle.elimination.specs.Hoods.{IsGathered, mark_at}
use Rattle.elimination.specs.Twins.{is_near, IsGrouped, AreRowsMarked}
use Rattle.elimination.proofs.Gatherings.{neighbour_within}
use Rattle.elimination.proofs.Degrees.{twins_by_degree}
use Rattle.elimination.proofs.Groups.{near_own, near_left, near_cases, near_rep_of, near_member_of}

module _ (q : Quotient) (turn : ℕ → ℕ) (links : List ℕ) (rim : ℕ → List ℕ) (v : ℕ) (near touched : List ℕ) (seen : List Bool)
    (groups : ℕ → List ℕ) (sizes : List ℕ)
    (g : IsGathered q turn links rim v near touched seen) (gr : IsGrouped q turn groups sizes)
    (t : ℕ) (row : List ℕ) (row_is : (x : ℕ) → has row x ≡ q.joined t x) (in_near : IsTrue (has near t))
    (marked : AreRowsMarked turn q.part row seen) where
  left_v : IsTrue (q.left v t)
  left_v = (g.hood.sound t in_near).0

  -- neighbours that stand for their groups
  found_rep : (x : ℕ) → IsTrue (q.left t x) → q.rep x ≡ x → IsTrue (is_near q.left v x)
  found_rep x h own =
      let l = (g.quotient.parted.alive t x h).1 in
      elim (cases_eq v x) [
        | inl e ↦ subst (λ z. IsTrue (is_near q.left v z)) e (near_own q.left v)
        | inr ne ↦ elim (g.quotient.parted.near t x h) [
          | inl j ↦ (
              let p = place_of row x (row_is x ∙ j) in
              let m = subst (λ z. IsTrue (mark_at seen z)) p.2 ((marked p.0 p.1).0 (subst (λ z. turn z ≡ 0) (sym p.2) l)) in
              elim (g.marks.left x l m) [
                | inl i ↦ elim i [ inl e ↦ absurd (ne (sym e)) | inr n ↦ near_left q.left v x (g.hood.sound x n).0 ]
                | inr o ↦ absurd (o own)
              ]
              )
          | inr y ↦ (
              let p = place_of row y.0 (row_is y.0 ∙ y.2) in
              let m = subst (λ z. IsTrue (mark_at seen (q.part z))) p.2 ((marked p.0 p.1).1 (subst (λ z. 0 < turn z) (sym p.2) y.1)) in
              let f = g.hood.from (q.part y.0) (g.marks.parts (q.part y.0) (g.quotient.parted.part_gone y.0 y.1) m) in
              near_left q.left v x (g.quotient.parted.joins v x g.here l ne
              (inr (f.0, f.1, f.2, subst (λ z. IsTrue (q.rim z x)) (sym f.3) y.3)))
              )
        ]
      ]

  found_near : (x : ℕ) → IsTrue (is_near q.left t x) → IsTrue (is_near q.left v x)
  found_near x h =
      elim (near_cases q.left t x h) [
        | inl e ↦ subst (λ z. IsTrue (is_near q.left v z)) e (near_left q.left v t left_v)
        | inr l ↦ (
            let here = (g.quotient.parted.alive t x l).1 in
            near_member_of q turn groups sizes gr g.quotient.plain g.quotient.parted.alive v x here
            (elim (near_cases q.left t (q.rep x) (near_rep_of q turn groups sizes gr g.quotient.plain g.quotient.parted.alive t x here
            (near_left q.left t x l))) [
              | inl e ↦ subst (λ z. IsTrue (is_near q.left v z)) e (near_left q.left v t left_v)
              | inr l' ↦ found_rep (q.rep x) l' (gr.stands x)
            ])
            )
      ]

  pub found_twins : degree_of q.left q.order v ≤ degree_of q.left q.order t → (z : ℕ) → is_near q.left t z ≡ is_near q.left v z
  found_twins le = twins_by_degree q.left q.order t v g.quotient.plain (neighbour_within q turn links rim v near touched seen g v t
      left_v) g.vertex
      (neighbour_within q turn links rim v near touched seen g) found_near le
