-- Before and after the row of a vertex is looked at.
use Rattle.std.proofs.Common.{◌≡◌, ◌≢◌, ℕ, ◌<◌, inl, inr, ◌⊎◌, Bool, true, false, List, [], length}
use Rattle.std.proofs.Common.{refl, sym, ap, ◌∙◌, arith, subst, IsTrue, set, get_or}
use Rattle.std.proofs.lemmas.Bool.{cases_eq, cases_Bool, both_ways}
use Rattle.std.proofs.lemmas.List.Elements.{All-nil}
use Rattle.elimination.specs.Elimination.{IsVertex}
use Rattle.patterns.specs.Pattern.{has}
use Rattle.patterns.proofs.NumberLists.{place_of}
use Rattle.patterns.proofs.NumberLists.{has_at}
use Rattle.elimination.specs.Quotients.{Quotient, IsQuotient}
use Rattle.elimination.specs.Hoods.{IsScanned, IsRowOf, IsHood, AreHidden, IsGathered, mark_at}
use Rattle.elimination.proofs.ListFacts.{mark_other, mark_here}

module _ (q : Quotient) (turn : ℕ → ℕ) (rim : ℕ → List ℕ) (u : ℕ) (row : List ℕ) where
  -- of those that stand for their groups, u alone is marked
  pub start : (seen : List Bool) → AreHidden q turn seen → turn u ≡ 0 → u < length seen
      → IsScanned q turn rim u row 0 [] [] (set seen u true)
  start seen hidden here lt =
      let only : (x : ℕ) → IsTrue (mark_at (set seen u true) x) → (x ≡ u) ⊎ (q.rep x ≢ x) = λ x m. elim (cases_eq x u) [
        | inl e ↦ inl e
        | inr ne ↦ inr (hidden.marks x (sym (mark_other seen u x true ne) ∙ m))
      ] in
      record {
        tracked = record {
          vertices = All-nil (IsVertex q.order);
          once = λ x. omega arith;
          left = λ x h. absurd (both_ways _ refl h);
          stands = λ x h. absurd (both_ways _ refl h);
          marked = λ x h. absurd (both_ways _ refl h);
          marks = λ x l m. elim (only x m) [ inl e ↦ inl (inl e) | inr o ↦ inr o ];
          hidden = λ x ne. elim (cases_eq x u) [
            | inl e ↦ subst (λ z. IsTrue (mark_at (set seen u true) z)) (sym e) (mark_here seen u true lt)
            | inr other ↦ mark_other seen u x true other ∙ hidden.marked x ne
          ];
          own = mark_here seen u true lt;
        };
        sound = λ x h. absurd (both_ways _ refl h);
        beside = λ j lt l. absurd (omega arith);
        through = λ p x h. absurd (both_ways _ refl h);
        marks = λ p g m. elim (only p m) [ inl e ↦ absurd (let k = ap turn e in omega arith) | inr o ↦ absurd (o (hidden.gone p g)) ];
        from = λ p h. absurd (both_ways _ refl h);
        to = λ j lt g. absurd (omega arith);
      }

  module _ (links near touched : List ℕ) (seen : List Bool) (quotient : IsQuotient q turn links rim) (r : IsRowOf q turn u row)
      (s : IsScanned q turn rim u row (length row) near touched seen) where
    -- whoever is joined to u stands in the row
    in_row : (x : ℕ) → IsTrue (q.joined u x) → (j : ℕ) × (j < length row) × (get_or row j 0 ≡ x)
    in_row x h = place_of row x (r.row x ∙ h)

    complete : (x : ℕ) → IsTrue (q.left u x) → q.rep x ≡ x → IsTrue (has near x)
    complete x h own =
        elim (quotient.parted.near u x h) [
          | inl e ↦ (
              let p = in_row x e in
              let own' : q.rep (get_or row p.0 0) ≡ get_or row p.0 0 = subst (λ z. q.rep z ≡ z) (sym p.2) own in
              subst (λ z. IsTrue (has near z)) p.2 (s.beside p.0 p.1 (subst (λ z. turn z ≡ 0) (sym p.2) (quotient.parted.alive u x h).1)
              own')
              )
          | inr y ↦ (
              let p = in_row y.0 y.2 in
              let t = s.to p.0 p.1 (subst (λ z. 0 < turn z) (sym p.2) y.1) in
              let t' : IsTrue (has touched (q.part y.0)) = subst (λ z. IsTrue (has touched (q.part z))) p.2 t in
              s.through (q.part y.0) x t' (quotient.listed_to y.0 x y.1 y.3 own)
              (λ e. quotient.plain.irreflexive u (subst (λ z. IsTrue (q.left u z)) e h)) own
              )
        ]

    the_hood : IsHood q turn u near touched
    the_hood = record {
      vertices = s.tracked.vertices;
      once = s.tracked.once;
      sound = λ x h. (s.sound x h, s.tracked.stands x h);
      complete = complete;
      from = s.from;
      to = λ c g h. let p = in_row c h in subst (λ z. IsTrue (has touched (q.part z))) p.2
          (s.to p.0 p.1 (subst (λ z. 0 < turn z) (sym p.2) g));
    }

    pub gathered : ((x : ℕ) → 0 < turn x → q.rep x ≡ x) → IsGathered q turn links rim u near touched seen
    gathered gone = record {
      quotient = quotient;
      here = r.here;
      stands = r.stands;
      vertex = r.vertex;
      hood = the_hood;
      marks = record { gone = gone; marked = s.tracked.hidden; left = s.tracked.marks; parts = s.marks };
    }

module _ (q : Quotient) (turn : ℕ → ℕ) (links : List ℕ) (rim : ℕ → List ℕ) (u : ℕ) (near touched : List ℕ) (seen : List Bool)
    (g : IsGathered q turn links rim u near touched seen) where
  -- a neighbour in what is left is a vertex
  pub neighbour_within : (a x : ℕ) → IsTrue (q.left a x) → IsVertex q.order x
  neighbour_within a x h =
      elim (g.quotient.parted.near a x h) [
        | inl e ↦ g.quotient.within a x e
        | inr y ↦ (let f = g.quotient.parted.rim_from y.0 x y.1 y.3 in g.quotient.within f.0 x f.3)
      ]

  touched_gone : (p : ℕ) → IsTrue (has touched p) → 0 < turn p
  touched_gone p h = let f = g.hood.from p h in subst (λ z. 0 < turn z) f.3 (g.quotient.parted.part_gone f.0 f.1)

  -- the parts that are listed have marks to take away
  pub touched_within : (j : ℕ) → j < length touched → get_or touched j 0 < length links
  touched_within j lt =
      let b = (g.quotient.gone (get_or touched j 0) (touched_gone (get_or touched j 0) (has_at touched j lt))).1 in
      let size = g.quotient.size in
      omega arith

  pub own_within : u < length links
  own_within = let b = g.vertex.1 in let size = g.quotient.size in omega arith

  -- the marks of u, its neighbours and its parts are gone
  pub released : (seen1 seen2 : List Bool) → ((x : ℕ) → IsTrue (has near x) → mark_at seen1 x ≡ false)
      → ((x : ℕ) → has near x ≡ false → mark_at seen1 x ≡ mark_at seen x)
      → ((x : ℕ) → IsTrue (has touched x) → mark_at seen2 x ≡ false) → ((x : ℕ) → has touched x ≡ false
      → mark_at seen2 x ≡ mark_at seen1 x) → u < length seen2
      → AreHidden q turn (set seen2 u false)
  released seen1 seen2 gone1 same1 gone2 same2 lt = record {
    gone = g.marks.gone;
    marked = λ x ne.
        let not_u : x ≢ u = λ e. ne (subst (λ z. q.rep z ≡ z) (sym e) g.stands) in
        let not_near : has near x ≡ false = elim (cases_Bool (has near x)) [ inl t ↦ absurd (ne (g.hood.sound x t).1) | inr f ↦ f ] in
        let not_part : has touched x ≡ false = elim (cases_Bool (has touched x))
        [ inl t ↦ absurd (ne (g.marks.gone x (touched_gone x t))) | inr f ↦ f ] in
        mark_other seen2 u x false not_u ∙ same2 x not_part ∙ same1 x not_near ∙ g.marks.marked x ne;
    marks = λ x m.
        let not_u : x ≢ u = λ e. both_ways _ (mark_here seen2 u false lt) (subst (λ z. IsTrue (mark_at (set seen2 u false) z)) e m) in
        let m2 : IsTrue (mark_at seen2 x) = sym (mark_other seen2 u x false not_u) ∙ m in
        let not_part : has touched x ≡ false = elim (cases_Bool (has touched x))
        [ inl t ↦ absurd (both_ways _ (gone2 x t) m2) | inr f ↦ f ] in
        let m1 : IsTrue (mark_at seen1 x) = sym (same2 x not_part) ∙ m2 in
        let not_near : has near x ≡ false = elim (cases_Bool (has near x)) [ inl t ↦ absurd (both_ways _ (gone1 x t) m1) | inr f ↦ f ] in
        let m0 : IsTrue (mark_at seen x) = sym (same1 x not_near) ∙ m1 in
        elim (cases_eq (turn x) 0) [
          | inl l ↦ elim (g.marks.left x l m0) [
            | inl i ↦ elim i [ inl e ↦ absurd (not_u e) | inr h ↦ absurd (both_ways _ not_near h) ]
            | inr o ↦ o
          ]
          | inr ng ↦ absurd (both_ways _ not_part (g.marks.parts x (omega arith) m0))
        ];
  }
