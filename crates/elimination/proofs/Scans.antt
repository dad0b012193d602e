-- Looking at one more vertex of a row.
use Rattle.std.proofs.Common.{◌≡◌, ◌≢◌, ℕ, ◌+◌, ◌<◌, inl, inr, Bool, true, List, [], ◌∷◌}
use Rattle.std.proofs.Common.{◌++◌, length, sym, ap, ◌∙◌, arith, subst, IsTrue, set}
use Rattle.std.proofs.lemmas.Bool.{cases_eq}
use Rattle.elimination.specs.Elimination.{IsAdjacency}
use Rattle.patterns.specs.Pattern.{has}
use Rattle.elimination.specs.Quotients.{Quotient, IsParted, at}
use Rattle.elimination.specs.Hoods.{IsTracked, IsVisited, AreLeft, IsScanned, CanEnter, mark_at}
use Rattle.elimination.proofs.ListFacts.{has_one, has_own, has_left, has_right, has_cases, mark_other, mark_here}

module _ (q : Quotient) (turn : ℕ → ℕ) (rim : ℕ → List ℕ) (u : ℕ) (row : List ℕ) (i : ℕ) where
  -- a neighbour that is left
  pub beside_step : (near near' touched : List ℕ) (seen seen' : List Bool) → IsParted q.joined q.left turn q.part q.rim
      → IsAdjacency q.joined
      → turn u ≡ 0 → turn (at row i) ≡ 0 → IsTrue (q.joined u (at row i)) → IsScanned q turn rim u row i near touched seen
      → IsVisited q.order u turn q.rep (at row i ∷ []) near near' seen seen' → IsScanned q turn rim u row (i + 1) near' touched seen'
  beside_step near near' touched seen seen' parted pattern here left joined s v = record {
    tracked = v.tracked;
    sound = λ x h. elim (v.from x h) [
      | inl o ↦ s.sound x o
      | inr e ↦ (
          let is = has_one (at row i) x e.0 in
          subst (λ z. IsTrue (q.left u z)) is (parted.joins u (at row i) here left (λ z. e.1 (sym is ∙ sym z)) (inl joined))
          )
    ];
    beside = λ j lt l own. elim (cases_eq j i) [
      | inl e ↦ v.new (at row j) (subst (λ z. IsTrue (has (at row i ∷ []) (at row z))) (sym e) (has_own (at row i)))
          (λ z. pattern.irreflexive u (subst (λ y. IsTrue (q.joined u y)) (ap (at row) (sym e) ∙ z) joined)) own
      | inr ne ↦ v.old (at row j) (s.beside j (omega arith) l own)
    ];
    through = λ p x t r ne own. v.old x (s.through p x t r ne own);
    marks = λ p g m. s.marks p g (sym (v.others p g) ∙ m);
    from = s.from;
    to = λ j lt g. elim (cases_eq j i) [
      | inl e ↦ absurd (let k = ap (λ z. turn (at row z)) e in omega arith)
      | inr ne ↦ s.to j (omega arith) g
    ];
  }

  module _ (part : ℕ) (near touched : List ℕ) (seen : List Bool) (can : CanEnter q turn rim u row i part)
      (s : IsScanned q turn rim u row i near touched seen) where
    part_gone : 0 < turn part
    part_gone = subst (λ z. 0 < turn z) (sym can.is) (can.parted.part_gone (at row i) can.gone)

    not_left : (x : ℕ) → turn x ≡ 0 → x ≢ part
    not_left x l e = let k = ap turn e in let g = part_gone in absurd (omega arith)

    one_more : (touched' : List ℕ) → ((p : ℕ) → IsTrue (has touched p) → IsTrue (has touched' p)) → IsTrue (has touched' part)
        → (j : ℕ) → j < i + 1 → 0 < turn (at row j) → IsTrue (has touched' (q.part (at row j)))
    one_more touched' more it j lt g = elim (cases_eq j i) [
      | inl e ↦ subst (λ z. IsTrue (has touched' z)) (can.is ∙ ap (λ z. q.part (at row z)) (sym e)) it
      | inr ne ↦ more (q.part (at row j)) (s.to j (omega arith) g)
    ]

    beside_still : (near' : List ℕ) → ((x : ℕ) → IsTrue (has near x) → IsTrue (has near' x)) → (j : ℕ) → j < i + 1 → turn (at row j) ≡ 0
        → q.rep (at row j) ≡ at row j → IsTrue (has near' (at row j))
    beside_still near' more j lt l own = elim (cases_eq j i) [
      | inl e ↦ absurd (let k = ap (λ z. turn (at row z)) e in let g = can.gone in omega arith)
      | inr ne ↦ more (at row j) (s.beside j (omega arith) l own)
    ]

    -- a part that was met before
    pub again_step : mark_at seen part ≡ true → IsScanned q turn rim u row (i + 1) near touched seen
    again_step m = record {
      tracked = s.tracked;
      sound = s.sound;
      beside = beside_still near (λ x h. h);
      through = s.through;
      marks = s.marks;
      from = s.from;
      to = one_more touched (λ p h. h) (s.marks part part_gone m);
    }

    -- the rim of the part has vertices that are left
    pub rim_list : AreLeft q.order turn (rim part)
    rim_list x h =
        let h' = can.listed (at row i) x can.gone (subst (λ z. IsTrue (has (rim z) x)) can.is h) in
        let f = can.parted.rim_from (at row i) x can.gone h' in
        (can.within f.0 x f.3, can.parted.rim_left (at row i) x can.gone h')

    -- a part that is new: it is marked ..
    pub mark_part : part < length seen → IsTracked q.order u turn q.rep near (set seen part true)
    mark_part lt =
        let t = s.tracked in
        let other : (x : ℕ) → turn x ≡ 0 → mark_at (set seen part true) x ≡ mark_at seen x = λ x l. mark_other seen part x true
        (not_left x l) in
        record {
          vertices = t.vertices;
          once = t.once;
          left = t.left;
          marked = λ x h. other x (t.left x h).0 ∙ t.marked x h;
          stands = t.stands;
          hidden = λ x ne. elim (cases_eq x part) [
            | inl e ↦ subst (λ z. IsTrue (mark_at (set seen part true) z)) (sym e) (mark_here seen part true lt)
            | inr nep ↦ mark_other seen part x true nep ∙ t.hidden x ne
          ];
          marks = λ x l m. t.marks x l (sym (other x l) ∙ m);
          own = other u can.here ∙ t.own;
        }

    -- .. and its rim is visited
    pub enter_step : (near' : List ℕ) (seen' : List Bool) → part < length seen
        → IsVisited q.order u turn q.rep (rim part) near near' (set seen part true) seen'
        → IsScanned q turn rim u row (i + 1) near' (touched ++ part ∷ []) seen'
    enter_step near' seen' lt v = record {
      tracked = v.tracked;
      sound = λ x h. elim (v.from x h) [
        | inl o ↦ s.sound x o
        | inr e ↦ can.parted.joins u x can.here (rim_list x e.0).1 (λ z. e.1 (sym z))
            (inr (at row i, can.gone, can.joined, can.listed (at row i) x can.gone (subst (λ z. IsTrue (has (rim z) x)) can.is e.0)))
      ];
      beside = beside_still near' v.old;
      through = λ p x t r ne own. elim (has_cases touched (part ∷ []) p t) [
        | inl o ↦ v.old x (s.through p x o r ne own)
        | inr e ↦ v.new x (subst (λ z. IsTrue (has (rim z) x)) (sym (has_one part p e)) r) ne own
      ];
      marks = λ p g m. elim (cases_eq p part) [
        | inl e ↦ subst (λ z. IsTrue (has (touched ++ part ∷ []) z)) (sym e) (has_right touched (part ∷ []) part (has_own part))
        | inr ne ↦ has_left touched (part ∷ []) p (s.marks p g (sym (mark_other seen part p true ne) ∙ sym (v.others p g) ∙ m))
      ];
      from = λ p t. elim (has_cases touched (part ∷ []) p t) [
        | inl o ↦ s.from p o
        | inr e ↦ (at row i, can.gone, can.joined, sym can.is ∙ has_one part p e)
      ];
      to = one_more (touched ++ part ∷ []) (λ p h. has_left touched (part ∷ []) p h) (has_right touched (part ∷ []) part (has_own part));
    }
