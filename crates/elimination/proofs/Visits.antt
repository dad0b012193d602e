-- Visiting one vertex, and one list after another.
use Rattle.std.proofs.Common.{◌≡◌, ◌≢◌, ℕ, ◌+◌, ◌<◌, inl, inr, Bool, true, false, not, List, [], ◌∷◌}
use Rattle.std.proofs.Common.{◌++◌, length, take, refl, sym, ap, ◌∙◌, arith, subst, IsTrue, set}
use Rattle.std.specs.Int.{from_bool}
use Rattle.std.proofs.lemmas.Bool.{cases_eq, cases_Bool, both_ways}
use Rattle.std.proofs.lemmas.List.{take-set, set-get_or, take_more_set}
use Rattle.elimination.proofs.VertexLists.{part-push}
use Rattle.patterns.specs.Pattern.{has}
use Rattle.elimination.specs.Hoods.{IsTracked, IsVisited, AreLeft, mark_at}
use Rattle.elimination.proofs.ListFacts.{has_one, has_own, has_left, has_right, has_cases, times_unless, mark_other, mark_here}

module _ (n u : ℕ) (turn rep : ℕ → ℕ) where
  pub visit_none : (near : List ℕ) (seen : List Bool) → IsTracked n u turn rep near seen → IsVisited n u turn rep [] near near seen seen
  visit_none near seen t = record {
    tracked = t;
    from = λ x h. inl h;
    old = λ x h. h;
    new = λ x h ne own. absurd (both_ways _ refl h);
    others = λ x g. refl;
  }

  pub visit_marked : (b : ℕ) (near : List ℕ) (seen : List Bool) → IsTracked n u turn rep near seen → AreLeft n turn (b ∷ [])
      → mark_at seen b ≡ true
      → IsVisited n u turn rep (b ∷ []) near near seen seen
  visit_marked b near seen t left marked = record {
    tracked = t;
    from = λ x h. inl h;
    old = λ x h. h;
    new = λ x h ne own.
        let e = has_one b x h in
        elim (t.marks b (left b (has_own b)).1 marked) [
          | inl i ↦ elim i [ inl s ↦ absurd (ne (sym e ∙ s)) | inr s ↦ subst (λ z. IsTrue (has near z)) e s ]
          | inr o ↦ absurd (o (subst (λ z. rep z ≡ z) (sym e) own))
        ];
    others = λ x g. refl;
  }

  module _ (b : ℕ) (near : List ℕ) (seen : List Bool) (t : IsTracked n u turn rep near seen) (left : AreLeft n turn (b ∷ []))
      (unmarked : mark_at seen b ≡ false) (lt : b < length seen) where
    not_u : b ≢ u
    not_u e = both_ways _ unmarked (subst (λ z. IsTrue (mark_at seen z)) (sym e) t.own)

    fresh : has near b ≡ false
    fresh = elim (cases_Bool (has near b)) [ inl h ↦ absurd (both_ways _ unmarked (t.marked b h)) | inr f ↦ f ]

    own_rep : rep b ≡ b
    own_rep = elim (cases_eq (rep b) b) [ inl e ↦ e | inr ne ↦ absurd (both_ways _ unmarked (t.hidden b ne)) ]

    -- what was marked is marked
    stays : (x : ℕ) → IsTrue (mark_at seen x) → IsTrue (mark_at (set seen b true) x)
    stays x h = elim (cases_eq x b) [
      | inl e ↦ subst (λ z. IsTrue (mark_at (set seen b true) z)) (sym e) (mark_here seen b true lt)
      | inr ne ↦ mark_other seen b x true ne ∙ h
    ]

    new_tracked : IsTracked n u turn rep (near ++ b ∷ []) (set seen b true)
    new_tracked =
        let here = left b (has_own b) in
        let part = part-push n near b (record { vertices = t.vertices; once = t.once }) here.0 (times_unless near b fresh) in
        record {
          vertices = part.vertices;
          once = part.once;
          left = λ x h. elim (has_cases near (b ∷ []) x h) [
            | inl o ↦ t.left x o
            | inr e ↦ subst (λ z. (turn z ≡ 0) × (z ≢ u)) (has_one b x e) (here.1, not_u)
          ];
          stands = λ x h. elim (has_cases near (b ∷ []) x h) [
            | inl o ↦ t.stands x o
            | inr e ↦ subst (λ z. rep z ≡ z) (has_one b x e) own_rep
          ];
          hidden = λ x ne. stays x (t.hidden x ne);
          marked = λ x h. elim (has_cases near (b ∷ []) x h) [
            | inl o ↦ stays x (t.marked x o)
            | inr e ↦ subst (λ z. IsTrue (mark_at (set seen b true) z)) (has_one b x e) (mark_here seen b true lt)
          ];
          marks = λ x l h. elim (cases_eq x b) [
            | inl e ↦ inl (inr (subst (λ z. IsTrue (has (near ++ b ∷ []) z)) (sym e) (has_right near (b ∷ []) b (has_own b))))
            | inr ne ↦ elim (t.marks x l (sym (mark_other seen b x true ne) ∙ h)) [
              | inl i ↦ elim i [ inl s ↦ inl (inl s) | inr o ↦ inl (inr (has_left near (b ∷ []) x o)) ]
              | inr o ↦ inr o
            ]
          ];
          own = stays u t.own;
        }

    pub visit_new : IsVisited n u turn rep (b ∷ []) near (near ++ b ∷ []) seen (set seen b true)
    visit_new = record {
      tracked = new_tracked;
      from = λ x h. elim (has_cases near (b ∷ []) x h) [
        | inl o ↦ inl o
        | inr e ↦ inr (e, λ s. not_u (has_one b x e ∙ s))
      ];
      old = λ x h. has_left near (b ∷ []) x h;
      new = λ x h ne own. has_right near (b ∷ []) x h;
      others = λ x g. elim (cases_eq x b) [
        | inl e ↦ absurd (let z = (left b (has_own b)).1 in let k = ap turn e in omega arith)
        | inr ne ↦ mark_other seen b x true ne
      ];
    }

  -- one more is written after those that are listed, and counts if it was not marked
  pub visit_written : (b count more : ℕ) (near : List ℕ) (seen : List Bool) → IsTracked n u turn rep (take count near) seen
      → AreLeft n turn (b ∷ []) → b < length seen → count < length near → more ≡ from_bool (not (mark_at seen b))
      → IsVisited n u turn rep (b ∷ []) (take count near) (take (count + more) (set near count b)) seen (set seen b true)
  visit_written b count more near seen t left lt room is =
      elim (cases_Bool (mark_at seen b)) [
        | inl marked ↦ (
            let none : more ≡ 0 = is ∙ ap (λ m. from_bool (not m)) marked in
            let still : count + more ≡ count = omega arith in
            let listed : take (count + more) (set near count b) ≡ take count near = ap (λ z. take z (set near count b)) still
            ∙ take-set near count b in
            let marks : set seen b true ≡ seen = ap (λ m. set seen b m) (sym marked) ∙ set-get_or seen b false in
            subst (λ z. IsVisited n u turn rep (b ∷ []) (take count near) z seen (set seen b true)) (sym listed)
            (subst (λ z. IsVisited n u turn rep (b ∷ []) (take count near) (take count near) seen z) (sym marks)
            (visit_marked b (take count near) seen t left marked))
            )
        | inr unmarked ↦ (
            let one : more ≡ 1 = is ∙ ap (λ m. from_bool (not m)) unmarked in
            let next : count + more ≡ count + 1 = omega arith in
            let listed : take (count + more) (set near count b) ≡ take count near ++ b ∷ [] = ap (λ z. take z (set near count b)) next
            ∙ take_more_set near count b room in
            subst (λ z. IsVisited n u turn rep (b ∷ []) (take count near) z seen (set seen b true)) (sym listed)
            (visit_new b (take count near) seen t left unmarked lt)
            )
      ]

  -- one list after another
  pub visit_more : (xs ys near near' near'' : List ℕ) (seen seen' seen'' : List Bool) → IsVisited n u turn rep xs near near' seen seen'
      → IsVisited n u turn rep ys near' near'' seen' seen'' → IsVisited n u turn rep (xs ++ ys) near near'' seen seen''
  visit_more xs ys near near' near'' seen seen' seen'' v w = record {
    tracked = w.tracked;
    from = λ x h. elim (w.from x h) [
      | inl o ↦ elim (v.from x o) [ inl p ↦ inl p | inr p ↦ inr (has_left xs ys x p.0, p.1) ]
      | inr o ↦ inr (has_right xs ys x o.0, o.1)
    ];
    old = λ x h. w.old x (v.old x h);
    new = λ x h ne own. elim (has_cases xs ys x h) [ inl p ↦ w.old x (v.new x p ne own) | inr p ↦ w.new x p ne own ];
    others = λ x g. w.others x g ∙ v.others x g;
  }
