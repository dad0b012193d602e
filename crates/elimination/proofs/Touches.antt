-- A vertex comes into the rims of its parts.
use Rattle.std.proofs.Common.{◌≡◌, ◌≢◌, ℕ, ◌+◌, ◌<◌, inl, inr, ◌⊎◌, Bool, List, [], ◌∷◌, ◌++◌, length, sym, ap, ◌∙◌, arith, subst, IsTrue}
use Rattle.std.proofs.lemmas.Bool.{cases_eq}
use Rattle.patterns.specs.Pattern.{has}
use Rattle.patterns.proofs.NumberLists.{place_of}
use Rattle.patterns.proofs.NumberLists.{has_at}
use Rattle.elimination.specs.Quotients.{at}
use Rattle.elimination.specs.Twins.{IsTouched, AreTouched}
use Rattle.elimination.proofs.ListFacts.{has_one, has_own, has_left, has_right, has_cases}

pub touched_none : (turn part : ℕ → ℕ) (x : ℕ) (row : List ℕ) (rim : ℕ → List ℕ) → IsTouched turn part x row 0 rim rim
touched_none turn part x row rim = record { old = λ p y h. h; from = λ p y h. inl h; to = λ j lt. absurd (omega arith) }

module _ (turn part : ℕ → ℕ) (x : ℕ) (row : List ℕ) (n : ℕ) (rim rim' : ℕ → List ℕ) (t : IsTouched turn part x row n rim rim') where
  -- one that was not eliminated
  pub touched_skip : turn (at row n) ≡ 0 → IsTouched turn part x row (n + 1) rim rim'
  touched_skip l = record {
    old = t.old;
    from = λ p y h. elim (t.from p y h) [ inl o ↦ inl o | inr s ↦ inr (s.0, (s.1.0, (let lt = s.1.1 in omega arith), s.1.2, s.1.3)) ];
    to = λ j lt g. elim (cases_eq j n) [
      | inl e ↦ absurd (let k = ap (λ z. turn (at row z)) e in omega arith)
      | inr ne ↦ t.to j (omega arith) g
    ];
  }

  -- one that was
  pub touched_more : (rim'' : ℕ → List ℕ) → 0 < turn (at row n) → rim'' (part (at row n)) ≡ rim' (part (at row n)) ++ x ∷ []
      → ((y : ℕ) → y ≢ part (at row n) → rim'' y ≡ rim' y) → IsTouched turn part x row (n + 1) rim rim''
  touched_more rim'' g pushed others =
      let stays : (p y : ℕ) → IsTrue (has (rim' p) y) → IsTrue (has (rim'' p) y) = λ p y h. elim (cases_eq p (part (at row n))) [
        | inl e ↦ subst (λ z. IsTrue (has (rim'' z) y)) (sym e) (subst (λ z. IsTrue (has z y)) (sym pushed)
            (has_left (rim' (part (at row n))) (x ∷ []) y (subst (λ z. IsTrue (has (rim' z) y)) e h)))
        | inr ne ↦ subst (λ z. IsTrue (has z y)) (sym (others p ne)) h
      ] in
      record {
        old = λ p y h. stays p y (t.old p y h);
        from = λ p y h. elim (cases_eq p (part (at row n))) [
          | inl e ↦ elim (has_cases (rim' (part (at row n))) (x ∷ []) y
              (subst (λ z. IsTrue (has z y)) pushed (subst (λ z. IsTrue (has (rim'' z) y)) e h))) [
                | inl o ↦ earlier p y (subst (λ z. IsTrue (has (rim' z) y)) (sym e) o)
                | inr s ↦ inr (sym (has_one x y s), (n, omega arith, g, sym e))
              ]
          | inr ne ↦ earlier p y (subst (λ z. IsTrue (has z y)) (others p ne) h)
        ];
        to = λ j lt gj. elim (cases_eq j n) [
          | inl e ↦ subst (λ z. IsTrue (has (rim'' (part (at row z))) x)) (sym e)
              (subst (λ z. IsTrue (has z x)) (sym pushed) (has_right (rim' (part (at row n))) (x ∷ []) x (has_own x)))
          | inr ne ↦ stays (part (at row j)) x (t.to j (omega arith) gj)
        ];
      }
    where
      earlier : (p y : ℕ) → IsTrue (has (rim' p) y) → IsTrue (has (rim p) y) ⊎
          ((y ≡ x) × ((j : ℕ) × (j < n + 1) × (0 < turn (at row j)) × (part (at row j) ≡ p)))
      earlier p y h = elim (t.from p y h) [ inl o ↦ inl o | inr s ↦ inr (s.0, (s.1.0, (let lt = s.1.1 in omega arith), s.1.2, s.1.3)) ]

-- ---- a list of them

pub all_touched_none : (joined : ℕ → ℕ → Bool) (turn part : ℕ → ℕ) (list : List ℕ) (rim : ℕ → List ℕ)
    → AreTouched joined turn part list 0 rim rim
all_touched_none joined turn part list rim = record { old = λ p y h. h; from = λ p y h. inl h; to = λ i d lt. absurd (omega arith) }

pub all_touched_more : (joined : ℕ → ℕ → Bool) (turn part : ℕ → ℕ) (list : List ℕ) (n : ℕ) (rim rim' rim'' : ℕ → List ℕ) (row : List ℕ)
    → AreTouched joined turn part list n rim rim' → n < length list → ((y : ℕ) → has row y ≡ joined (at list n) y)
    → IsTouched turn part (at list n) row (length row) rim' rim'' → AreTouched joined turn part list (n + 1) rim rim''
all_touched_more joined turn part list n rim rim' rim'' row a lt row_is t = record {
  old = λ p y h. t.old p y (a.old p y h);
  from = λ p y h. elim (t.from p y h) [
    | inl o ↦ a.from p y o
    | inr s ↦ inr (
      subst (λ z. IsTrue (has list z)) (sym s.0) (has_at list n lt),
      (
        at row s.1.0,
        s.1.2,
        subst (λ z. IsTrue (joined z (at row s.1.0))) (sym s.0)
            (sym (row_is (at row s.1.0)) ∙ has_at row s.1.0 s.1.1),
        s.1.3,
      ),
    )
  ];
  to = λ i d l g j. elim (cases_eq i n) [
    | inl e ↦ (
        let p = place_of row d (row_is d ∙ subst (λ z. IsTrue (joined (at list z) d)) e j) in
        let there = t.to p.0 p.1 (subst (λ z. 0 < turn z) (sym p.2) g) in
        subst (λ z. IsTrue (has (rim'' (part d)) (at list z))) (sym e) (subst (λ z. IsTrue (has (rim'' (part z)) (at list n))) p.2 there)
        )
    | inr ne ↦ t.old (part d) (at list i) (a.to i d (omega arith) g j)
  ];
}
