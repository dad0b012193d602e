-- Postorders: of two columns one comes before the other, so that there is one postorder only, and subtrees stand together in it.
use Rattle.std.proofs.Common.{sym, ◌∙◌, subst, ◌+◌, ◌≡◌, ◌≢◌, ◌⊎◌, inl, inr, ℕ, zero, suc, ◌<◌, ◌≤◌, List, length, arith, refl}
use Rattle.std.proofs.lemmas.Bool.{cases_eq, cases_order}
use Rattle.permutations.specs.Perm.{IsVertex}
use Rattle.elim_tree.specs.Trees.{parent_at, IsForest, IsAbove, self, step}
use Rattle.elim_tree.specs.Postorders.{Precedes, below, beside}

pub above_trans : {parents : List ℕ} {a b c : ℕ} → IsAbove parents a b → IsAbove parents b c → IsAbove parents a c
above_trans self q = q
above_trans (step some p) q = step some (above_trans p q)

-- the child of x on the way up from y
pub child_on : {parents : List ℕ} {y x : ℕ} → IsAbove parents y x → y ≢ x
    → 0 < y → (c : ℕ) × IsAbove parents y c × (parent_at parents c ≡ x) × (0 < c)
child_on self ne pos = absurd (ne refl)
child_on {parents} {y} {x} (step some q) ne pos =
    elim (cases_eq (parent_at parents y) x) [
      | inl e ↦ (y, self, e, pos)
      | inr np ↦ let r = child_on q np some in (r.0, step some r.1, r.2, r.3)
    ]

module _ (parents : List ℕ) (forest : IsForest parents) where
  -- whoever is above a column is a column, and not less
  pub above_within : {a x : ℕ} → IsAbove parents a x → a ≤ length parents → (a ≤ x) × (x ≤ length parents)
  above_within self le = (omega arith, le)
  above_within {a} (step some q) le = let f = forest.rising a some in let r = above_within q f.1 in (omega arith, r.1)

  -- the root above a column
  root_of : (m a : ℕ) → length parents < a + m → 0 < a → a ≤ length parents
      → (r : ℕ) × IsAbove parents a r × (parent_at parents r ≡ 0) × (0 < r)
  root_of zero a lt pos le = absurd (omega arith)
  root_of (suc m) a lt pos le =
      elim (cases_eq (parent_at parents a) 0) [
        | inl e ↦ (a, self, e, pos)
        | inr ne ↦ let f = forest.rising a (omega arith) in
            let r = root_of m (parent_at parents a) (omega arith) (omega arith) f.1 in
            (r.0, step (omega arith) r.1, r.2, r.3)
      ]

  first : (a b : ℕ) → Precedes parents (parent_at parents a) b → 0 < parent_at parents a → a < b → Precedes parents a b
  first a b (below q ne) up lt = below (step up q) (omega arith)
  first a b (beside p q l e) up lt = beside (step up p) q l e

  after : (a p b : ℕ) → Precedes parents b p → p ≡ parent_at parents a → 0 < parent_at parents a
      → a < b → b ≤ length parents → parent_at parents a ≢ b → Precedes parents a b ⊎ Precedes parents b a
  after a p b (below q ne) e up lt bn nb =
      let c = child_on q ne (omega arith) in
      elim (cases_order a c.0) [
        | inl z ↦ let le = (above_within (subst (λ v. IsAbove parents b v) (sym z) c.1) bn).0 in absurd (omega arith)
        | inr o ↦ elim o [
          | inl l ↦ inl (beside self c.1 l (sym e ∙ sym c.2))
          | inr l ↦ inr (beside c.1 self l (c.2 ∙ e))
        ]
      ]
  after a p b (beside {d = d} q r l z) e up lt bn nb = inr (beside q (step up (subst (λ v. IsAbove parents v d) e r)) l z)

  -- from the parent of the lower of two columns to that column
  rise : (a b : ℕ) → 0 < a → a < b → b ≤ length parents
      → ((p : ℕ) → a < p → p ≤ length parents → p ≢ b → Precedes parents p b ⊎ Precedes parents b p)
      → Precedes parents a b ⊎ Precedes parents b a
  rise a b pos lt bn next =
      elim (cases_eq (parent_at parents a) 0) [
        | inl e ↦
            let r = root_of (suc (length parents)) b (omega arith) (omega arith) bn in
            let le = (above_within r.1 bn).0 in
            inl (beside self r.1 (omega arith) (e ∙ sym r.2))
        | inr np ↦
            let up : 0 < parent_at parents a = omega arith in
            let f = forest.rising a up in
            elim (cases_eq (parent_at parents a) b) [
              | inl e ↦ inl (below (step up (subst (λ v. IsAbove parents (parent_at parents a) v) e self)) (omega arith))
              | inr nb ↦ elim (next (parent_at parents a) f.0 f.1 nb) [
                | inl x ↦ inl (first a b x up lt)
                | inr x ↦ after a (parent_at parents a) b x refl up lt bn nb
              ]
            ]
      ]

  -- of two columns one comes before the other
  in_turn : (m a b : ℕ) → length parents + length parents < a + b + m → 0 < a → a ≤ length parents
      → 0 < b → b ≤ length parents → a ≢ b → Precedes parents a b ⊎ Precedes parents b a
  in_turn zero a b lt pa an pb bn ne = absurd (omega arith)
  in_turn (suc m) a b lt pa an pb bn ne =
      elim (cases_order a b) [
        | inl e ↦ absurd (ne e)
        | inr o ↦ elim o [
          | inl l ↦ rise a b pa l bn (λ p ap pn pb'. in_turn m p b (omega arith) (omega arith) pn pb bn pb')
          | inr l ↦
              elim (rise b a pb l an
              (λ p bp pn pa'. in_turn m p a (omega arith) (omega arith) pn pa an pa')) [ inl x ↦ inr x | inr x ↦ inl x ]
        ]
      ]

  pub total : (a b : ℕ) → IsVertex (length parents) a → IsVertex (length parents) b → a ≢ b → Precedes parents a b ⊎ Precedes parents b a
  total a b va vb ne = let la = va.0 in
      let lb = vb.0 in
      in_turn (length parents + length parents) a b (omega arith) (omega arith) va.1 (omega arith) vb.1 ne

  module _ (place : ℕ → ℕ)
      (before : (a b : ℕ) → IsVertex (length parents) a → IsVertex (length parents) b → Precedes parents a b → place a < place b) where
    -- two columns with one place are one
    pub place_one : (a b : ℕ) → IsVertex (length parents) a → IsVertex (length parents) b → place a ≡ place b → a ≡ b
    place_one a b va vb e =
        elim (cases_eq a b) [
          | inl z ↦ z
          | inr ne ↦ elim (total a b va vb ne) [
            | inl x ↦ let w = before a b va vb x in absurd (omega arith)
            | inr x ↦ let w = before b a vb va x in absurd (omega arith)
          ]
        ]

    stands : (y z x : ℕ) → IsVertex (length parents) y → IsVertex (length parents) z
        → IsAbove parents y x → place y ≤ place z → Precedes parents z x → IsAbove parents z x
    stands y z x vy vz up lo (below q ne) = q
    stands y z x vy vz up lo (beside p q l e) = let k = before z y vz vy (beside p (above_trans up q) l e) in absurd (omega arith)

    -- whoever stands between a column and one above it is below that one too
    pub between : (y z x : ℕ) → IsVertex (length parents) y → IsVertex (length parents) z
        → IsAbove parents y x → place y ≤ place z → place z ≤ place x → IsAbove parents z x
    between y z x vy vz up lo hi =
        let within = above_within up vy.1 in
        let some = vy.0 in
        let vx : IsVertex (length parents) x = (omega arith, omega arith) in
        elim (cases_eq z x) [
          | inl e ↦ subst (λ v. IsAbove parents v x) (sym e) self
          | inr ne ↦ elim (total z x vz vx ne) [
            | inl w ↦ stands y z x vy vz up lo w
            | inr w ↦ let k = before x z vx vz w in absurd (omega arith)
          ]
        ]
