-- Two lists of the same children are rearrangements of each other.
use Rattle.std.proofs.Common.{sym, ◌∙◌, subst, ap, ◌≡◌, inl, inr, ℕ, refl, List, [], ◌∷◌, ◌++◌, map}
use Rattle.postorder_best.specs.BestPostorder.{Child}
use Rattle.postorder_best.specs.Postorder.{Member}
use Rattle.postorder_best.specs.Rows.{Once}
use Rattle.postorder_best.proofs.Forest.{Rearranged}
use Rattle.postorder_best.proofs.Places.{member_left, member_right, member_parts}

-- the list cut at a member
cut : (x : ℕ) (xs : List ℕ) → Member x xs → (before : List ℕ) × (after : List ℕ) × (xs ≡ before ++ (x ∷ after))
cut x [] m = absurd m
cut x (y ∷ ys) m = elim m [
  | inl e ↦ ([], ys, ap (λ v. v ∷ ys) (sym e))
  | inr r ↦ let c = cut x ys r in (y ∷ c.0, c.1, ap (λ v. y ∷ v) c.2)
]

without : (x : ℕ) (before after : List ℕ) → Once (before ++ (x ∷ after)) → Once (before ++ after) × (Member x (before ++ after) → ⊥)
without x [] after o = (o.1, o.0)
without x (y ∷ before) after o =
    let r = without x before after o.1 in (
      (
        λ m. o.0 (elim (member_parts y before after m) [
          | inl a ↦ member_left y before (x ∷ after) a
          | inr b ↦ member_right y before (x ∷ after) (inr b)
        ]),
        r.0,
      ),
      λ m. elim m [
        | inl e ↦ o.0 (subst (λ v. Member v (before ++ (x ∷ after))) e (member_right x before (x ∷ after) (inl refl)))
        | inr q ↦ r.1 q
      ],
    )

map_append : (f : ℕ → Child) (xs ys : List ℕ) → map f (xs ++ ys) ≡ map f xs ++ map f ys
map_append f [] ys = refl
map_append f (x ∷ xs) ys = ap (λ v. f x ∷ v) (map_append f xs ys)

-- two lists with the same members, each once
pub rearranged : (f : ℕ → Child) (cs ks : List ℕ) → Once cs → Once ks → ((x : ℕ) → Member x cs → Member x ks)
    → ((x : ℕ) → Member x ks → Member x cs) → Rearranged (map f cs) (map f ks)
rearranged f [] [] oc ok to from = refl
rearranged f [] (k ∷ ks) oc ok to from = absurd (from k (inl refl))
rearranged f (c ∷ cs) ks oc ok to from =
    let s = cut c ks (to c (inl refl)) in
    let ok' = subst Once s.2 ok in
    let w = without c s.0 s.1 ok' in
    let r = rearranged f cs (s.0 ++ s.1) oc.1 w.0
    (λ x m. elim (member_parts x s.0 (c ∷ s.1) (subst (λ v. Member x v) s.2 (to x (inr m)))) [
      | inl a ↦ member_left x s.0 s.1 a
      | inr b ↦ elim b [ inl e ↦ absurd (oc.0 (subst (λ v. Member v cs) e m)) | inr q ↦ member_right x s.0 s.1 q ]
    ])
    (λ x m.
    let up : Member x ks = subst (λ v. Member x v) (sym s.2)
    (elim (member_parts x s.0 s.1 m) [ inl a ↦ member_left x s.0 (c ∷ s.1) a | inr b ↦ member_right x s.0 (c ∷ s.1) (inr b) ]) in
    elim (from x up) [ inl e ↦ absurd (w.1 (subst (λ v. Member v (s.0 ++ s.1)) e m)) | inr q ↦ q ]) in
    (map f s.0, map f s.1, ap (map f) s.2 ∙ map_append f s.0 (c ∷ s.1), subst (λ v. Rearranged (map f cs) v) (map_append f s.0 s.1) r)
