-- One elimination, and one after another.
use Rattle.std.proofs.Common.{◌≡◌, ◌≢◌, ℕ, Bool, true, not, ◌==◌, ◌⊎◌, inl, inr, refl, sym, List, [], ◌∷◌, ◌++◌, false}
use Rattle.std.proofs.lemmas.Bool.{and_parts, or_cases, and_from, or_left, or_right, cases_Bool, both_ways}
use Rattle.elimination.specs.Elimination.{eliminate, IsAdjacency, eliminated}
use Rattle.lists.proofs.Bools.{not_from_ne, ne_from_not}

-- what a pair of the pattern after an elimination comes from
pub record Kept (joined : ℕ → ℕ → Bool) (v a b : ℕ) : Type 0 where
  pub left : a ≢ v
  pub right : b ≢ v
  pub from : (joined a b ≡ true) ⊎ ((a ≢ b) × (joined v a ≡ true) × (joined v b ≡ true))

pub kept : (joined : ℕ → ℕ → Bool) (v a b : ℕ) → eliminate joined v a b ≡ true → Kept joined v a b
unfolding eliminate
kept joined v a b h =
    let p = and_parts (not (a == v)) _ h in
    let q = and_parts (not (b == v)) _ p.1 in
    record {
      left = ne_from_not a v p.0;
      right = ne_from_not b v q.0;
      from = elim (or_cases (joined a b) _ q.1) [
        | inl e ↦ inl e
        | inr f ↦ inr (let r = and_parts (not (a == b)) _ f in let s = and_parts (joined v a) (joined v b) r.1 in
            (ne_from_not a b r.0, s.0, s.1))
      ];
    }

pub keep_old : (joined : ℕ → ℕ → Bool) (v a b : ℕ) → a ≢ v → b ≢ v → joined a b ≡ true → eliminate joined v a b ≡ true
unfolding eliminate
keep_old joined v a b ha hb h = and_from _ _ (not_from_ne a v ha) (and_from _ _ (not_from_ne b v hb) (or_left _ _ h))

pub keep_new : (joined : ℕ → ℕ → Bool) (v a b : ℕ) → a ≢ v → b ≢ v → a ≢ b → joined v a ≡ true → joined v b ≡ true
    → eliminate joined v a b ≡ true
unfolding eliminate
keep_new joined v a b ha hb hab hva hvb =
    and_from _ _ (not_from_ne a v ha) (and_from _ _ (not_from_ne b v hb)
    (or_right _ _ (and_from _ _ (not_from_ne a b hab) (and_from _ _ hva hvb))))

-- a pattern stays one
pub pattern_eliminate : (joined : ℕ → ℕ → Bool) (v : ℕ) → IsAdjacency joined → IsAdjacency (eliminate joined v)
pattern_eliminate joined v p = record {
  symmetric = λ a b t. let k = kept joined v a b t in elim k.from [
    | inl e ↦ keep_old joined v b a k.right k.left (p.symmetric a b e)
    | inr f ↦ keep_new joined v b a k.right k.left (λ e. f.0 (sym e)) f.2 f.1
  ];
  irreflexive = λ a t. elim (kept joined v a a t).from [ inl e ↦ p.irreflexive a e | inr f ↦ f.0 refl ];
  none_of_0 = λ b t. elim (kept joined v 0 b t).from [ inl e ↦ p.none_of_0 b e | inr f ↦ p.none_of_0 v (p.symmetric v 0 f.1) ];
}

-- one vertex more
pub eliminated_push : (joined : ℕ → ℕ → Bool) (vs : List ℕ) (v : ℕ) → eliminated joined (vs ++ v ∷ []) ≡ eliminate (eliminated joined vs) v
eliminated_push joined [] v = refl
eliminated_push joined (w ∷ vs) v = eliminated_push (eliminate joined w) vs v

-- who is no neighbour, either way
pub no_neighbour : (joined : ℕ → ℕ → Bool) → IsAdjacency joined → (a b : ℕ) → joined a b ≡ false → joined b a ≡ false
no_neighbour joined p a b none = elim (cases_Bool (joined b a)) [ inl t ↦ absurd (both_ways _ none (p.symmetric b a t)) | inr f ↦ f ]
