-- Paths whose inner vertices were eliminated, and the pairs that they leave.
use Rattle.std.proofs.Common.{subst, sym, ◌≡◌, ◌≢◌, ◌⊎◌, ◌↔◌, inl, inr, ℕ, zero, suc, ◌<◌, ◌≤◌, Bool, true, arith}
use Rattle.std.proofs.lemmas.Bool.{cases_eq}
use Rattle.ordering.specs.Fill.{graph_at, IsAdjacency}
use Rattle.elim_tree.specs.Paths.{Path, edge, via}
use Rattle.elim_tree.specs.Reaches.{Reaches}
use Rattle.elim_tree.proofs.Fills.{at_zero, to_zero}
use Rattle.ordering.proofs.FillLemmas.{at_suc}
use Rattle.ordering.proofs.FillLemmas.{to_suc_old}
use Rattle.ordering.proofs.FillLemmas.{to_suc_new}

pub weaken : {joined : ℕ → ℕ → Bool} {k a b : ℕ} → Path joined k a b → Path joined (suc k) a b
weaken (edge h) = edge h
weaken (via h lt p) = via h (omega arith) (weaken p)

pub join : {joined : ℕ → ℕ → Bool} {k a c b : ℕ} → Path joined k a c → c < k → Path joined k c b → Path joined k a b
join (edge h) lt q = via h lt q
join (via h lt' p) lt q = via h lt' (join p lt q)

-- a path with inner vertices up to k avoids k, or leads to k and on from k
pub split : {joined : ℕ → ℕ → Bool} {k a b : ℕ} → Path joined (suc k) a b → Path joined k a b ⊎ (Path joined k a k × Path joined k k b)
split (edge h) = inl (edge h)
split {joined} {k} {a} {b} (via {c = c} h lt p) =
    elim (cases_eq c k) [
      | inl e ↦ inr (
        subst (λ x. Path joined k a x) e (edge h),
        elim (split p) [ inl q ↦ subst (λ x. Path joined k x b) e q | inr q ↦ q.1 ],
      )
      | inr ne ↦ let lt' : c < k = omega arith in
          elim (split p) [ inl q ↦ inl (via h lt' q) | inr q ↦ inr (via h lt' q.0, q.1) ]
    ]

module _ (joined : ℕ → ℕ → Bool) (pattern : IsAdjacency joined) where
  pub back : {k a b : ℕ} → Path joined k a b → Path joined k b a
  back {k} {a} {b} (edge h) = edge (pattern.symmetric a b h)
  back {k} {a} {b} (via {c = c} h lt p) = join (back p) lt (edge (pattern.symmetric a c h))

  pub path_of : (k a b : ℕ) → graph_at joined k a b ≡ true → Path joined k a b
  path_of zero a b h = edge (at_zero joined a b h)
  path_of (suc j) a b h =
      elim (at_suc joined j a b h).from [
        | inl e ↦ weaken (path_of j a b e)
        | inr f ↦ join (weaken (back (path_of j j a f.1))) (omega arith) (weaken (path_of j j b f.2))
      ]

  pub edge_of : (k a b : ℕ) → Path joined k a b → k ≤ a → k ≤ b → a ≢ b → graph_at joined k a b ≡ true
  edge_of zero a b (edge h) ha hb ne = to_zero joined a b h
  edge_of zero a b (via h lt p) ha hb ne = absurd (omega arith)
  edge_of (suc j) a b p ha hb ne =
      let na : a ≢ j = omega arith in
      let nb : b ≢ j = omega arith in
      elim (split p) [
        | inl q ↦ to_suc_old joined j a b na nb (edge_of j a b q (omega arith) (omega arith) ne)
        | inr q ↦ to_suc_new joined j a b na nb ne
            (edge_of j j a (back q.0) (omega arith) (omega arith) (λ e. na (sym e)))
            (edge_of j j b q.1 (omega arith) (omega arith) (λ e. nb (sym e)))
      ]

  pub reaches_by_path : (j i : ℕ) → j < i → Reaches joined j i ↔ Path joined j i j
  reaches_by_path j i lt = (λ h. back (path_of j j i h), λ p. edge_of j j i (back p) (omega arith) (omega arith) (omega arith))
