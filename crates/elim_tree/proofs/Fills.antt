-- What an elimination does to the pairs of a pattern, and where the pairs that stand as a column is eliminated come from.
use Rattle.std.proofs.Common.{sym, ◌-◌, add-zero, add-suc, ◌+◌, ◌≡◌, ◌≢◌, ◌⊎◌, inl, inr, ℕ, zero, suc, ◌<◌, ◌≤◌, Bool, true, arith}
use Rattle.ordering.specs.Fill.{graph_at, IsAdjacency}
use Rattle.elim_tree.specs.Reaches.{Reaches}
use Rattle.ordering.proofs.FillLemmas.{to_suc_new, to_suc_old, at_suc, later}

-- ---- one elimination

-- ---- the graph at each moment

pub at_zero : (joined : ℕ → ℕ → Bool) (a b : ℕ) → graph_at joined zero a b ≡ true → joined a b ≡ true
unfolding graph_at
at_zero joined a b h = h

pub to_zero : (joined : ℕ → ℕ → Bool) (a b : ℕ) → joined a b ≡ true → graph_at joined zero a b ≡ true
unfolding graph_at
to_zero joined a b h = h

-- edges join vertices that are not eliminated yet

-- an edge between two vertices stays while neither is eliminated
pub stays : (joined : ℕ → ℕ → Bool) (k m a b : ℕ) → graph_at joined k a b ≡ true
    → k + m ≤ a → k + m ≤ b → graph_at joined (k + m) a b ≡ true
stays joined k zero a b h ha hb = rw add-zero h
stays joined k (suc m) a b h ha hb =
    let ih = stays joined k m a b h (omega arith) (omega arith) in
    rw add-suc (to_suc_old joined (k + m) a b (omega arith) (omega arith) ih)

-- whoever is reached is among the vertices that are joined to some
pub within : (joined : ℕ → ℕ → Bool) (n : ℕ) → ((a b : ℕ) → joined a b ≡ true → b < n) → (k a b : ℕ) → graph_at joined k a b ≡ true → b < n
within joined n h zero a b e = h a b (at_zero joined a b e)
within joined n h (suc j) a b e =
    elim (at_suc joined j a b e).from [ inl f ↦ within joined n h j a b f | inr f ↦ within joined n h j j b f.2 ]

-- a pattern stays symmetric and irreflexive
module _ (joined : ℕ → ℕ → Bool) (pattern : IsAdjacency joined) where
  pub different : (k a b : ℕ) → graph_at joined k a b ≡ true → a ≢ b
  different zero a b h = λ e. pattern.irreflexive a (let x = at_zero joined a b h in rw (← e) at x)
  different (suc j) a b h =
      elim (at_suc joined j a b h).from [ inl e ↦ different j a b e | inr f ↦ f.0 ]

  pub symmetric_at : (k a b : ℕ) → graph_at joined k a b ≡ true → graph_at joined k b a ≡ true
  symmetric_at zero a b h = to_zero joined b a (pattern.symmetric a b (at_zero joined a b h))
  symmetric_at (suc j) a b h =
      let q = at_suc joined j a b h in
      elim q.from [
        | inl e ↦ to_suc_old joined j b a q.right q.left (symmetric_at j a b e)
        | inr f ↦ to_suc_new joined j b a q.right q.left (λ e. f.0 (sym e)) f.2 f.1
      ]

  -- the later neighbours of j are joined to each other
  pub clique : (j a b : ℕ) → Reaches joined j a → Reaches joined j b → a < b → Reaches joined a b
  clique j a b ha hb lt =
      let la = later joined j j a ha in
      let lb = later joined j j b hb in
      let na = different j j a ha in
      let nb = different j j b hb in
      let start = to_suc_new joined j a b (λ e. na (sym e)) (λ e. nb (sym e)) (omega arith) ha hb in
      let d : suc j + (a - suc j) ≡ a = omega arith in
      let far = stays joined (suc j) (a - suc j) a b start (omega arith) (omega arith) in
      rw d at far

  -- an edge of the pattern stands when its lower end is eliminated
  pub from_pattern : (j i : ℕ) → joined j i ≡ true → j < i → Reaches joined j i
  from_pattern j i h lt =
      let far = stays joined zero j j i (to_zero joined j i h) (omega arith) (omega arith) in
      let d : zero + j ≡ j = omega arith in
      rw d at far

  -- where an edge comes from
  pub origin : (k a b : ℕ) → graph_at joined k a b ≡ true
      → (joined a b ≡ true) ⊎ ((m : ℕ) × (m < k) × Reaches joined m a × Reaches joined m b)
  origin zero a b h = inl (at_zero joined a b h)
  origin (suc j) a b h =
      elim (at_suc joined j a b h).from [
        | inl e ↦ elim (origin j a b e) [ inl x ↦ inl x | inr y ↦ inr (y.0, omega arith, y.2, y.3) ]
        | inr f ↦ inr (j, omega arith, f.1, f.2)
      ]
