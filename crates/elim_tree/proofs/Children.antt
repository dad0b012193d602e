-- What a column reaches, by its children in the elimination tree.
use Rattle.std.proofs.Common.{sym, subst, ◌+◌, ◌≡◌, ◌≢◌, ◌⊎◌, ◌↔◌, inl, inr, ℕ, zero, suc, ◌<◌, ◌≤◌, Bool, true, false, IsTrue, arith}
use Rattle.std.proofs.lemmas.Bool.{cases_eq, cases_Bool, cases_order, both_ways}
use Rattle.ordering.specs.Fill.{graph_at, IsAdjacency}
use Rattle.elim_tree.specs.Reaches.{Reaches, IsFirstReached}
use Rattle.elim_tree.proofs.Fills.{different, clique, from_pattern, origin}
use Rattle.ordering.proofs.FillLemmas.{later}

-- the least number below n that passes a test, or none does
pub least_below : (p : ℕ → Bool) (n : ℕ)
    → ((m : ℕ) × (m < n) × (p m ≡ true) × ((k : ℕ) → k < m → p k ≡ false)) ⊎ ((k : ℕ) → k < n → p k ≡ false)
least_below p zero = inr (λ k lt. absurd (omega arith))
least_below p (suc n) =
    elim (least_below p n) [
      | inl f ↦ inl (f.0, omega arith, f.2, f.3)
      | inr none ↦ elim (cases_Bool (p n)) [
        | inl t ↦ inl (n, omega arith, t, none)
        | inr f ↦ inr (λ k lt. elim (cases_eq k n) [ inl e ↦ subst (λ x. p x ≡ false) (sym e) f | inr ne ↦ none k (omega arith) ])
      ]
    ]

-- a child of j reaches i, which is not j
abbrev pub FromChild : (ℕ → ℕ → Bool) → ℕ → ℕ → Type 0
FromChild joined j i = (c : ℕ) × IsFirstReached joined c j × (0 < j) × Reaches joined c i × (i ≢ j)

module _ (joined : ℕ → ℕ → Bool) (pattern : IsAdjacency joined) where
  pub reaches_later : (j i : ℕ) → Reaches joined j i → j < i
  reaches_later j i h =
      let le = later joined j j i h in
      let ne = different joined pattern j j i h in
      omega arith

  -- a column that reaches something reaches a first, at most that
  pub first_of : (j i : ℕ) → Reaches joined j i → (p : ℕ) × IsFirstReached joined j p × (0 < p) × (p ≤ i)
  first_of j i h =
      elim (least_below (λ k. graph_at joined j j k) (suc i)) [
        | inl f ↦
            let lt = reaches_later j f.0 f.2 in
            let pos : 0 < f.0 = omega arith in (
              f.0,
              record {
                reached = λ _. f.2;
                least = λ m hm. (
                  pos,
                  elim (cases_order f.0 m) [
                    | inl e ↦ omega arith
                    | inr o ↦ elim o [ inl l ↦ omega arith | inr l ↦ absurd (both_ways _ (f.3 m l) hm) ]
                  ],
                );
              },
              pos,
              omega arith,
            )
        | inr none ↦ absurd (both_ways _ (none i (omega arith)) h)
      ]

  -- what a column reaches besides the first, the first reaches
  pub first_reaches : (c p i : ℕ) → IsFirstReached joined c p → Reaches joined c i → i ≢ p → Reaches joined p i
  first_reaches c p i par h ne =
      let l = par.least i h in
      clique joined pattern c p i (par.reached l.0) h (omega arith)

  -- from a column m below j that reaches j and i, go up to a child of j that reaches i
  rise : (n m j i : ℕ) → j ≤ m + n → Reaches joined m j → Reaches joined m i → j < i → FromChild joined j i
  rise zero m j i le hj hi ne = let lt = reaches_later m j hj in absurd (omega arith)
  rise (suc n) m j i le hj hi ne =
      let p = first_of m j hj in
      let lt = reaches_later m p.0 (p.1.reached p.2) in
      elim (cases_eq p.0 j) [
        | inl e ↦ (m, subst (λ x. IsFirstReached joined m x) e p.1, omega arith, hi, omega arith)
        | inr np ↦
            let below = p.1.least i hi in
            let pj = first_reaches m p.0 j p.1 hj (λ e. np (sym e)) in
            let jp = reaches_later p.0 j pj in
            elim (cases_eq i p.0) [
              | inl e ↦ absurd (omega arith)
              | inr nip ↦ rise n p.0 j i (omega arith) pj (first_reaches m p.0 i p.1 hi nip) ne
            ]
      ]

  -- column j reaches its later neighbours, and what its children reach besides it
  pub reaches_by_children : (j i : ℕ) → Reaches joined j i ↔ ((IsTrue (joined j i) × (j < i)) ⊎ FromChild joined j i)
  reaches_by_children j i = (
    λ h. let lt = reaches_later j i h in
        elim (origin joined pattern j j i h) [
          | inl e ↦ inl (e, lt)
          | inr f ↦ inr (rise j f.0 j i (omega arith) f.2 f.3 lt)
        ],
    λ s. elim s [
      | inl e ↦ from_pattern joined pattern j i e.0 e.1
      | inr f ↦ first_reaches f.0 j i f.1 f.3 f.4
    ],
  )
