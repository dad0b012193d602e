-- Nodes whose parents have greater numbers lead to roots, and what takes no share has none too many.
use Rattle.std.proofs.Common.{◌≡◌, ℕ, zero, suc, ◌+◌, ◌-◌, ◌≤◌, ◌⊎◌, inl, inr, List, length, refl, subst, ◌∙◌, arith, All}
use Rattle.trees.specs.declared.node.Node.{Node}
use Rattle.trees.specs.Tree.{IsNode, IsNodeWithin, node_at, parent_of_node, ancestor, LeadsToRoot, NodeShareFits}
use Rattle.trees.specs.Plain.{IsPlainAt, IsPlain}
use Rattle.trees.proofs.AscentLemmas.{ancestor-one, ancestor-none, ancestor-zero}

module _ (nodes : List Node) (plain : IsPlain nodes) (each : All (IsNodeWithin nodes) nodes) where
  plain_at : (v : ℕ) → IsNode nodes v → IsPlainAt v (node_at nodes v)
  plain_at v node =
      let at : v - 1 + 1 ≡ v = omega (arith, node.0) in
      subst (λ (n : ℕ). IsPlainAt n (node_at nodes v))
      at (plain (v - 1) (record { parent = 0; out = 0; extra = 0; share = 0; time = 0 }) (omega (arith, node.0, node.1)))

  parent_is : (v : ℕ) → IsNode nodes v → parent_of_node nodes v ≡ (node_at nodes v).parent
  parent_is zero node = absurd (omega (arith, node.0))
  parent_is (suc i) node = refl

  -- the way up leads above a root, or comes to a number that is greater with each step
  climbs : (k v : ℕ) → IsNode nodes v → (ancestor nodes k v ≡ 0) ⊎ ((v + k ≤ ancestor nodes k v) × (ancestor nodes k v ≤ length nodes))
  climbs zero v node = inr (rw (ancestor-none nodes v) (omega arith, node.1))
  climbs (suc k) v node =
      let up = ancestor-one nodes k v in
      elim (plain_at v node).rises [
        | inl root ↦ inl (up ∙ rw (parent_is v node ∙ root) (ancestor-zero nodes k))
        | inr above ↦ (
            let parent = node_at nodes v in
            let within =
            (each (v - 1) (record { parent = 0; out = 0; extra = 0; share = 0; time = 0 }) (omega (arith, node.0, node.1))).parent in
            let is = parent_is v node in
            elim (climbs k (parent_of_node nodes v) (omega (arith, is, above), omega (arith, is, within))) [
              | inl ends ↦ inl (up ∙ ends)
              | inr far ↦ inr (omega (arith, up, far.0, is, above), omega (arith, up, far.1))
            ]
            )
      ]

  pub plain_roots : (v : ℕ) → IsNode nodes v → LeadsToRoot nodes v
  plain_roots v node = elim (climbs (length nodes) v node) [ inl ends ↦ ends | inr far ↦ absurd (omega (arith, node.0, far.0, far.1)) ]

  pub plain_shares : (v : ℕ) → IsNode nodes v → NodeShareFits nodes v
  plain_shares v node = let none = (plain_at v node).no_share in rw none (omega arith, omega arith)
