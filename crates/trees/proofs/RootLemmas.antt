-- A node from which some number of steps leads above a root leads there within as many steps as there are nodes: the nodes on the
-- shortest way up are distinct.
use Rattle.std.proofs.Common.{◌≡◌, ◌≢◌, ℕ, zero, suc, ◌+◌, ◌-◌, ◌<◌, ◌≤◌, ◌⊎◌, inl, inr, Bool, true, false}
use Rattle.std.proofs.Common.{eqb, List, [], ◌∷◌, length, get_or, refl, sym, ap, subst, ◌∙◌, arith}
use Rattle.std.specs.List.{All, IsDistinct, list_any}
use Rattle.std.proofs.lemmas.Bool.{cases_eq, ne_eqb, eqb-true}
use Rattle.std.proofs.lemmas.Map.Keys.{IsDistinct-from_apart}
use Rattle.std.proofs.lemmas.Map.Steps.{length-le_from_distinct_below}
use Rattle.trees.specs.declared.node.Node.{Node}
use Rattle.trees.specs.Tree.{IsNode, parent_of_node, ancestor, LeadsToRoot}
use Rattle.trees.proofs.AscentLemmas.{ancestor-one, ancestor-none, ancestor-add, no_root, leads_to_root}

module _ (nodes : List Node) (parents : All (λ node. node.parent ≤ length nodes) nodes) where
  -- the first nodes on the way up
  way : ℕ → ℕ → List ℕ
  way zero v = []
  way (suc k) v = v ∷ way k (parent_of_node nodes v)

  way-length : (k v : ℕ) → length (way k v) ≡ k
  unfolding way
  way-length zero v = refl
  way-length (suc k) v = ap suc (way-length k (parent_of_node nodes v))

  way-at : (k v i d : ℕ) → i < k → get_or (way k v) i d ≡ ancestor nodes i v
  unfolding way
  way-at zero v i d lt = absurd (omega (arith, lt))
  way-at (suc k) v zero d lt = sym (ancestor-none nodes v)
  way-at (suc k) v (suc i) d lt = way-at k (parent_of_node nodes v) i d (omega (arith, lt)) ∙ sym (ancestor-one nodes i v)

  parent-within : (v : ℕ) → v ≤ length nodes → parent_of_node nodes v ≤ length nodes
  parent-within zero le = omega arith
  parent-within (suc i) le = parents (suc i - 1) (record { parent = 0; out = 0; extra = 0; share = 0; time = 0 }) (omega (arith, le))

  way-within : (k v q : ℕ) → v ≤ length nodes → list_any (eqb q) (way k v) ≡ true → q < length nodes + 1
  unfolding way
  way-within zero v q le is = absurd cc
  way-within (suc k) v q le is = go (eqb q v) refl (way-within k (parent_of_node nodes v) q (parent-within v le)) where
    go : (b : Bool) → eqb q v ≡ b → (list_any (eqb q) (way k (parent_of_node nodes v)) ≡ true → q < length nodes + 1) → q < length nodes + 1
    go true e rest = omega (arith, le, eqb-true q v e)
    go false e rest = rest (rw e at is)

  -- the fewest steps that lead above a root
  record IsLeast (v k : ℕ) : Type 0 where
    ends : ancestor nodes k v ≡ 0
    before : (j : ℕ) → j < k → ancestor nodes j v ≢ 0

  least-below : (v n : ℕ) → ((j : ℕ) → j < n → ancestor nodes j v ≢ 0) ⊎ ((k : ℕ) × IsLeast v k)
  least-below v zero = inl (λ j lt. absurd (omega (arith, lt)))
  least-below v (suc n) = elim (least-below v n) [
    | inr found ↦ inr found
    | inl none ↦ elim (cases_eq (ancestor nodes n v) 0) [
      | inl e ↦ inr (n, record { ends = e; before = none })
      | inr ne ↦ inl (λ j lt. elim (cases_eq j n) [
        | inl same ↦ subst (λ (m : ℕ). ancestor nodes m v ≢ 0) (sym same) ne
        | inr other ↦ none j (omega (arith, lt, other))
      ])
    ]
  ]

  apart : (v k : ℕ) → IsLeast v k → (i j : ℕ) → i < j → j ≤ k → ancestor nodes i v ≢ ancestor nodes j v
  apart v k least i j lt le same =
      let s = ancestor nodes i v in
      let ne : s ≢ 0 = least.before i (omega (arith, lt, le)) in
      let steps : i + suc (j - i - 1) ≡ j = omega (arith, lt) in
      let turn : ancestor nodes (suc (j - i - 1)) s ≡ s =
      sym (ancestor-add nodes i (suc (j - i - 1)) v) ∙ ap (λ (m : ℕ). ancestor nodes m v) steps ∙ sym same in
      no_root nodes v i (j - i - 1) s refl turn ne k least.ends

  least-short : (v k : ℕ) → v ≤ length nodes → IsLeast v k → k ≤ length nodes
  least-short v k le least =
      let xs = way (suc k) v in
      let distinct : IsDistinct eqb xs = IsDistinct-from_apart eqb xs (λ i j d lt short.
      let in_way : j < suc k = omega (arith, short, way-length (suc k) v) in
      ne_eqb _ _ (λ same. apart v k least i j lt (omega (arith, in_way))
      (sym (way-at (suc k) v i d (omega (arith, lt, in_way))) ∙ same ∙ way-at (suc k) v j d in_way))) in
      omega (
        arith,
        way-length (suc k) v,
        length-le_from_distinct_below xs (length nodes + 1) distinct (λ q is. way-within (suc k) v q le is),
      )

  pub steps-lead : (v : ℕ) → IsNode nodes v → (k : ℕ) → ancestor nodes k v ≡ 0 → LeadsToRoot nodes v
  steps-lead v node k ends = elim (least-below v (suc k)) [
    | inl none ↦ absurd (none k (omega arith) ends)
    | inr found ↦ leads_to_root nodes 0 v (found.0, omega (arith, least-short v found.0 node.1 found.1), found.1.ends)
  ]
