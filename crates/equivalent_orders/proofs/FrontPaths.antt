-- Ways up in an elimination tree and in the tree of its fundamental supernodes: a column is below those of its front that come after it,
-- and below all columns of the fronts above.
use Rattle.std.proofs.Common.{sym, ◌∙◌, subst, ap, ◌≡◌, ◌≢◌, inl, inr, ℕ, zero, suc, ◌+◌, ◌-◌, ◌<◌, ◌≤◌}
use Rattle.std.proofs.Common.{List, length, get_or, arith, refl}
use Rattle.std.proofs.lemmas.Bool.{cases_eq}
use Rattle.std.proofs.lemmas.List.{get_or-map}
use Rattle.permutations.specs.Perm.{IsVertex}
use Rattle.elim_tree.specs.Trees.{parent_at, IsForest, IsAbove, self, step}
use Rattle.elim_tree.proofs.Columns.{vertex_with_parent}
use Rattle.elim_tree.proofs.Postorderings.{above_trans}
use Rattle.assembly_tree.specs.declared.assembly.Super.{Super}
use Rattle.assembly_tree.specs.Assembly.{AssemblyTree, IsSuper, no_super, super_at, super_of}
use Rattle.assembly_tree.specs.Supernodes.{Continues, first_of, last_of, AreSupernodes}
use Rattle.assembly_tree.proofs.SupernodeLemmas.{covered}
use Rattle.equivalent_orders.specs.FrontPostorders.{front_parents}
use Rattle.equivalent_orders.proofs.Followed.{supernodes_followed}

-- the parent of a front, in the tree of the fronts
pub parent_in_tree : (supers : List Super) (s : ℕ) → IsSuper supers s → parent_at (front_parents supers) s ≡ (super_at supers s).parent
parent_in_tree supers zero is = absurd (let some = is.0 in omega arith)
parent_in_tree supers (suc i) is =
    let high = is.1 in
    let back : suc i - 1 ≡ i = omega arith in
    get_or-map (λ x. x.parent) supers i no_super 0 (omega arith) ∙ ap (λ (k : ℕ). (get_or supers k no_super).parent) (sym back)

module _ (parents counts : List ℕ) (a : AssemblyTree) (forest : IsForest parents) (r : AreSupernodes parents counts a) where
  -- ---- columns of one front

  pub in_front : (j : ℕ) → IsVertex (length parents) j → IsSuper a.supers (super_of a.nodes j)
      × (first_of a.supers (super_of a.nodes j) ≤ j) × (j ≤ last_of a.supers (super_of a.nodes j))
  in_front j vj =
      let there = covered a.supers (length a.supers) j vj.0 (omega (arith, vj.1, r.total)) in
      let t = there.0 in
      let is : IsSuper a.supers t = (there.1, there.2) in
      let at : super_of a.nodes j ≡ t = r.nodes t j is there.3 there.4 in
      subst (λ s. IsSuper a.supers s × (first_of a.supers s ≤ j) × (j ≤ last_of a.supers s)) (sym at) (is, there.3, there.4)

  -- columns of which each is the parent of the one before
  climb : (d j : ℕ) → ((i : ℕ) → j ≤ i → i < j + d → parent_at parents i ≡ i + 1) → IsAbove parents j (j + d)
  climb zero j next = subst (λ k. IsAbove parents j k) (let e : j ≡ j + 0 = omega arith in e) self
  climb (suc d) j next =
      let here = next j (omega arith) (omega arith) in
      let rest = climb d (j + 1) (λ i low high. next i (omega arith) (omega arith)) in
      step (omega arith) (subst (λ q. IsAbove parents q (j + suc d)) (sym here)
      (subst (λ k. IsAbove parents (j + 1) k) (let e : j + 1 + d ≡ j + suc d = omega arith in e) rest))

  within_front : (j k : ℕ) → IsVertex (length parents) j → IsVertex (length parents) k → super_of a.nodes j ≡ super_of a.nodes k
      → j ≤ k → IsAbove parents j k
  within_front j k vj vk same le =
      let at_j = in_front j vj in
      let at_k = in_front k vk in
      let low = at_j.1 in
      let high = at_k.2 in
      let first = ap (first_of a.supers) same in
      subst (λ i. IsAbove parents j i) (let e : j + (k - j) ≡ k = omega arith in e)
      (climb (k - j) j (λ i above below. (r.runs (super_of a.nodes k) i at_k.0 (omega arith) (omega arith)).parent))

  first_column : (s : ℕ) → IsSuper a.supers s → super_of a.nodes (first_of a.supers s) ≡ s
  first_column s is = let some = r.some s is in r.nodes s (first_of a.supers s) is (omega arith) some

  last_column : (s : ℕ) → IsSuper a.supers s → super_of a.nodes (last_of a.supers s) ≡ s
  last_column s is = let some = r.some s is in r.nodes s (last_of a.supers s) is some (omega arith)

  -- ---- fronts above fronts

  -- whoever is above a column is in a front above
  pub above_fronts : {j k : ℕ} → IsAbove parents j k → IsAbove (front_parents a.supers) (super_of a.nodes j) (super_of a.nodes k)
  above_fronts self = self
  above_fronts {j} {k} (step some rest) =
      let up = forest.rising j some in
      let there = (in_front (parent_at parents j) (some, up.1)).0 in
      elim (supernodes_followed parents counts a r j some) [
        | inl e ↦ subst (λ s. IsAbove (front_parents a.supers) s (super_of a.nodes k)) e (above_fronts rest)
        | inr e ↦
            let at : parent_at (front_parents a.supers) (super_of a.nodes j) ≡ super_of a.nodes (parent_at parents j) =
            parent_in_tree a.supers (super_of a.nodes j) (in_front j (vertex_with_parent parents j some)).0 ∙ sym e in
            step (subst (λ s. 0 < s) (sym at) there.0)
            (subst (λ s. IsAbove (front_parents a.supers) s (super_of a.nodes k)) (sym at) (above_fronts rest))
      ]

  -- the parent of the last column of a front is the first one of its front: each other column has the one before it as its only child
  enters : (s : ℕ) → IsSuper a.supers s → 0 < parent_at parents (last_of a.supers s)
      → parent_at parents (last_of a.supers s) ≡ first_of a.supers (super_of a.nodes (parent_at parents (last_of a.supers s)))
  enters s is some =
      let up = forest.rising (last_of a.supers s) some in
      let at = in_front (parent_at parents (last_of a.supers s)) (some, up.1) in
      let low = at.1 in
      let high = at.2 in
      elim (cases_eq (parent_at parents (last_of a.supers s))
      (first_of a.supers (super_of a.nodes (parent_at parents (last_of a.supers s))))) [
        | inl e ↦ e
        | inr ne ↦
            let run = r.runs (super_of a.nodes (parent_at parents (last_of a.supers s))) (parent_at parents (last_of a.supers s) - 1) at.0
            (omega arith) (omega arith) in
            let only = run.only (last_of a.supers s) (vertex_with_parent parents (last_of a.supers s) some) (omega arith) in
            absurd (r.longest s is (subst (λ k. Continues parents counts k) (sym only) run))
      ]

  -- a column is below the first one of each front above its own
  below_first : {s t : ℕ} → IsAbove (front_parents a.supers) s t → s ≢ t → IsSuper a.supers s
      → (j : ℕ) → IsVertex (length parents) j → super_of a.nodes j ≡ s → IsAbove parents j (first_of a.supers t)
  below_first self ne is j vj at = absurd (ne refl)
  below_first {s} {t} (step some rest) ne is j vj at =
      let named : parent_at (front_parents a.supers) s ≡ super_of a.nodes (parent_at parents (last_of a.supers s)) =
      parent_in_tree a.supers s is ∙ r.parent s is in
      let pos : 0 < parent_at parents (last_of a.supers s) = elim (cases_eq (parent_at parents (last_of a.supers s)) 0) [
        | inl e ↦ let z = named ∙ ap (super_of a.nodes) e in absurd (omega arith)
        | inr nz ↦ omega arith
      ] in
      let up = forest.rising (last_of a.supers s) pos in
      let vl = vertex_with_parent parents (last_of a.supers s) pos in
      let vq : IsVertex (length parents) (parent_at parents (last_of a.supers s)) = (pos, up.1) in
      let is_parent : IsSuper a.supers (parent_at (front_parents a.supers) s) =
      subst (IsSuper a.supers) (sym named) (in_front (parent_at parents (last_of a.supers s)) vq).0 in
      let first : parent_at parents (last_of a.supers s) ≡ first_of a.supers (parent_at (front_parents a.supers) s) =
      enters s is pos ∙ ap (first_of a.supers) (sym named) in
      let low = subst (λ k. j ≤ last_of a.supers k) at (in_front j vj).2 in
      let way : IsAbove parents j (first_of a.supers (parent_at (front_parents a.supers) s)) =
      above_trans (within_front j (last_of a.supers s) vj vl (at ∙ sym (last_column s is)) low)
      (step pos (subst (λ k. IsAbove parents (parent_at parents (last_of a.supers s)) k) first self)) in
      elim (cases_eq (parent_at (front_parents a.supers) s) t) [
        | inl e ↦ subst (λ k. IsAbove parents j (first_of a.supers k)) e way
        | inr nt ↦ above_trans way (below_first rest nt is_parent (first_of a.supers (parent_at (front_parents a.supers) s))
            (subst (IsVertex (length parents)) first vq) (first_column (parent_at (front_parents a.supers) s) is_parent))
      ]

  -- so in a front above a column everyone is above it, and in its own those after it
  pub below_columns : (j k : ℕ) → IsVertex (length parents) j → IsVertex (length parents) k
      → IsAbove (front_parents a.supers) (super_of a.nodes j) (super_of a.nodes k) → (super_of a.nodes j ≡ super_of a.nodes k → j ≤ k)
      → IsAbove parents j k
  below_columns j k vj vk up turn =
      elim (cases_eq (super_of a.nodes j) (super_of a.nodes k)) [
        | inl same ↦ within_front j k vj vk same (turn same)
        | inr ne ↦
            let at_k = in_front k vk in
            let low = at_k.1 in
            let high = vk.1 in
            above_trans (below_first up ne (in_front j vj).0 j vj refl)
            (within_front (first_of a.supers (super_of a.nodes k)) k (omega arith, omega arith) vk
            (first_column (super_of a.nodes k) at_k.0) low)
      ]
