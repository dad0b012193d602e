-- Fronts of which those of each subtree are some of the order in a row: whoever stands between two of them is one of them.
use Rattle.std.proofs.Common.{sym, ◌∙◌, subst, ap, ◌≡◌, ◌≢◌, inl, inr, ℕ, zero, suc, ◌+◌, ◌-◌, ◌<◌, ◌≤◌}
use Rattle.std.proofs.Common.{List, ◌++◌, length, get_or, arith, refl}
use Rattle.std.proofs.lemmas.Bool.{cases_eq}
use Rattle.std.proofs.lemmas.List.{get_or_append_left, get_or-append_right, length-append}
use Rattle.permutations.specs.Perm.{IsVertex, IsPerm, times, vertex_at, place_of}
use Rattle.permutations.proofs.PlaceLemmas.{times-at, times-none, place-vertex, place-le, place-at}
use Rattle.permutations.proofs.PermLemmas.{vertex_of_place}
use Rattle.elim_tree.specs.Trees.{parent_at, IsAbove, self, step}
use Rattle.elim_tree.proofs.OnePostorder.{vertex_of}
use Rattle.assembly_tree.specs.declared.assembly.Super.{Super}
use Rattle.assembly_tree.specs.Assembly.{IsSuper}
use Rattle.equivalent_orders.specs.FrontPostorders.{front_parents, StandTogether, IsFrontPostorder}
use Rattle.equivalent_orders.specs.Fronts.{IsFrontOrder}
use Rattle.equivalent_orders.proofs.FrontPaths.{parent_in_tree}

-- ---- a list that is cut into three

at_index : (xs : List ℕ) (k : ℕ) → 1 ≤ k → get_or xs (k - 1) 0 ≡ vertex_at xs k
at_index xs zero some = absurd (omega arith)
at_index xs (suc i) some = let e : suc i - 1 ≡ i = omega arith in ap (λ (k : ℕ). get_or xs k 0) e

module _ (n : ℕ) (order before block after : List ℕ) (is : IsPerm n order) (parts : order ≡ before ++ (block ++ after)) where
  in_middle : (i : ℕ) → i < length block → get_or order (length before + i) 0 ≡ get_or block i 0
  in_middle i lt =
      let back : length before + i - length before ≡ i = omega arith in
      ap (λ (xs : List ℕ). get_or xs (length before + i) 0) parts
      ∙ get_or-append_right before (block ++ after) (length before) (length before + i) 0 refl (omega arith)
      ∙ ap (λ (k : ℕ). get_or (block ++ after) k 0) back ∙ get_or_append_left block after 0 i lt

  long : length order ≡ length before + (length block + length after)
  long = ap length parts ∙ length-append before (block ++ after) ∙ ap (λ m. length before + m) (length-append block after)

  -- whoever is in the middle has a place there
  place_there : (v : ℕ) → IsVertex n v → 1 ≤ times block v
      → (length before < place_of order v) × (place_of order v ≤ length before + length block)
  place_there v vertex some =
      let ne : place_of block v ≢ 0 = λ e. let none = times-none block v e in absurd (omega arith) in
      let le = place-le block v in
      let all = long in
      let low : 1 ≤ place_of block v = elim (cases_eq (place_of block v) 0) [ inl e ↦ absurd (ne e) | inr nz ↦ omega arith ] in
      let at : get_or order (length before + (place_of block v - 1)) 0 ≡ v =
      in_middle (place_of block v - 1) (omega arith) ∙ at_index block (place_of block v) low ∙ place-vertex block v ne in
      let place : place_of order v ≡ suc (length before + (place_of block v - 1)) =
      sym (ap (place_of order) at)
      ∙ place-at order (length before + (place_of block v - 1)) (omega arith)
      (ap (times order) at ∙ is.once v vertex) in
      (omega arith, omega arith)

  -- and whoever has a place there is in the middle
  stands_there : (v : ℕ) → IsVertex n v → length before < place_of order v → place_of order v ≤ length before + length block
      → 1 ≤ times block v
  stands_there v vertex low high =
      let e : length before + (place_of order v - 1 - length before) ≡ place_of order v - 1 = omega arith in
      let at : get_or block (place_of order v - 1 - length before) 0 ≡ v =
      sym (in_middle (place_of order v - 1 - length before) (omega arith)) ∙ ap (λ (k : ℕ). get_or order k 0) e
      ∙ at_index order (place_of order v) (omega arith) ∙ vertex_of_place n order is v vertex.1 in
      let there = times-at block (place_of order v - 1 - length before) (omega arith) in
      let same = ap (times block) at in
      omega arith

-- ---- fronts

module _ (supers : List Super) (fronts : List ℕ) (order : IsFrontOrder supers fronts) where
  -- whoever is above a front is one
  above_is : {a s : ℕ} → IsAbove (front_parents supers) a s → IsSuper supers a → IsSuper supers s
  above_is self is = is
  above_is {a} {s} (step some rest) is =
      let named = parent_in_tree supers a is in
      let less = order.before a is (subst (λ q. 0 < q) named some) in
      let e = ap (place_of fronts) named in
      let ne : place_of fronts (parent_at (front_parents supers) a) ≢ 0 = λ z. absurd (omega arith) in
      let le = place-le fronts (parent_at (front_parents supers) a) in
      let len = order.perm.len in
      above_is rest (subst (IsSuper supers) (place-vertex fronts (parent_at (front_parents supers) a) ne)
      (vertex_of (length supers) fronts order.perm (place_of fronts (parent_at (front_parents supers) a)) (omega arith, omega arith)))

  pub in_a_row : ((s : ℕ) → IsSuper supers s → StandTogether supers fronts s) → IsFrontPostorder supers fronts
  in_a_row rows = record {
    order = order;
    together = λ a b s is_a is_b up ab bs.
        let is_s = above_is up is_a in
        let row = rows s is_s in
        let n = length supers in
        let at_a = place_there n fronts row.before row.block row.after order.perm row.parts a is_a ((row.exact a is_a).1 up) in
        let at_s = place_there n fronts row.before row.block row.after order.perm row.parts s is_s ((row.exact s is_s).1 self) in
        let first = at_a.0 in
        let last = at_s.1 in
        (row.exact b is_b).0
        (stands_there n fronts row.before row.block row.after order.perm row.parts b is_b (omega arith) (omega arith));
  }
