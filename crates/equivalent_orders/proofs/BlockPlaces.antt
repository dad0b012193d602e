-- Blocks one after another: a number that stands before another one is in the same block, or in an earlier one.
use Rattle.std.proofs.Common.{sym, ◌∙◌, subst, ap, ◌≡◌, ◌≢◌, ◌⊎◌, inl, inr, ℕ, zero, suc, ◌-◌, ◌<◌, ◌≤◌}
use Rattle.std.proofs.Common.{cond, ◌==◌, List, [], ◌∷◌, length, get_or, arith, refl}
use Rattle.std.specs.List.{All, AllPairs, range_with_len}
use Rattle.std.proofs.lemmas.Bool.{cases_eq, cases_lt, eq-eqb, ne_eqb, eqb-true}
use Rattle.std.proofs.lemmas.List.{get_or_default}
use Rattle.std.proofs.lemmas.List.Elements.{All-nil, All-head, All-tail, All-append, filter_passes}
use Rattle.permutations.specs.Perm.{IsVertex, IsPerm, vertex_at, place_of}
use Rattle.permutations.proofs.PlaceLemmas.{place-at}
use Rattle.permutations.proofs.PermLemmas.{vertex_of_place, place_of_vertex}
use Rattle.elim_tree.proofs.OnePostorder.{place_within}
use Rattle.equivalent_orders.proofs.Blocks.{members, blocks, blocks_perm, blocks_keep, pairs-append}

-- j has the parent k, and no other number has one
abbrev only_parent : ℕ → ℕ → ℕ → ℕ
only_parent j k x = cond (x == j) k 0

parent_here : (j k x : ℕ) → x ≡ j → only_parent j k x ≡ k
parent_here j k x e = ap (λ b. cond b k 0) (eq-eqb x j e)

parent_beyond : (j k x : ℕ) → x ≢ j → only_parent j k x ≡ 0
parent_beyond j k x ne = ap (λ b. cond b k 0) (ne_eqb x j ne)

module _ (n : ℕ) (block : ℕ → ℕ) where
  in_block : (s i d : ℕ) → i < length (members n block s) → block (get_or (members n block s) i d) ≡ s
  in_block s i d lt = eqb-true _ s (filter_passes (λ j. block j == s) (range_with_len 1 n) i d lt)

  -- what holds of each block holds of the block of each number
  of_each : (P : ℕ → Type 0) (xs : List ℕ) → All P xs → All (λ j. P (block j)) (blocks n block xs)
  of_each P [] all = All-nil (λ j. P (block j))
  of_each P (s ∷ xs) all =
      All-append (λ j. P (block j)) (members n block s) (blocks n block xs)
      (λ i d lt. subst P (sym (in_block s i d lt)) (All-head P s xs all)) (of_each P xs (All-tail P s xs all))

  -- what holds of each block and itself and each later one holds of the blocks of each number and each later one
  of_pairs : (R : ℕ → ℕ → Type 0) → ((s : ℕ) → R s s) → (xs : List ℕ) → AllPairs R xs
      → AllPairs (λ j k. R (block j) (block k)) (blocks n block xs)
  of_pairs R own [] pairs = λ i j d lt below. absurd (omega arith)
  of_pairs R own (s ∷ xs) pairs =
      pairs-append (λ j k. R (block j) (block k)) (members n block s) (blocks n block xs)
      (λ i j d lt below. subst (λ t. R t (block (get_or (members n block s) j d))) (sym (in_block s i d (omega arith)))
      (subst (R s) (sym (in_block s j d below)) (own s)))
      (of_pairs R own xs (λ i j d lt below. pairs (suc i) (suc j) d (omega arith) (omega arith)))
      (λ i j d lt below. subst (λ t. R t (block (get_or (blocks n block xs) j d))) (sym (in_block s i d lt))
      (of_each (R s) xs (λ k e kl. pairs zero (suc k) e (omega arith) (omega arith)) j d below))

  module _ (m : ℕ) (order : List ℕ) (is_order : IsPerm m order) (sorted : (j : ℕ) → IsVertex n j → IsVertex m (block j)) where
    is_blocks : IsPerm n (blocks n block order)
    is_blocks = blocks_perm n block m order is_order sorted

    index_of : (i d : ℕ) → i < length order → place_of order (get_or order i d) ≡ suc i
    index_of i d lt =
        ap (place_of order) (get_or_default order i d 0 lt) ∙ place-at order i lt (is_order.once _ (is_order.vertices i 0 lt))

    places_rise : AllPairs (λ s t. place_of order s ≤ place_of order t) order
    places_rise i j d lt below =
        let here = index_of i d (omega arith) in
        let there = index_of j d below in
        omega arith

    pub blocks_in_turn : (j k : ℕ) → IsVertex n j → IsVertex n k → place_of (blocks n block order) j ≤ place_of (blocks n block order) k
        → place_of order (block j) ≤ place_of order (block k)
    blocks_in_turn j k vj vk le =
        let here = place_within vertex_of_place place_of_vertex n (blocks n block order) is_blocks j vj in
        let there = place_within vertex_of_place place_of_vertex n (blocks n block order) is_blocks k vk in
        let len = is_blocks.len in
        let at_j = vertex_of_place n (blocks n block order) is_blocks j vj.1 in
        let at_k = vertex_of_place n (blocks n block order) is_blocks k vk.1 in
        elim (cases_eq (place_of (blocks n block order) j) (place_of (blocks n block order) k)) [
          | inl e ↦
              let same : j ≡ k = sym at_j ∙ ap (vertex_at (blocks n block order)) e ∙ at_k in
              let z = ap (λ (x : ℕ). place_of order (block x)) same in
              omega arith
          | inr ne ↦
              let found = of_pairs (λ s t. place_of order s ≤ place_of order t) (λ s. omega arith) order places_rise
              (place_of (blocks n block order) j - 1) (place_of (blocks n block order) k - 1) 0
              (let a = here.0 in omega arith) (let b = there.0 in let c = there.1 in omega arith) in
              let of_j = ap (λ (x : ℕ). place_of order (block x))
              (at_index (blocks n block order) (place_of (blocks n block order) j) here.0 ∙ at_j) in
              let of_k = ap (λ (x : ℕ). place_of order (block x))
              (at_index (blocks n block order) (place_of (blocks n block order) k) there.0 ∙ at_k) in
              omega arith
        ]
      where
        at_index : (ys : List ℕ) (i : ℕ) → 1 ≤ i → get_or ys (i - 1) 0 ≡ vertex_at ys i
        at_index ys zero some = absurd (omega arith)
        at_index ys (suc i) some = let e : suc i - 1 ≡ i = omega arith in ap (λ (l : ℕ). get_or ys l 0) e

    -- in one block they rise: the lesser number may have the greater one for its parent
    block_rises : (j k : ℕ) → j < k → IsVertex n j → IsVertex n k → block j ≡ block k
        → place_of (blocks n block order) j < place_of (blocks n block order) k
    block_rises j k lt vj vk same =
        let up = parent_here j k j refl in
        let low = vk.0 in
        let less = blocks_keep n block m order is_order sorted (only_parent j k) rises follows j vj (omega arith) in
        let e = ap (place_of (blocks n block order)) up in
        omega arith
      where
        rises : (x : ℕ) → 0 < only_parent j k x → (x < only_parent j k x) × (only_parent j k x ≤ n)
        rises x some =
            elim (cases_eq x j) [
              | inl e ↦ let up = parent_here j k x e in let high = vk.1 in (omega arith, omega arith)
              | inr ne ↦ let none = parent_beyond j k x ne in absurd (omega arith)
            ]

        follows : (x : ℕ) → IsVertex n x → 0 < only_parent j k x
            → (block (only_parent j k x) ≡ block x) ⊎ (place_of order (block x) < place_of order (block (only_parent j k x)))
        follows x vx some =
            elim (cases_eq x j) [
              | inl e ↦ inl (ap block (parent_here j k x e) ∙ sym same ∙ ap block (sym e))
              | inr ne ↦ let none = parent_beyond j k x ne in absurd (omega arith)
            ]

    pub in_block_order : (j k : ℕ) → IsVertex n j → IsVertex n k → block j ≡ block k
        → place_of (blocks n block order) j ≤ place_of (blocks n block order) k → j ≤ k
    in_block_order j k vj vk same le =
        elim (cases_lt k j) [
          | inl lt ↦ let less = block_rises k j lt vk vj (sym same) in absurd (omega arith)
          | inr ge ↦ ge
        ]
