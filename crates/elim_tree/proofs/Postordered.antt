-- The order along the postorder of its elimination tree, and the tree of this order.
use Rattle.std.proofs.Common.{◌≡◌, ◌∙◌, ℕ, Bool, List, length, map, sym, ap, subst}
use Rattle.std.proofs.lemmas.List.{length-map}
use Rattle.std.proofs.lemmas.List.FromFn.{length-map-range_with_len}
use Rattle.patterns.specs.Pattern.{is_joined, IsPattern}
use Rattle.permutations.specs.Perm.{vertex_at}
use Rattle.ordering.specs.Fill.{renumbered, parent_of, parents_of, IsAdjacency}
use Rattle.elim_tree.specs.Paths.{IsWithin}
use Rattle.elim_tree.specs.Postorders.{IsPostorder, IsPostordered}
use Rattle.elim_tree.proofs.Growth.{pattern_by_rows, within_by_rows}

module _ (rows : List (List ℕ)) (old parents post : List ℕ)
    (are_parents : parents ≡ parents_of (renumbered (is_joined rows) old) (length old)) (postorder : IsPostorder parents post) where
  -- as many columns everywhere
  pub parents-length : length old ≡ length parents
  parents-length =
      sym (ap length are_parents ∙ length-map-range_with_len (parent_of (renumbered (is_joined rows) old) (length old)) 1 (length old))

  module _ (new : List ℕ) (along : new ≡ map (vertex_at old) post) where
    pub new-length : length new ≡ length old
    new-length = ap length along ∙ length-map post (vertex_at old) ∙ postorder.perm.len ∙ sym parents-length

    pub is_postordered : IsPostordered (is_joined rows) old new
    is_postordered = record {
      post = post;
      postorder = subst (λ (ps : List ℕ). IsPostorder ps post) are_parents postorder;
      along = along;
    }

    -- where each pattern's tree is carried over, so is that of these rows
    pub carried : (tree : List ℕ) → IsPattern rows → length old ≡ length rows
        → ((joined : ℕ → ℕ → Bool) → IsAdjacency joined → IsWithin (length parents) joined
        → parents ≡ parents_of (renumbered joined old) (length parents) → tree ≡ parents_of (renumbered joined new) (length parents))
        → tree ≡ parents_of (renumbered (is_joined rows) new) (length new)
    carried tree pattern len carry =
        carry (is_joined rows) (pattern_by_rows rows pattern)
        (subst (λ (n : ℕ). IsWithin n (is_joined rows)) (sym len ∙ parents-length) (within_by_rows rows pattern))
        (are_parents ∙ ap (parents_of (renumbered (is_joined rows) old)) parents-length)
        ∙ ap (parents_of (renumbered (is_joined rows) new)) (sym (new-length ∙ parents-length))
