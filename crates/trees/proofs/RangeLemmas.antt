-- Nodes by their numbers: sums and items over the numbers 1 to n are those over the list of nodes.
use Rattle.std.proofs.Common.{◌≡◌, ℕ, suc, ◌+◌, ◌-◌, ◌<◌, Bool, true, false, eqb, List, []}
use Rattle.std.proofs.Common.{◌∷◌, length, get_or, map, filter, refl, sym, ap, ◌∙◌, arith}
use Rattle.std.specs.List.{sum_by, range_with_len}
use Rattle.std.proofs.lemmas.List.Sums.{sum_by-cons}
use Rattle.trees.specs.declared.node.Node.{Node}
use Rattle.trees.specs.Tree.{node_at, parent_of_node, out_below, children_out, node_size, item_of_node, items_from}
use Rattle.trees.specs.Forest.{children_of}
use Rattle.trees.proofs.AscentLemmas.{parent_is}

module _ (g : ℕ → Node) (d : Node) where
  -- the numbers from k on name these nodes
  abbrev AreNumbered : ℕ → List Node → Type 0
  AreNumbered k nodes = (i : ℕ) → i < length nodes → g (k + i) ≡ get_or nodes i d

  numbered-first : (k : ℕ) (n : Node) (ns : List Node) → AreNumbered k (n ∷ ns) → g k ≡ n
  numbered-first k n ns h = (let e : k ≡ k + 0 = omega arith in ap g e) ∙ h 0 (omega arith)

  numbered-rest : (k : ℕ) (n : Node) (ns : List Node) → AreNumbered k (n ∷ ns) → AreNumbered (k + 1) ns
  numbered-rest k n ns h i lt = (let e : k + 1 + i ≡ k + suc i = omega arith in ap g e) ∙ h (suc i) (omega (arith, lt))

  sizes-range : (k : ℕ) (nodes : List Node) → AreNumbered k nodes
      → sum_by (λ v. node_size (g v)) (range_with_len k (length nodes)) ≡ sum_by node_size nodes
  sizes-range k [] h = refl
  sizes-range k (n ∷ ns) h =
      omega (
        arith,
        sum_by-cons (λ v. node_size (g v)) k (range_with_len (k + 1) (length ns)),
        sum_by-cons node_size n ns,
        ap node_size (numbered-first k n ns h),
        sizes-range (k + 1) ns (numbered-rest k n ns h),
      )

  items-range : (k : ℕ) (nodes : List Node) → AreNumbered k nodes
      → map (λ v. item_of_node v (g v)) (range_with_len k (length nodes)) ≡ items_from k nodes
  items-range k [] h = refl
  items-range k (n ∷ ns) h = λ i. item_of_node k (numbered-first k n ns h i) ∷ items-range (k + 1) ns (numbered-rest k n ns h) i

  module _ (p : ℕ) (q : ℕ → Bool) where
    -- the numbers that pass are those of the nodes with the parent p
    abbrev AreBelow : ℕ → List Node → Type 0
    AreBelow k nodes = (i : ℕ) → i < length nodes → q (k + i) ≡ eqb (get_or nodes i d).parent p

    outs-range : (k : ℕ) (nodes : List Node) → AreNumbered k nodes → AreBelow k nodes
        → sum_by (λ v. (g v).out) (filter q (range_with_len k (length nodes))) ≡ sum_by (out_below p) nodes
    outs-range k [] h b = refl
    outs-range k (n ∷ ns) h b =
        let rest = outs-range (k + 1) ns (numbered-rest k n ns h)
        (λ i lt. (let e : k + 1 + i ≡ k + suc i = omega arith in ap q e) ∙ b (suc i) (omega (arith, lt))) in
        let here : q k ≡ eqb n.parent p = (let e : k ≡ k + 0 = omega arith in ap q e) ∙ b 0 (omega arith) in
        go (eqb n.parent p) refl here rest
      where
        go : (t : Bool) → eqb n.parent p ≡ t → q k ≡ eqb n.parent p
            → sum_by (λ v. (g v).out) (filter q (range_with_len (k + 1) (length ns))) ≡ sum_by (out_below p) ns
            → sum_by (λ v. (g v).out) (filter q (range_with_len k (suc (length ns)))) ≡ sum_by (out_below p) (n ∷ ns)
        go true e here rest = (
            let own : out_below p n ≡ n.out = rw e refl in
            rw (here ∙ e) (omega (
              arith,
              sum_by-cons (λ v. (g v).out) k (filter q (range_with_len (k + 1) (length ns))),
              sum_by-cons (out_below p) n ns,
              own,
              rest,
              ap (λ (x : Node). x.out) (numbered-first k n ns h),
            ))
            )
        go false e here rest = (
            let own : out_below p n ≡ 0 = rw e refl in
            rw (here ∙ e) (omega (arith, sum_by-cons (out_below p) n ns, own, rest))
            )

module _ (nodes : List Node) where
  numbered-all : (i : ℕ) → i < length nodes
      → node_at nodes (1 + i) ≡ get_or nodes i (record { parent = 0; out = 0; extra = 0; share = 0; time = 0 })
  numbered-all i lt = let e : (1 + i) - 1 ≡ i = omega arith in
      ap (λ (k : ℕ). get_or nodes k (record { parent = 0; out = 0; extra = 0; share = 0; time = 0 })) e

  pub sizes-all : sum_by (λ v. node_size (node_at nodes v)) (range_with_len 1 (length nodes)) ≡ sum_by node_size nodes
  sizes-all = sizes-range (node_at nodes) (record { parent = 0; out = 0; extra = 0; share = 0; time = 0 }) 1 nodes numbered-all

  pub items-all : map (λ v. item_of_node v (node_at nodes v)) (range_with_len 1 (length nodes)) ≡ items_from 1 nodes
  items-all = items-range (node_at nodes) (record { parent = 0; out = 0; extra = 0; share = 0; time = 0 }) 1 nodes numbered-all

  pub outs-all : (p : ℕ) → sum_by (λ v. (node_at nodes v).out) (children_of nodes p) ≡ children_out nodes p
  outs-all p =
      let d : Node = record { parent = 0; out = 0; extra = 0; share = 0; time = 0 } in
      outs-range (node_at nodes) d p (λ v. eqb (parent_of_node nodes v) p) 1 nodes numbered-all
      (λ i lt. ap (λ (u : ℕ). eqb u p) (sym (parent_is nodes (1 + i) (omega arith)) ∙ ap (λ (x : Node). x.parent) (numbered-all i lt)))
