-- The children of each node, in rows.
use Rattle.std.proofs.Common.{◌≡◌, ℕ, ◌+◌, ◌-◌, ◌<◌, ◌≤◌, Bool, eqb, List, length, get_or, filter, map, sym, ap, ◌∙◌, arith}
use Rattle.std.specs.List.{All, range_with_len}
use Rattle.std.proofs.lemmas.List.{length-map, get_or-map}
use Rattle.std.proofs.lemmas.List.Sums.{length-filter, count_by-le-length}
use Rattle.std.proofs.lemmas.List.FromFn.{length-range_with_len}
use Rattle.row_table.specs.Rows.{row_at, numbers_with}
use Rattle.trees.specs.declared.node.Node.{Node}
use Rattle.trees.specs.Tree.{parent_of_node}
use Rattle.trees.specs.Forest.{AreChildren, children_of}
use Rattle.trees.specs.Children.{parent_in}
use Rattle.trees.proofs.AscentLemmas.{parent_is}

-- what the law of numbers in rows says
abbrev pub AreFiltered : Type 0
AreFiltered = (keys : List ℕ) (first k : ℕ) (test : ℕ → Bool) → ((i : ℕ) → i < length keys → test (first + i) ≡ eqb (get_or keys i 0) k)
    → filter test (range_with_len first (length keys)) ≡ numbers_with keys first k

module _ (nodes : List Node) where
  parents : List ℕ
  parents = map parent_in nodes

  none : Node
  none = record { parent = 0; out = 0; extra = 0; share = 0; time = 0 }

  parent_at : (i : ℕ) → i < length nodes → parent_of_node nodes (1 + i) ≡ get_or parents i 0
  unfolding parents none
  parent_at i lt =
      let place : (1 + i) - 1 ≡ i = omega arith in
      sym (parent_is nodes (1 + i) (omega arith)) ∙ ap (λ (k : ℕ). (get_or nodes k none).parent) place
      ∙ sym (get_or-map parent_in nodes i none 0 lt)

  pub parents_within : ((i : ℕ) (d : Node) → i < length nodes → (get_or nodes i d).parent ≤ length nodes)
      → All (λ key. key < length nodes + 1) (map parent_in nodes)
  unfolding none
  parents_within within i d lt =
      let short : i < length nodes = omega (arith, length-map nodes parent_in, lt) in
      omega (arith, get_or-map parent_in nodes i none d short, within i none short)

  pub rows-children : AreFiltered → (p : ℕ) → numbers_with (map parent_in nodes) 1 p ≡ children_of nodes p
  unfolding parents
  rows-children filtered p =
      let q : ℕ → Bool = λ v. eqb (parent_of_node nodes v) p in
      sym (filtered (map parent_in nodes) 1 p q
      (λ i lt. ap (λ (u : ℕ). eqb u p) (parent_at i (omega (arith, length-map nodes parent_in, lt)))))
      ∙ ap (λ (n : ℕ). filter q (range_with_len 1 n)) (length-map nodes parent_in)

  pub children-few : (p : ℕ) → length (children_of nodes p) ≤ length nodes
  children-few p =
      let q : ℕ → Bool = λ v. eqb (parent_of_node nodes v) p in
      omega (
        arith,
        length-filter q (range_with_len 1 (length nodes)),
        count_by-le-length q (range_with_len 1 (length nodes)),
        length-range_with_len 1 (length nodes),
      )

-- as the code reads a row
pub row-length : (nodes : List Node) (rows : List (List ℕ)) → AreChildren nodes rows → (v : ℕ)
    → v ≤ length nodes → (row : List ℕ) → row ≡ row_at rows v → length row ≡ length (children_of nodes v)
row-length nodes rows are v le row is = ap length (is ∙ are.rows_are v le)

pub row-few : (nodes : List Node) (rows : List (List ℕ)) → AreChildren nodes rows → (v : ℕ)
    → v ≤ length nodes → (row : List ℕ) → row ≡ row_at rows v → length row ≤ length nodes
row-few nodes rows are v le row is = omega (arith, row-length nodes rows are v le row is, children-few nodes v)
