-- The positions of each node in turn are those of the term.
use Rattle.std.proofs.Common.{◌≡◌, ℕ, ◌+◌, ◌<◌, refl, sym, ap, ◌∙◌, List, [], ◌∷◌, ◌++◌, length, take, get_or, append_assoc}
use Rattle.std.proofs.lemmas.List.{append-nil, take_more}
use Rattle.sp_terms.specs.declared.position.Position.{Position}
use Rattle.sp_terms.specs.declared.position.Position.TheVariants.{Hold}
use Rattle.sp_terms.specs.Postfix.{at_task}
use Rattle.trees.specs.declared.node.Node.{Node}
use Rattle.trees.specs.Tree.{node_at, task_of_node}
use Rattle.trees.specs.Forest.{Forest, no_trees, tree, roots_of, all_numbers, children_of, HasChildren, IsForestOf}
use Rattle.trees.specs.TreeTerm.{beside_positions, own_positions, tree_positions, forest_positions}
use Rattle.trees.specs.Children.{positions_of}
use Rattle.trees.proofs.ForestLemmas.{Hangs, forest-hangs}

positions-append : (nodes : List Node) (vs us : List ℕ) → positions_of nodes (vs ++ us) ≡ positions_of nodes vs ++ positions_of nodes us
positions-append nodes [] us = refl
positions-append nodes (v ∷ vs) us =
    let own : List Position = beside_positions (length (children_of nodes v)) ++ own_positions nodes v in
    ap (λ (z : List Position). own ++ z) (positions-append nodes vs us)
    ∙ sym (append_assoc own (positions_of nodes vs) (positions_of nodes us))

module _ (nodes : List Node) where
  flat : (p : ℕ) (f : Forest) → Hangs nodes p f → HasChildren nodes f → positions_of nodes (all_numbers f) ≡ tree_positions nodes f
  flat p no_trees h k = refl
  flat p (tree v cs ts) (child, below, beside) (is, below', beside') =
      let own : List Position = beside_positions (length (children_of nodes v)) ++ own_positions nodes v in
      let count : length (children_of nodes v) ≡ length (roots_of cs) = ap length (sym is) in
      positions-append nodes (all_numbers cs ++ v ∷ []) (all_numbers ts)
      ∙ (λ i. (positions-append nodes (all_numbers cs) (v ∷ [])
      ∙ (λ j. flat v cs below below' j ++ append-nil own j)
      ∙ ap (λ (n : ℕ). tree_positions nodes cs ++ (beside_positions n ++ own_positions nodes v)) count
      ∙ sym (append_assoc (tree_positions nodes cs) (beside_positions (length (roots_of cs))) (own_positions nodes v))) i
      ++ flat p ts beside beside' i)

  -- all of them, and the roots side by side
  pub flat-forest : (f : Forest) (names : List ℕ) → IsForestOf nodes f → names ≡ all_numbers f
      → positions_of nodes names ++ beside_positions (length (children_of nodes 0)) ≡ forest_positions nodes f
  flat-forest f names h e =
      let count : length (children_of nodes 0) ≡ length (roots_of f) = ap length (sym h.roots) in
      λ i. (ap (positions_of nodes) e ∙ flat 0 f (forest-hangs nodes f h) h.below) i ++ beside_positions (count i)

-- as the code reads them
pub flat-read : (nodes now : List Node) (names ns : List ℕ) (found : List Position) (f : Forest)
    → now ≡ nodes → ns ≡ names → IsForestOf nodes f → names ≡ all_numbers f
    → found ≡ positions_of now ns ++ beside_positions (length (children_of now 0)) → found ≡ forest_positions nodes f
flat-read nodes now names ns found f same ns_are h names_are found_is =
    found_is ∙ (λ i. positions_of (same i) (ns_are i) ++ beside_positions (length (children_of (same i) 0)))
    ∙ flat-forest nodes f names h names_are

-- one node more
pub position-more : (nodes : List Node) (names : List ℕ) (n v count : ℕ) (before one two three : List Position)
    → n < length names → get_or names n 0 ≡ v → count ≡ length (children_of nodes v) → before ≡ positions_of nodes (take n names)
    → one ≡ before ++ beside_positions count → two ≡ one ++ Hold (node_at nodes v).out ∷ []
    → three ≡ two ++ at_task (task_of_node (node_at nodes v)) ∷ []
    → three ≡ positions_of nodes (take (n + 1) names)
position-more nodes names n v count before one two three lt e count_is b h k l =
    let x : List Position = Hold (node_at nodes v).out ∷ [] in
    let y : List Position = at_task (task_of_node (node_at nodes v)) ∷ [] in
    let side : List Position = beside_positions (length (children_of nodes v)) in
    let all : List Position = positions_of nodes (take n names) in
    let more : take (n + 1) names ≡ take n names ++ v ∷ [] = take_more names n 0 lt ∙ ap (λ (z : ℕ). take n names ++ z ∷ []) e in
    l ∙ ap (λ (z : List Position). z ++ y) (k ∙ ap (λ (z : List Position). z ++ x) (h ∙ (λ i. b i ++ beside_positions (count_is i))))
    ∙ append_assoc (all ++ side) x y
    ∙ append_assoc all side (x ++ y)
    ∙ ap (λ (z : List Position). all ++ z) (sym (append-nil (side ++ own_positions nodes v)))
    ∙ sym (positions-append nodes (take n names) (v ∷ []))
    ∙ sym (ap (positions_of nodes) more)
