-- The term of a tree is within the limits of terms.
use Rattle.std.proofs.Common.{◌≡◌, ℕ, zero, suc, ◌-◌, ◌*◌, ◌≤◌, List, [], ◌∷◌, ◌++◌, length, refl, sym, subst, ap, ◌∙◌, arith, append_assoc}
use Rattle.std.specs.List.{All, sum_by, range_with_len}
use Rattle.std.proofs.lemmas.List.{length-append}
use Rattle.std.proofs.lemmas.List.Elements.{All-nil, All-cons, All-append}
use Rattle.std.proofs.lemmas.List.Sums.{sum_by-append, sum_by-cons}
use Rattle.std.proofs.lemmas.List.Sorted.{sum_by-IsPermutation}
use Rattle.mp_system.specs.Renaming.{IsRenamed}
use Rattle.sp_terms.specs.declared.position.Position.{Position}
use Rattle.sp_terms.specs.declared.position.Position.TheVariants.{Hold, Par}
use Rattle.sp_terms.specs.Term.{Term, Parts, no_parts, part, backward, first_memory, first_memory_of_parts, IsAllowed, AreAllowed}
use Rattle.sp_terms.specs.SystemOfTerm.{system_of_term}
use Rattle.sp_terms.specs.Postfix.{Denotes, at_task, postfix}
use Rattle.sp_terms.specs.Values.{stack_from, last_term, term_of, added_size, added_tasks, IsWithinLimits, Leaves, IsTerms}
use Rattle.trees.specs.declared.node.Node.{Node}
use Rattle.trees.specs.Tree.{IsNode, IsTree, IsNodeWithin, node_at, node_size, task_of_node, children_out, system_of_nodes}
use Rattle.trees.specs.Forest.{Forest, no_trees, tree, roots_of, all_numbers, HasChildren, IsForestOf}
use Rattle.trees.specs.TreeTerm.{beside_positions, own_positions, tree_positions, forest_positions}
use Rattle.trees.proofs.ForestLemmas.{Hangs, forest-hangs, forest-each, forest-length}
use Rattle.trees.proofs.RangeLemmas.{sizes-all, outs-all}
use Rattle.trees.proofs.TermLemmas.{side, tree_parts, forest_term, term-positions, term-renamed}

side-final : (ts : Parts) → first_memory backward (side ts) ≡ first_memory_of_parts backward ts
side-final no_parts = refl
side-final (part t no_parts) = omega arith
side-final (part t (part u us)) = refl

side-allowed : (ts : Parts) → AreAllowed ts → IsAllowed (side ts)
side-allowed no_parts h = tt
side-allowed (part t no_parts) h = h.0
side-allowed (part t (part u us)) h = (omega arith, h)

-- ---- what stands side by side

one-within : (p : Position) → IsWithinLimits p → All IsWithinLimits (p ∷ [])
one-within p h = All-cons IsWithinLimits p [] h (All-nil IsWithinLimits)

beside-within : (n : ℕ) → All IsWithinLimits (beside_positions n)
beside-within zero = one-within (Hold 0) (omega arith)
beside-within (suc zero) = All-nil IsWithinLimits
beside-within (suc (suc n)) = one-within (Par (suc (suc n))) (omega arith)

beside-sizes : (n : ℕ) → sum_by added_size (beside_positions n) ≡ 0
beside-sizes zero = refl
beside-sizes (suc zero) = refl
beside-sizes (suc (suc n)) = refl

beside-tasks : (n : ℕ) → sum_by added_tasks (beside_positions n) ≡ 0
beside-tasks zero = refl
beside-tasks (suc zero) = refl
beside-tasks (suc (suc n)) = refl

beside-length : (n : ℕ) → length (beside_positions n) ≤ 1
beside-length zero = omega arith
beside-length (suc zero) = omega arith
beside-length (suc (suc n)) = omega arith

module _ (nodes : List Node) (is : IsTree nodes) where
  -- these positions are within the limits, and their sizes are those of the nodes
  record AreSums (ps : List Position) (vs : List ℕ) : Type 0 where
    within : All IsWithinLimits ps
    sizes : sum_by added_size ps ≡ sum_by (λ v. node_size (node_at nodes v)) vs
    tasks : sum_by added_tasks ps ≡ length vs
    few : length ps ≤ 3 * length vs

  sums-append : (ps qs : List Position) (vs us : List ℕ) → AreSums ps vs → AreSums qs us → AreSums (ps ++ qs) (vs ++ us)
  sums-append ps qs vs us h k = record {
    within = All-append IsWithinLimits ps qs h.within k.within;
    sizes = omega (arith, sum_by-append added_size ps qs, sum_by-append (λ v. node_size (node_at nodes v)) vs us, h.sizes, k.sizes);
    tasks = omega (arith, sum_by-append added_tasks ps qs, length-append vs us, h.tasks, k.tasks);
    few = omega (arith, length-append ps qs, length-append vs us, h.few, k.few);
  }

  node-within : (v : ℕ) → IsNode nodes v → IsNodeWithin nodes (node_at nodes v)
  node-within v node = is.each (v - 1) (record { parent = 0; out = 0; extra = 0; share = 0; time = 0 }) (omega (arith, node.0, node.1))

  own-sums : (n v : ℕ) → IsNode nodes v → AreSums (beside_positions n ++ own_positions nodes v) (v ∷ [])
  own-sums n v node =
      let b = beside_positions n in
      let x = Hold (node_at nodes v).out in
      let y = at_task (task_of_node (node_at nodes v)) in
      let w = node-within v node in
      record {
        within = All-append IsWithinLimits b (x ∷ (y ∷ [])) (beside-within n)
            (All-cons IsWithinLimits x (y ∷ []) w.out (one-within y (w.extra, w.time.0, w.time.1)));
        sizes = omega (
          arith,
          sum_by-append added_size b (x ∷ (y ∷ [])),
          beside-sizes n,
          sum_by-cons added_size x (y ∷ []),
          sum_by-cons added_size y [],
          sum_by-cons (λ u. node_size (node_at nodes u)) v [],
        );
        tasks = omega (
          arith,
          sum_by-append added_tasks b (x ∷ (y ∷ [])),
          beside-tasks n,
          sum_by-cons added_tasks x (y ∷ []),
          sum_by-cons added_tasks y [],
        );
        few = omega (arith, length-append b (x ∷ (y ∷ [])), beside-length n);
      }

  tree-sums : (p : ℕ) (f : Forest) → Hangs nodes p f → AreSums (tree_positions nodes f) (all_numbers f)
  tree-sums p no_trees h = record { within = All-nil IsWithinLimits; sizes = refl; tasks = refl; few = omega arith }
  tree-sums p (tree v cs ts) (child, below, beside) =
      let b = beside_positions (length (roots_of cs)) in
      let inner : AreSums ((tree_positions nodes cs ++ b) ++ own_positions nodes v) (all_numbers cs ++ v ∷ []) =
      subst (λ (z : List Position). AreSums z (all_numbers cs ++ v ∷ []))
      (sym (append_assoc (tree_positions nodes cs) b (own_positions nodes v)))
      (sums-append (tree_positions nodes cs) (b ++ own_positions nodes v) (all_numbers cs)
      (v ∷ []) (tree-sums v cs below) (own-sums (length (roots_of cs)) v child.0)) in
      sums-append ((tree_positions nodes cs ++ b) ++ own_positions nodes v) (tree_positions nodes ts)
      (all_numbers cs ++ v ∷ []) (all_numbers ts) inner (tree-sums p ts beside)

  -- ---- shares

  parts-final : (f : Forest) → first_memory_of_parts backward (tree_parts nodes f) ≡ sum_by (λ v. (node_at nodes v).out) (roots_of f)
  parts-final no_trees = refl
  parts-final (tree v cs ts) = omega (arith, sum_by-cons (λ u. (node_at nodes u).out) v (roots_of ts), parts-final ts)

  parts-allowed : (p : ℕ) (f : Forest) → Hangs nodes p f → HasChildren nodes f → AreAllowed (tree_parts nodes f)
  parts-allowed p no_trees h k = tt
  parts-allowed p (tree v cs ts) (child, below, beside) (roots, below', beside') =
      let share = is.shares v child.0 in
      let left : first_memory backward (side (tree_parts nodes cs)) ≡ children_out nodes v =
      side-final (tree_parts nodes cs) ∙ parts-final cs ∙ ap (sum_by (λ u. (node_at nodes u).out)) roots ∙ outs-all nodes v in (
        (omega (arith, share.0, left), share.1, side-allowed (tree_parts nodes cs) (parts-allowed v cs below below'), tt),
        parts-allowed p ts beside beside',
      )

  -- ---- the whole

  module _ (f : Forest) (h : IsForestOf nodes f) (form : (t : Term) → Denotes (postfix t) t) where
    term-denotes : Denotes (forest_positions nodes f) (forest_term nodes f)
    term-denotes = subst (λ (ps : List Position). Denotes ps (forest_term nodes f)) (term-positions nodes f) (form (forest_term nodes f))

    pub term-same : term_of (forest_positions nodes f) ≡ forest_term nodes f
    term-same = ap (λ o. last_term (stack_from o)) term-denotes

    numbers-size : sum_by (λ v. node_size (node_at nodes v)) (all_numbers f) ≡ sum_by node_size nodes
    numbers-size = sym (sum_by-IsPermutation (λ v. node_size (node_at nodes v))
        (all_numbers f) (range_with_len 1 (length nodes)) (forest-each nodes is f h))
        ∙ sizes-all nodes

    term-leaves : Leaves (forest_positions nodes f) (forest_term nodes f ∷ [])
    term-leaves =
        let a = tree_positions nodes f in
        let b = beside_positions (length (roots_of f)) in
        let s = tree-sums 0 f (forest-hangs nodes f h) in
        record {
          is = term-denotes;
          allowed = (side-allowed (tree_parts nodes f) (parts-allowed 0 f (forest-hangs nodes f h) h.below), tt);
          within = All-append IsWithinLimits a b s.within (beside-within (length (roots_of f)));
          few = omega (arith, length-append a b, s.few, forest-length nodes is f h, is.few, beside-length (length (roots_of f)));
          few_tasks = omega
              (arith, sum_by-append added_tasks a b, s.tasks, forest-length nodes is f h, is.few, beside-tasks (length (roots_of f)));
          total = omega (arith, sum_by-append added_size a b, s.sizes, numbers-size, is.total, beside-sizes (length (roots_of f)));
        }

pub tree-terms : (nodes : List Node) (f : Forest) → IsTree nodes → IsForestOf nodes f
    → ((t : Term) → Denotes (postfix t) t) → IsTerms (forest_positions nodes f)
tree-terms nodes f is h form =
    subst (λ (t : Term). Leaves (forest_positions nodes f) (t ∷ [])) (sym (term-same nodes is f h form)) (term-leaves nodes is f h form)

pub tree-renamed : (nodes : List Node) (f : Forest) → IsTree nodes → IsForestOf nodes f → ((t : Term) → Denotes (postfix t) t)
    → IsRenamed (all_numbers f) (system_of_term (term_of (forest_positions nodes f))) (system_of_nodes nodes)
tree-renamed nodes f is h form = subst (λ (t : Term). IsRenamed (all_numbers f) (system_of_term t) (system_of_nodes nodes))
    (sym (term-same nodes is f h form)) (term-renamed nodes f is h)
