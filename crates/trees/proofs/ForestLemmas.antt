-- The nodes of a tree form one forest, and each of them stands in it once.
use Rattle.std.proofs.Common.{◌≡◌, ◌≢◌, ℕ, zero, suc, ◌+◌, ◌-◌, ◌<◌, ◌≤◌, ◌⊎◌, inl, inr, eqb, eq-eqb, List}
use Rattle.std.proofs.Common.{[], ◌∷◌, ◌++◌, length, IsPermutation, refl, sym, ap, subst, ◌∙◌, arith}
use Rattle.std.specs.List.{range_with_len, All, AllByRecursion}
use Rattle.std.proofs.lemmas.List.Elements.{All-nil, All-cons, All-append}
use Rattle.std.proofs.lemmas.List.FromFn.{length-range_with_len}
use Rattle.std.proofs.lemmas.List.Sorted.{length_permutation}
use Rattle.std.proofs.lemmas.Bool.{cases_eq, ne_eqb, eqb-true}
use Rattle.trees.specs.declared.node.Node.{Node}
use Rattle.trees.specs.Tree.{IsNode, IsTree, parent_of_node, ancestor}
use Rattle.trees.specs.Forest.{Forest, no_trees, tree, roots_of, all_numbers, children_of, HasChildren, IsForestOf}
use Rattle.trees.proofs.AscentLemmas.{ancestor-one, ancestor-none, ancestor-add}
use Rattle.trees.proofs.CountLemmas.{bit, times, bit-same, bit-other, times-cons, times-append, times-filter}
use Rattle.trees.proofs.CountLemmas.{times-filter_none, times-range, each-filter_range, permutation-range}

-- a node whose parent is p
abbrev pub IsChild : List Node → ℕ → ℕ → Type 0
IsChild nodes p c = IsNode nodes c × (parent_of_node nodes c ≡ p)

module _ (nodes : List Node) where
  -- ---- the children of a node

  pub children-are : (p : ℕ) → AllByRecursion (IsChild nodes p) (children_of nodes p)
  children-are p = each-filter_range (IsChild nodes p) (λ v. eqb (parent_of_node nodes v) p) 1 (length nodes)
      (λ v low high passes. ((low, omega (arith, high)), eqb-true (parent_of_node nodes v) p passes))

  pub times-children : (p v : ℕ) → IsNode nodes v → times (children_of nodes p) v ≡ bit p (parent_of_node nodes v)
  times-children p v node = elim (cases_eq (parent_of_node nodes v) p) [
    | inl same ↦
        times-filter (λ u. eqb (parent_of_node nodes u) p) (range_with_len 1 (length nodes)) v (eq-eqb (parent_of_node nodes v) p same)
        ∙ times-range 1 (length nodes) v node.0 (omega (arith, node.1)) ∙ sym (bit-same p (parent_of_node nodes v) (sym same))
    | inr other ↦ times-filter_none (λ u. eqb (parent_of_node nodes u) p)
        (range_with_len 1 (length nodes)) v (ne_eqb (parent_of_node nodes v) p other)
        ∙ sym (bit-other p (parent_of_node nodes v) (λ e. other (sym e)))
  ]

  -- ---- where trees hang

  -- each tree hangs below p, and so on down
  abbrev pub Hangs : ℕ → Forest → Type 0
  Hangs p no_trees = Unit {0}
  Hangs p (tree v children others) = IsChild nodes p v × Hangs v children × Hangs p others

  pub hangs : (p : ℕ) (f : Forest) → AllByRecursion (IsChild nodes p) (roots_of f) → HasChildren nodes f → Hangs p f
  hangs p no_trees each h = tt
  hangs p (tree v children others) (one, each) (is, below, beside) =
      (one, hangs v children (subst (AllByRecursion (IsChild nodes v)) (sym is) (children-are v)) below, hangs p others each beside)

  pub forest-hangs : (f : Forest) → IsForestOf nodes f → Hangs 0 f
  forest-hangs f h = hangs 0 f (subst (AllByRecursion (IsChild nodes 0)) (sym h.roots) (children-are 0)) h.below

  -- what holds of each node holds of each number of a forest
  pub numbers-are : (P : ℕ → Type 0) (p : ℕ) (f : Forest) → ((v : ℕ) → IsNode nodes v → P v) → Hangs p f → All P (all_numbers f)
  numbers-are P p no_trees each h = All-nil P
  numbers-are P p (tree v children others) each (child, below, beside) =
      All-append P (all_numbers children ++ v ∷ []) (all_numbers others)
      (All-append P (all_numbers children) (v ∷ []) (numbers-are P v children each below) (All-cons P v [] (each v child.0) (All-nil P)))
      (numbers-are P p others each beside)

  pub times-outside : (p : ℕ) (f : Forest) (v : ℕ) → Hangs p f → (v < 1) ⊎ (1 + length nodes ≤ v) → times (all_numbers f) v ≡ 0
  times-outside p no_trees v h out = refl
  times-outside p (tree u children others) v (child, below, beside) out =
      let other : u ≢ v = elim out [ inl lt ↦ (omega (arith, lt, child.0.0)) | inr le ↦ (omega (arith, le, child.0.1)) ] in
      omega (
        arith,
        times-append (all_numbers children ++ u ∷ []) (all_numbers others) v,
        times-append (all_numbers children) (u ∷ []) v,
        times-cons u [] v,
        bit-other u v other,
        times-outside u children v below out,
        times-outside p others v beside out,
      )

  -- a node stands in a forest as often as on top of it, and as often as its parent
  pub times-forest : (f : Forest) (v : ℕ) → HasChildren nodes f → IsNode nodes v
      → times (all_numbers f) v ≡ times (roots_of f) v + times (all_numbers f) (parent_of_node nodes v)
  times-forest no_trees v h node = refl
  times-forest (tree u children others) v (is, below, beside) node =
      let up = parent_of_node nodes v in
      let top : times (roots_of children) v ≡ bit u up = ap (λ (xs : List ℕ). times xs v) is ∙ times-children u v node in
      omega (
        arith,
        times-append (all_numbers children ++ u ∷ []) (all_numbers others) v,
        times-append (all_numbers children) (u ∷ []) v,
        times-cons u [] v,
        times-append (all_numbers children ++ u ∷ []) (all_numbers others) up,
        times-append (all_numbers children) (u ∷ []) up,
        times-cons u [] up,
        times-cons u (roots_of others) v,
        top,
        times-forest children v below node,
        times-forest others v beside node,
      )

  -- each node stands once
  module _ (is : IsTree nodes) (f : Forest) (h : IsForestOf nodes f) where
    once-up : (k v : ℕ) → IsNode nodes v → ancestor nodes k v ≡ 0 → times (all_numbers f) v ≡ 1
    once-up zero v node ends = absurd (omega (arith, node.0, sym (ancestor-none nodes v) ∙ ends))
    once-up (suc k) v node ends =
        let up : ℕ = parent_of_node nodes v in
        let all : times (all_numbers f) v ≡ times (roots_of f) v + times (all_numbers f) up = times-forest f v h.below node in
        let top : times (roots_of f) v ≡ bit 0 up = ap (λ (xs : List ℕ). times xs v) h.roots ∙ times-children 0 v node in
        elim (cases_eq up 0) [
          | inl none ↦
              omega (arith, all, top, bit-same 0 up (sym none), times-outside 0 f up (forest-hangs f h) (inl (omega (arith, none))))
          | inr some ↦ omega (
            arith,
            all,
            top,
            bit-other 0 up (λ e. some (sym e)),
            once-up k up (omega (arith, some), high v node) (sym (ancestor-one nodes k v) ∙ ends),
          )
        ]
      where
        high : (v : ℕ) → IsNode nodes v → parent_of_node nodes v ≤ length nodes
        high zero node = omega arith
        high (suc i) node =
            (is.each (suc i - 1) (record { parent = 0; out = 0; extra = 0; share = 0; time = 0 }) (omega (arith, node.1))).parent

    pub once : (v : ℕ) → IsNode nodes v → times (all_numbers f) v ≡ 1
    once v node = once-up (length nodes) v node (is.roots v node)

    pub forest-each : IsPermutation (all_numbers f) (range_with_len 1 (length nodes))
    forest-each = permutation-range (length nodes) 1 (all_numbers f)
        (λ v low high. once v (low, omega (arith, high))) (λ v out. times-outside 0 f v (forest-hangs f h) out)

    pub forest-length : length (all_numbers f) ≡ length nodes
    forest-length = omega (
      arith,
      length_permutation (all_numbers f) (range_with_len 1 (length nodes)) forest-each,
      length-range_with_len 1 (length nodes),
    )

  -- ---- there is one

  trees_with : (ℕ → Forest) → List ℕ → Forest
  trees_with below [] = no_trees
  trees_with below (v ∷ vs) = tree v (below v) (trees_with below vs)

  -- the trees of these nodes, down to k levels
  trees_to : ℕ → List ℕ → Forest
  trees_to zero vs = no_trees
  trees_to (suc k) vs = trees_with (λ v. trees_to k (children_of nodes v)) vs

  roots-with : (below : ℕ → Forest) (vs : List ℕ) → roots_of (trees_with below vs) ≡ vs
  unfolding trees_with
  roots-with below [] = refl
  roots-with below (v ∷ vs) = ap (λ (xs : List ℕ). v ∷ xs) (roots-with below vs)

  -- below a node stand the trees of its children
  record IsBelow (f : Forest) (v : ℕ) : Type 0 where
    roots : roots_of f ≡ children_of nodes v
    below : HasChildren nodes f

  children-with : (below : ℕ → Forest) (vs : List ℕ)
      → AllByRecursion (λ v. IsBelow (below v) v) vs → HasChildren nodes (trees_with below vs)
  unfolding trees_with
  children-with below [] each = tt
  children-with below (v ∷ vs) (one, each) = (one.roots, one.below, children-with below vs each)

  -- no node is k levels below p
  abbrev IsShallow : ℕ → ℕ → Type 0
  IsShallow k p = (v : ℕ) → IsNode nodes v → ancestor nodes k v ≢ p

  shallow-child : (k p c : ℕ) → IsShallow (suc k) p → parent_of_node nodes c ≡ p → IsShallow k c
  shallow-child k p c none up v node e =
      let more : k + 1 ≡ suc k = omega arith in
      none v node
      (ap (λ (j : ℕ). ancestor nodes j v) (sym more) ∙ ancestor-add nodes k 1 v ∙ ap (ancestor nodes 1) e
      ∙ ancestor-one nodes 0 c ∙ ancestor-none nodes (parent_of_node nodes c) ∙ up)

  each-below : (k p : ℕ) (vs : List ℕ) → ((c : ℕ) → IsChild nodes p c → IsBelow (trees_to k (children_of nodes c)) c)
      → AllByRecursion (IsChild nodes p) vs → AllByRecursion (λ v. IsBelow (trees_to k (children_of nodes v)) v) vs
  each-below k p [] one each = tt
  each-below k p (v ∷ vs) one (child, each) = (one v child, each-below k p vs one each)

  grown : (k p : ℕ) → IsNode nodes p → IsShallow k p → IsBelow (trees_to k (children_of nodes p)) p
  unfolding trees_to
  grown zero p node none = absurd (none p node (ancestor-none nodes p))
  grown (suc k) p node none = record {
    roots = roots-with (λ v. trees_to k (children_of nodes v)) (children_of nodes p);
    below = children-with (λ v. trees_to k (children_of nodes v)) (children_of nodes p)
        (each-below k p (children_of nodes p) (λ c child. grown k c child.0 (shallow-child k p c none child.1)) (children-are p));
  }

  pub forest-some : IsTree nodes → (f : Forest) × IsForestOf nodes f
  forest-some is =
      let n = length nodes in
      let below : ℕ → Forest = λ v. trees_to n (children_of nodes v) in (
        trees_with below (children_of nodes 0),
        record {
          roots = roots-with below (children_of nodes 0);
          below = children-with below (children_of nodes 0)
              (each-below n 0 (children_of nodes 0)
              (λ c child. grown n c child.0 (λ v node e. absurd (omega (arith, child.0.0, sym e ∙ is.roots v node)))) (children-are 0));
        },
      )

-- ---- and only one

first_or : List ℕ → ℕ → ℕ
first_or [] d = d
first_or (x ∷ xs) d = x

rest_of : List ℕ → List ℕ
rest_of [] = []
rest_of (x ∷ xs) = xs

one-forest : (nodes : List Node) (f g : Forest) → roots_of f ≡ roots_of g → HasChildren nodes f → HasChildren nodes g → f ≡ g
unfolding first_or rest_of
one-forest nodes no_trees no_trees e h k = refl
one-forest nodes no_trees (tree w ds us) e h k = absurd (omega (arith, ap length e))
one-forest nodes (tree v cs ts) no_trees e h k = absurd (omega (arith, ap length e))
one-forest nodes (tree v cs ts) (tree w ds us) e (is, below, beside) (is', below', beside') =
    let top : v ≡ w = ap (λ (xs : List ℕ). first_or xs v) e in
    let inner : cs ≡ ds = one-forest nodes cs ds (is ∙ ap (children_of nodes) top ∙ sym is') below below' in
    let outer : ts ≡ us = one-forest nodes ts us (ap rest_of e) beside beside' in
    λ i. tree (top i) (inner i) (outer i)

pub forest-one : (nodes : List Node) (f g : Forest) → IsForestOf nodes f → IsForestOf nodes g → f ≡ g
forest-one nodes f g h k = one-forest nodes f g (h.roots ∙ sym k.roots) h.below k.below
