-- The term of a forest: its positions, its tasks, and its items under the names of the nodes.
use Rattle.std.proofs.Common.{◌≡◌, ℕ, zero, suc, ◌+◌, ◌-◌, ◌<◌, ◌≤◌, cond, eqb, List, [], ◌∷◌, ◌++◌, length, get_or, map}
use Rattle.std.proofs.Common.{filter, option_map, Option, Some, None, IsPermutation, refl, sym, subst, ap, ◌∙◌, arith}
use Rattle.std.specs.List.{range_with_len, All}
use Rattle.std.proofs.lemmas.List.{append-nil, map-append, length-append, length-map, get_or_append_left, get_or-append-add}
use Rattle.std.proofs.lemmas.List.Elements.{filter-append}
use Rattle.std.proofs.Math.Seq.{get_or-append_seam}
use Rattle.std.proofs.lemmas.List.Sorted.{IsPermutation-map}
use Rattle.std.proofs.lemmas.Bool.{ne_eqb}
use Rattle.mp_system.specs.declared.system.Item.{Item}
use Rattle.mp_system.specs.declared.system.Task.{Task}
use Rattle.mp_system.specs.Renaming.{name_in, renamed, is_solid, IsRenamed}
use Rattle.sp_terms.specs.Term.{Term, hold, series, par, Parts, no_parts, part, count}
use Rattle.sp_terms.specs.SystemOfTerm.{task_count, task_count_of_parts, tasks_of_term, tasks_of_parts}
use Rattle.sp_terms.specs.SystemOfTerm.{own_number, items_of_term, items_of_parts, system_of_term}
use Rattle.sp_terms.specs.Postfix.{postfix, all_postfix}
use Rattle.trees.specs.declared.node.Node.{Node}
use Rattle.trees.specs.Tree.{IsTree, node_at, task_of_node, item_of_node, items_from, system_of_nodes}
use Rattle.trees.specs.Forest.{Forest, no_trees, tree, roots_of, all_numbers, IsForestOf}
use Rattle.trees.specs.TreeTerm.{beside_positions, own_positions, tree_positions, forest_positions}
use Rattle.trees.proofs.AscentLemmas.{parent_is}
use Rattle.trees.proofs.ForestLemmas.{Hangs, forest-hangs, forest-each, once, numbers-are}
use Rattle.trees.proofs.RangeLemmas.{items-all}

-- terms side by side
abbrev pub side : Parts → Term
side no_parts = hold 0
side (part t no_parts) = t
side (part t (part u us)) = par (part t (part u us))

-- the term of each tree
abbrev pub tree_parts : List Node → Forest → Parts
tree_parts nodes no_trees = no_parts
tree_parts nodes (tree v children others) =
    part (series (side (tree_parts nodes children)) (task_of_node (node_at nodes v)) (hold (node_at nodes v).out)) (tree_parts nodes others)

abbrev pub forest_term : List Node → Forest → Term
forest_term nodes f = side (tree_parts nodes f)

-- ---- the positions

side-postfix : (ts : Parts) → postfix (side ts) ≡ all_postfix ts ++ beside_positions (count ts)
side-postfix no_parts = refl
side-postfix (part t no_parts) = sym (append-nil (postfix t)) ∙ sym (append-nil (postfix t ++ []))
side-postfix (part t (part u us)) = refl

count-parts : (nodes : List Node) (f : Forest) → count (tree_parts nodes f) ≡ length (roots_of f)
count-parts nodes no_trees = refl
count-parts nodes (tree v cs ts) = ap suc (count-parts nodes ts)

all-positions : (nodes : List Node) (f : Forest) → all_postfix (tree_parts nodes f) ≡ tree_positions nodes f
all-positions nodes no_trees = refl
all-positions nodes (tree v cs ts) =
    λ i. ((side-postfix (tree_parts nodes cs) ∙ (λ j. all-positions nodes cs j ++ beside_positions (count-parts nodes cs j))) i
    ++ own_positions nodes v)
    ++ all-positions nodes ts i

pub term-positions : (nodes : List Node) (f : Forest) → postfix (forest_term nodes f) ≡ forest_positions nodes f
term-positions nodes f = side-postfix (tree_parts nodes f) ∙ (λ i. all-positions nodes f i ++ beside_positions (count-parts nodes f i))

-- ---- the tasks

side-count : (ts : Parts) → task_count (side ts) ≡ task_count_of_parts ts
side-count no_parts = refl
side-count (part t no_parts) = omega arith
side-count (part t (part u us)) = refl

side-tasks : (ts : Parts) → tasks_of_term (side ts) ≡ tasks_of_parts ts
side-tasks no_parts = refl
side-tasks (part t no_parts) = sym (append-nil (tasks_of_term t))
side-tasks (part t (part u us)) = refl

side-items : (base : ℕ) (to : Option ℕ) (ts : Parts)
    → filter is_solid (items_of_term base None to (side ts)) ≡ filter is_solid (items_of_parts base None to ts)
side-items base to no_parts = refl
side-items base to (part t no_parts) = ap (filter is_solid) (sym (append-nil (items_of_term base None to t)))
side-items base to (part t (part u us)) = refl

-- what is solid, under new names
abbrev solid : (ℕ → ℕ) → List Item → List Item
solid name items = map (renamed name) (filter is_solid items)

solid-append : (name : ℕ → ℕ) (xs ys : List Item) → solid name (xs ++ ys) ≡ solid name xs ++ solid name ys
solid-append name xs ys =
    ap (map (renamed name)) (filter-append is_solid xs ys) ∙ map-append (renamed name) (filter is_solid xs) (filter is_solid ys)

module _ (nodes : List Node) where
  abbrev task_at_node : ℕ → Task
  task_at_node v = task_of_node (node_at nodes v)

  parts-count : (f : Forest) → task_count_of_parts (tree_parts nodes f) ≡ length (all_numbers f)
  parts-count no_trees = refl
  parts-count (tree v cs ts) =
      omega (
        arith,
        length-append (all_numbers cs ++ v ∷ []) (all_numbers ts),
        length-append (all_numbers cs) (v ∷ []),
        side-count (tree_parts nodes cs),
        parts-count cs,
        parts-count ts,
      )

  parts-tasks : (f : Forest) → tasks_of_parts (tree_parts nodes f) ≡ map task_at_node (all_numbers f)
  parts-tasks no_trees = refl
  parts-tasks (tree v cs ts) =
      (λ i. ((side-tasks (tree_parts nodes cs) ∙ parts-tasks cs) i ++ task_at_node v ∷ []) ++ parts-tasks ts i)
      ∙ (λ i. sym (map-append task_at_node (all_numbers cs) (v ∷ [])) i ++ map task_at_node (all_numbers ts))
      ∙ sym (map-append task_at_node (all_numbers cs ++ v ∷ []) (all_numbers ts))

  -- ---- the items

  -- those of trees whose blocks this task takes
  abbrev below : Option ℕ → Forest → List Item
  below to no_trees = []
  below to (tree v cs ts) = (below (Some v) cs ++ record { size = (node_at nodes v).out; from = Some v; to = to } ∷ []) ++ below to ts

  -- the numbers from `base` on are named as the forest's nodes
  abbrev AreNames : (ℕ → ℕ) → ℕ → List ℕ → Type 0
  AreNames name base names = (k : ℕ) → k < length names → name (base + k) ≡ get_or names k 0

  names-left : (name : ℕ → ℕ) (base : ℕ) (xs ys : List ℕ) → AreNames name base (xs ++ ys) → AreNames name base xs
  names-left name base xs ys h k lt = h k (omega (arith, lt, length-append xs ys)) ∙ get_or_append_left xs ys 0 k lt

  names-right : (name : ℕ → ℕ) (base n : ℕ) (xs ys : List ℕ) → n ≡ length xs → AreNames name base (xs ++ ys) → AreNames name (base + n) ys
  names-right name base n xs ys len h k lt =
      (let e : base + n + k ≡ base + (length xs + k) = omega (arith, len) in ap name e)
      ∙ h (length xs + k) (omega (arith, lt, length-append xs ys)) ∙ get_or-append-add xs ys k 0

  parts-items : (name : ℕ → ℕ) (base : ℕ) (to : Option ℕ) (f : Forest) → AreNames name base (all_numbers f)
      → solid name (items_of_parts base None to (tree_parts nodes f)) ≡ below (option_map name to) f
  parts-items name base to no_trees h = refl
  parts-items name base to (tree v cs ts) h =
      let a : Term = side (tree_parts nodes cs) in
      let own : ℕ = own_number base a (hold (node_at nodes v).out) in
      let counted : task_count a ≡ length (all_numbers cs) = side-count (tree_parts nodes cs) ∙ parts-count cs in
      let inner = names-left name base (all_numbers cs ++ v ∷ []) (all_numbers ts) h in
      let place : own ≡ base + length (all_numbers cs) = omega (arith, counted) in
      let last : name own ≡ v = ap name place ∙ inner (length (all_numbers cs)) (omega (arith, length-append (all_numbers cs) (v ∷ [])))
      ∙ get_or-append_seam (all_numbers cs) v [] 0 in
      let all : suc (task_count a + 0) ≡ length (all_numbers cs ++ v ∷ []) =
      omega (arith, counted, length-append (all_numbers cs) (v ∷ [])) in
      let block : Item = record { size = (node_at nodes v).out; from = Some own; to = to } in
      solid-append name (items_of_term base None (Some own) a ++ block ∷ [])
      (items_of_parts (base + suc (task_count a + 0)) None to (tree_parts nodes ts))
      ∙ (λ i. (solid-append name (items_of_term base None (Some own) a) (block ∷ [])
      ∙ (λ j. (ap (map (renamed name)) (side-items base (Some own) (tree_parts nodes cs))
      ∙ parts-items name base (Some own) cs (names-left name base (all_numbers cs) (v ∷ []) inner)
      ∙ ap (λ (z : ℕ). below (Some z) cs) last) j ++ record {
        size = (node_at nodes v).out;
        from = Some (last j);
        to = option_map name to;
      } ∷ [])) i
      ++ parts-items name (base + suc (task_count a + 0)) to ts
      (names-right name base (suc (task_count a + 0)) (all_numbers cs ++ v ∷ []) (all_numbers ts) all h) i)

  -- the one that takes the block of a child of p
  abbrev taker : ℕ → Option ℕ
  taker p = cond (eqb p 0) None (Some p)

  abbrev item_of_number : ℕ → Item
  item_of_number v = item_of_node v (node_at nodes v)

  taker-node : (v : ℕ) → 1 ≤ v → taker v ≡ Some v
  taker-node v some = rw (ne_eqb v 0 (omega (arith, some))) refl

  below-items : (p : ℕ) (f : Forest) → Hangs nodes p f → below (taker p) f ≡ map item_of_number (all_numbers f)
  below-items p no_trees h = refl
  below-items p (tree v cs ts) (child, inner, beside) =
      let up : p ≡ (node_at nodes v).parent = sym child.1 ∙ sym (parent_is nodes v (omega (arith, child.0.0))) in
      (λ i. ((ap (λ (z : Option ℕ). below z cs) (sym (taker-node v child.0.0)) ∙ below-items v cs inner) i
      ++ record { size = (node_at nodes v).out; from = Some v; to = taker (up i) } ∷ []) ++ below-items p ts beside i)
      ∙ (λ i. sym (map-append item_of_number (all_numbers cs) (v ∷ [])) i ++ map item_of_number (all_numbers ts))
      ∙ sym (map-append item_of_number (all_numbers cs ++ v ∷ []) (all_numbers ts))

all-solid : (v : ℕ) (nodes : List Node) → filter is_solid (items_from v nodes) ≡ items_from v nodes
all-solid v [] = refl
all-solid v (n ∷ ns) = ap (λ (xs : List Item). item_of_node v n ∷ xs) (all-solid (v + 1) ns)

get_or-map_default : {A B : Type 0} (f : A → B) (xs : List A) (k : ℕ) (d : A) → get_or (map f xs) k (f d) ≡ f (get_or xs k d)
get_or-map_default f [] k d = refl
get_or-map_default f (x ∷ xs) zero d = refl
get_or-map_default f (x ∷ xs) (suc k) d = get_or-map_default f xs k d

map-same : {A B : Type 0} (f g : A → B) (xs : List A) → ((x : A) → f x ≡ g x) → map f xs ≡ map g xs
map-same f g [] h = refl
map-same f g (x ∷ xs) h = λ i. h x i ∷ map-same f g xs h i

-- the system of the term is the tree's, under the names of the nodes
pub term-renamed : (nodes : List Node) (f : Forest) → IsTree nodes → IsForestOf nodes f
    → IsRenamed (all_numbers f) (system_of_term (forest_term nodes f)) (system_of_nodes nodes)
term-renamed nodes f is h =
    let names = all_numbers f in
    let len : length (map task_of_node nodes) ≡ length nodes = length-map nodes task_of_node in
    let order : AreNames nodes (name_in names) 1 names =
    (λ k lt. rw (ne_eqb (1 + k) 0 (omega arith)) (let e : (1 + k) - 1 ≡ k = omega arith in ap (λ (n : ℕ). get_or names n 0) e)) in
    let items : solid (name_in names) (items_of_term 1 None None (forest_term nodes f)) ≡ map (item_of_number nodes) names =
    ap (map (renamed (name_in names))) (side-items 1 None (tree_parts nodes f))
    ∙ parts-items nodes (name_in names) 1 None f order ∙ below-items nodes 0 f (forest-hangs nodes f h) in
    let all : IsPermutation (map (item_of_number nodes) names) (items_from 1 nodes) =
    subst (λ (z : List Item). IsPermutation (map (item_of_number nodes) names) z) (items-all nodes)
    (IsPermutation-map (item_of_number nodes) names (range_with_len 1 (length nodes)) (forest-each nodes is f h)) in
    record {
      once = λ v task. once nodes is f h v (task.0, omega (arith, task.1, len));
      within = within;
      tasks = side-tasks (tree_parts nodes f) ∙ parts-tasks nodes f
          ∙ map-same (task_at_node nodes) _ names
          (λ v. sym (get_or-map_default task_of_node nodes (v - 1) (record { parent = 0; out = 0; extra = 0; share = 0; time = 0 })));
      items = subst (λ (z : List Item). IsPermutation z (filter is_solid (items_from 1 nodes))) (sym items)
          (subst (λ (z : List Item). IsPermutation (map (item_of_number nodes) names) z) (sym (all-solid 1 nodes)) all);
    }
  where
    within : All (λ v. (1 ≤ v) × (v ≤ length (map task_of_node nodes))) (all_numbers f)
    within = numbers-are nodes (λ v. (1 ≤ v) × (v ≤ length (map task_of_node nodes))) 0 f
        (λ v node. (node.0, omega (arith, node.1, length-map nodes task_of_node))) (forest-hangs nodes f h)
