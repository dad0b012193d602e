-- The system of a tree is within the limits.
use Rattle.std.proofs.Common.{◌≡◌, ◌≢◌, ℕ, zero, suc, ◌+◌, ◌-◌, ◌<◌, ◌≤◌, Bool, true, false, eqb, eq-eqb}
use Rattle.std.proofs.Common.{List, [], ◌∷◌, length, get_or, map, refl, sym, ap, ◌∙◌, arith}
use Rattle.std.specs.List.{sum_by, All}
use Rattle.std.specs.Option.{ForSome}
use Rattle.std.proofs.lemmas.List.{length-map, get_or-map}
use Rattle.std.proofs.lemmas.List.Sums.{sum_by-cons}
use Rattle.std.proofs.lemmas.Bool.{ne_eqb, eqb-true}
use Rattle.mp_system.specs.declared.system.Item.{Item}
use Rattle.mp_system.specs.System.{IsTask, IsSystem, IsTaskWithin, IsItemWithin, task_at, is_input, is_output}
use Rattle.mp_system.specs.System.{size_if, size_where, inputs_of, outputs_of, need_of, extra_size, item_size}
use Rattle.trees.specs.declared.node.Node.{Node}
use Rattle.trees.specs.Tree.{IsNode, IsTree, node_at, node_size, out_below, children_out}
use Rattle.trees.specs.Tree.{task_of_node, item_of_node, items_from, system_of_nodes}

pub length-items_from : (v : ℕ) (nodes : List Node) → length (items_from v nodes) ≡ length nodes
length-items_from v [] = refl
length-items_from v (n ∷ ns) = ap suc (length-items_from (v + 1) ns)

pub get_or-items_from : (v : ℕ) (nodes : List Node) (i : ℕ) (d : Item) (e : Node)
    → i < length nodes → get_or (items_from v nodes) i d ≡ item_of_node (v + i) (get_or nodes i e)
get_or-items_from v [] i d e lt = absurd (omega arith)
get_or-items_from v (n ∷ ns) zero d e lt = let same : v ≡ v + 0 = omega arith in ap (λ (w : ℕ). item_of_node w n) same
get_or-items_from v (n ∷ ns) (suc i) d e lt =
    let same : v + 1 + i ≡ v + suc i = omega arith in
    get_or-items_from (v + 1) ns i d e (omega arith) ∙ ap (λ (w : ℕ). item_of_node w (get_or ns i e)) same

-- ---- sums

sizes-split : (v : ℕ) (nodes : List Node)
    → sum_by extra_size (map task_of_node nodes) + sum_by item_size (items_from v nodes) ≡ sum_by node_size nodes
sizes-split v [] = refl
sizes-split v (n ∷ ns) =
    omega (
      arith,
      sum_by-cons extra_size (task_of_node n) (map task_of_node ns),
      sum_by-cons item_size (item_of_node v n) (items_from (v + 1) ns),
      sum_by-cons node_size n ns,
      sizes-split (v + 1) ns,
    )

input-size : (v u : ℕ) (n : Node) → 1 ≤ v → size_if (is_input v) (item_of_node u n) ≡ out_below v n
input-size v u n some = go (eqb n.parent 0) refl where
  go : (b : Bool) → eqb n.parent 0 ≡ b → size_if (is_input v) (item_of_node u n) ≡ out_below v n
  go true e = (
      let zero_is : n.parent ≡ 0 = eqb-true _ _ e in
      let other : eqb n.parent v ≡ false = ne_eqb n.parent v (omega arith) in
      rw (e, other) refl
      )
  go false e = rw e refl

inputs-items_from : (v u : ℕ) (nodes : List Node) → 1 ≤ v → size_where (is_input v) (items_from u nodes) ≡ children_out nodes v
inputs-items_from v u [] some = refl
inputs-items_from v u (n ∷ ns) some =
    omega (
      arith,
      sum_by-cons (size_if (is_input v)) (item_of_node u n) (items_from (u + 1) ns),
      sum_by-cons (out_below v) n ns,
      input-size v u n some,
      inputs-items_from v (u + 1) ns some,
    )

-- no node past the v-th produces what the v-th does
outputs-past : (v u : ℕ) (nodes : List Node) → v < u → size_where (is_output v) (items_from u nodes) ≡ 0
outputs-past v u [] lt = refl
outputs-past v u (n ∷ ns) lt =
    let none : size_if (is_output v) (item_of_node u n) ≡ 0 = rw (ne_eqb u v (omega arith)) refl in
    omega (
      arith,
      sum_by-cons (size_if (is_output v)) (item_of_node u n) (items_from (u + 1) ns),
      none,
      outputs-past v (u + 1) ns (omega arith),
    )

outputs-items_from : (u i : ℕ) (nodes : List Node) (e : Node) → i < length nodes
    → size_where (is_output (u + i)) (items_from u nodes) ≡ (get_or nodes i e).out
outputs-items_from u i [] e lt = absurd (omega arith)
outputs-items_from u zero (n ∷ ns) e lt =
    let own : size_if (is_output (u + 0)) (item_of_node u n) ≡ n.out = rw (eq-eqb u (u + 0) (omega arith)) refl in
    omega (
      arith,
      sum_by-cons (size_if (is_output (u + 0))) (item_of_node u n) (items_from (u + 1) ns),
      own,
      outputs-past (u + 0) (u + 1) ns (omega arith),
    )
outputs-items_from u (suc i) (n ∷ ns) e lt =
    let at : u + 1 + i ≡ u + suc i = omega arith in
    let none : size_if (is_output (u + suc i)) (item_of_node u n) ≡ 0 = rw (ne_eqb u (u + suc i) (omega arith)) refl in
    omega (
      arith,
      sum_by-cons (size_if (is_output (u + suc i))) (item_of_node u n) (items_from (u + 1) ns),
      none,
      ap (λ (w : ℕ). size_where (is_output w) (items_from (u + 1) ns)) at,
      outputs-items_from (u + 1) i ns e (omega arith),
    )

-- ---- what a task consumes, produces and needs

pub tree-inputs : (nodes : List Node) (v : ℕ) → IsNode nodes v → inputs_of (system_of_nodes nodes) v ≡ children_out nodes v
tree-inputs nodes v node = inputs-items_from v 1 nodes node.0

pub tree-outputs : (nodes : List Node) (v : ℕ) → IsNode nodes v → outputs_of (system_of_nodes nodes) v ≡ (node_at nodes v).out
tree-outputs nodes v node =
    let e : Node = record { parent = 0; out = 0; extra = 0; share = 0; time = 0 } in
    let place : 1 + (v - 1) ≡ v = omega (arith, node.0) in
    ap (λ (w : ℕ). size_where (is_output w) (items_from 1 nodes)) (sym place)
    ∙ outputs-items_from 1 (v - 1) nodes e (omega (arith, node.0, node.1))

tree-task : (nodes : List Node) (v : ℕ) → IsNode nodes v → task_at (system_of_nodes nodes) v ≡ task_of_node (node_at nodes v)
tree-task nodes v node =
    let e : Node = record { parent = 0; out = 0; extra = 0; share = 0; time = 0 } in
    get_or-map task_of_node nodes (v - 1) e _ (omega (arith, node.0, node.1))

pub tree-need : (nodes : List Node) (v : ℕ) → IsNode nodes v
    → need_of (system_of_nodes nodes) v ≡ (node_at nodes v).extra + (node_at nodes v).out - (node_at nodes v).share
tree-need nodes v node = rw (tree-task nodes v node, tree-outputs nodes v node) refl

-- ---- the whole

module _ (nodes : List Node) (tree : IsTree nodes) where
  no_node : Node
  no_node = record { parent = 0; out = 0; extra = 0; share = 0; time = 0 }

  tasks_len : length (map task_of_node nodes) ≡ length nodes
  tasks_len = length-map nodes task_of_node

  tasks_within : All IsTaskWithin (map task_of_node nodes)
  tasks_within i d lt =
      let short : i < length nodes = omega (arith, tasks_len, lt) in
      let e : Node = record { parent = 0; out = 0; extra = 0; share = 0; time = 0 } in
      let within = tree.each i e short in
      rw (get_or-map task_of_node nodes i e d short) (record { extra = within.extra; time = within.time })

  consumer_within : (n : Node) → n.parent ≤ length nodes → ForSome (item_of_node 0 n).to (IsTask (system_of_nodes nodes))
  consumer_within n high = go (eqb n.parent 0) refl where
    go : (b : Bool) → eqb n.parent 0 ≡ b → ForSome (item_of_node 0 n).to (IsTask (system_of_nodes nodes))
    go true e = rw e (λ u h. absurd cc)
    go false e = rw e
        (λ u h. let is : n.parent ≡ u = cc in let some : n.parent ≢ 0 = (λ z. absurd (cc (sym e ∙ eq-eqb n.parent 0 z))) in
        (omega (arith, some), omega (arith, tasks_len)))

  items_within : All (IsItemWithin (system_of_nodes nodes)) (items_from 1 nodes)
  items_within i d lt =
      let short : i < length nodes = omega (arith, length-items_from 1 nodes, lt) in
      let e : Node = record { parent = 0; out = 0; extra = 0; share = 0; time = 0 } in
      let within = tree.each i e short in
      rw (get_or-items_from 1 nodes i d e short) (record {
        size = within.out;
        producer = λ u h. let is : 1 + i ≡ u = cc in (omega arith, omega (arith, tasks_len));
        consumer = consumer_within (get_or nodes i e) within.parent;
      })

  pub tree_system : IsSystem (record { tasks = map task_of_node nodes; items = items_from 1 nodes })
  tree_system = record {
    few_tasks = omega (arith, tasks_len, tree.few);
    few_items = omega (arith, length-items_from 1 nodes, tree.few);
    tasks = tasks_within;
    items = items_within;
    total = omega (arith, sizes-split 1 nodes, tree.total);
    shares = λ v task.
        let node : IsNode nodes v = (task.0, omega (arith, tasks_len, task.1)) in
        let share = tree.shares v node in
        rw (tree-task nodes v node, tree-inputs nodes v node, tree-outputs nodes v node) share;
  }
