-- The fronts of an assembly tree, taken as tasks: an order of them is a traversal where each comes before its parent.
use Rattle.std.proofs.Common.{sym, ◌∙◌, subst, ap, ◌≡◌, ◌≢◌, inl, inr, ℕ, zero, suc, ◌+◌, ◌-◌, ◌<◌, ◌≤◌, ◌==◌, Bool, true, false, not, ◌||◌}
use Rattle.std.proofs.Common.{List, [], ◌∷◌, ◌++◌, length, get_or, take, drop, eqb, eq-eqb, arith, refl}
use Rattle.std.proofs.Math.Seq.{get_or-append_seam}
use Rattle.std.proofs.lemmas.Bool.{cases_eq, ne_eqb, eqb-true, or_cases}
use Rattle.std.proofs.lemmas.List.{get_or-take, get_or_append_left, length-append, length-map, take-append-drop, drop_more, length-take-le}
use Rattle.std.proofs.lemmas.List.Folds.{list_any_at}
use Rattle.std.proofs.lemmas.List.FromFn.{length-map-range_with_len, get_or-map-range_with_len}
use Rattle.std.proofs.lemmas.List.Sums.{AllPass-from_list_all, list_all-from_AllPass}
use Rattle.mp_system.specs.declared.system.Item.{Item}
use Rattle.mp_system.specs.System.{IsTask, is_input}
use Rattle.mp_system.specs.Memory.{is_produced, is_ready, stands_in}
use Rattle.mp_system.specs.Traversal.{IsTraversal}
use Rattle.trees.specs.declared.node.Node.{Node}
use Rattle.trees.specs.Tree.{IsNode, node_at, task_of_node, item_of_node, items_from, system_of_nodes}
use Rattle.trees.proofs.SystemLemmas.{get_or-items_from, length-items_from}
use Rattle.permutations.specs.Perm.{IsPerm, times, place_of}
use Rattle.permutations.proofs.PlaceLemmas.{place-at}
use Rattle.permutations.proofs.PermLemmas.{vertex_of_place, place_of_vertex}
use Rattle.elim_tree.proofs.OnePostorder.{place_within}
use Rattle.assembly_tree.specs.declared.assembly.Super.{Super}
use Rattle.assembly_tree.specs.declared.front.Shape.{Shape}
use Rattle.assembly_tree.specs.Assembly.{IsSuper, super_at}
use Rattle.assembly_tree.specs.Fronts.{front_at, nodes_of_fronts}
use Rattle.equivalent_orders.specs.Fronts.{IsFrontOrder}
use Rattle.equivalent_orders.proofs.Blocks.{perm_by_times}
use Rattle.equivalent_orders.proofs.Mapped.{at_place_before}

abbrev no_node : Node
no_node = record { parent = 0; out = 0; extra = 0; share = 0; time = 0 }

-- ---- a node is ready exactly where its children are done

module _ (done : ℕ → Bool) (v : ℕ) (some : 1 ≤ v) where
  -- whether v does not consume the item, or it has been produced
  abbrev is_supplied : Item → Bool
  is_supplied item = not (is_input v item) || is_produced done item

  of_child : (u : ℕ) (node : Node) → node.parent ≡ v → is_supplied (item_of_node u node) ≡ done u
  of_child u node e =
      let child : eqb node.parent 0 ≡ false = ne_eqb node.parent 0 (omega arith) in
      let here : eqb node.parent v ≡ true = eq-eqb node.parent v e in
      rw (child, here) refl

  of_other : (u : ℕ) (node : Node) → node.parent ≢ v → is_supplied (item_of_node u node) ≡ true
  of_other u node ne =
      elim (cases_eq node.parent 0) [
        | inl e ↦ (let root = eq-eqb node.parent 0 e in rw root refl)
        | inr child ↦ (let some_parent = ne_eqb node.parent 0 child in let other = ne_eqb node.parent v ne in rw (some_parent, other) refl)
      ]

  module _ (nodes : List Node) where
    item_is : (i : ℕ) (d : Item) → i < length nodes → get_or (items_from 1 nodes) i d ≡ item_of_node (1 + i) (node_at nodes (1 + i))
    item_is i d lt =
        let back : i ≡ 1 + i - 1 = omega arith in
        get_or-items_from 1 nodes i d no_node lt ∙ ap (λ (k : ℕ). item_of_node (1 + i) (get_or nodes k no_node)) back

    pub ready_if : ((u : ℕ) → IsNode nodes u → (node_at nodes u).parent ≡ v → done u ≡ true)
        → is_ready (system_of_nodes nodes) done v ≡ true
    ready_if children = list_all-from_AllPass is_supplied (items_from 1 nodes) (λ i d lt.
        let within : i < length nodes = omega (arith, lt, length-items_from 1 nodes) in
        ap is_supplied (item_is i d within)
        ∙ elim (cases_eq ((node_at nodes (1 + i)).parent) v) [
          | inl e ↦ of_child (1 + i) (node_at nodes (1 + i)) e ∙ children (1 + i) (omega arith, omega arith) e
          | inr ne ↦ of_other (1 + i) (node_at nodes (1 + i)) ne
        ])

    pub child_done : is_ready (system_of_nodes nodes) done v ≡ true → (u : ℕ) → IsNode nodes u → (node_at nodes u).parent ≡ v
        → done u ≡ true
    child_done ready zero node e = absurd (let low = node.0 in omega arith)
    child_done ready (suc i) node e =
        let high = node.1 in
        let next : suc i ≡ 1 + i = omega arith in
        let within : i < length (items_from 1 nodes) = omega (arith, high, length-items_from 1 nodes) in
        let passes = AllPass-from_list_all is_supplied (items_from 1 nodes) ready i (item_of_node 0 no_node) within in
        ap done next
        ∙ sym (of_child (1 + i) (node_at nodes (1 + i)) (ap (λ (k : ℕ). (node_at nodes k).parent) (sym next) ∙ e))
        ∙ ap is_supplied (sym (item_is i (item_of_node 0 no_node) high)) ∙ passes

-- ---- the fronts of an assembly tree

-- what stands in a list has a place there
stood : (xs : List ℕ) (v : ℕ) → stands_in xs v ≡ true → (i : ℕ) × (i < length xs) × (get_or xs i 0 ≡ v)
stood [] v e = absurd cc
stood (x ∷ xs) v e =
    elim (or_cases (x == v) (stands_in xs v) e) [
      | inl here ↦ (zero, omega arith, eqb-true x v here)
      | inr there ↦ (let r = stood xs v there in (suc r.0, (let lt = r.1 in omega arith), r.2))
    ]

module _ (shape : Shape) (inplace : Bool) (supers : List Super) where
  abbrev nodes : List Node
  nodes = nodes_of_fronts shape inplace supers

  nodes_long : length nodes ≡ length supers
  nodes_long = length-map-range_with_len (front_at shape inplace supers) 1 (length supers)

  tasks_long : length (system_of_nodes nodes).tasks ≡ length supers
  tasks_long = length-map nodes task_of_node ∙ nodes_long

  parent_is : (s : ℕ) → IsSuper supers s → (node_at nodes s).parent ≡ (super_at supers s).parent
  parent_is s is =
      let low = is.0 in
      let high = is.1 in
      ap (λ (x : Node). x.parent)
      (get_or-map-range_with_len (front_at shape inplace supers) 1 (length supers) (s - 1) s no_node (omega arith) (omega arith))

  super_of_task : (s : ℕ) → IsTask (system_of_nodes nodes) s → IsSuper supers s
  super_of_task s task = (task.0, (let high = task.1 in omega (arith, high, tasks_long)))

  task_of_super : (s : ℕ) → IsSuper supers s → IsTask (system_of_nodes nodes) s
  task_of_super s is = (is.0, (let high = is.1 in omega (arith, high, tasks_long)))

  node_of_super : (s : ℕ) → IsSuper supers s → IsNode nodes s
  node_of_super s is = (is.0, (let high = is.1 in omega (arith, high, nodes_long)))

  module _ (fronts : List ℕ) where
    pub order_of_traversal : ((s : ℕ) → IsSuper supers s → 0 < (super_at supers s).parent → (super_at supers s).parent ≤ length supers)
        → IsTraversal (system_of_nodes nodes) fronts → IsFrontOrder supers fronts
    order_of_traversal within traversal = record {
      perm = perm;
      before = λ s is some.
          let p = (super_at supers s).parent in
          let is_p : IsSuper supers p = (some, within s is some) in
          let place = place_within vertex_of_place place_of_vertex (length supers) fronts perm p is_p in
          let j = place_of fronts p - 1 in
          let low = place.0 in
          let high = place.1 in
          let len = perm.len in
          let lt : j < length fronts = omega arith in
          let here : get_or fronts j 0 ≡ p =
          at_place_before fronts (place_of fronts p) low ∙ vertex_of_place (length supers) fronts perm p is_p.1 in
          let cut : fronts ≡ take j fronts ++ p ∷ drop (j + 1) fronts =
          sym (take-append-drop j fronts) ∙ ap (λ (xs : List ℕ). take j fronts ++ xs) (drop_more fronts j 0 lt)
          ∙ ap (λ (x : ℕ). take j fronts ++ x ∷ drop (j + 1) fronts) here in
          let ready = traversal.after_suppliers (take j fronts) (drop (j + 1) fronts) p cut in
          let found = stood (take j fronts) s
          (child_done (stands_in (take j fronts)) p some nodes ready s (node_of_super s is) (parent_is s is)) in
          let i = found.0 in
          let below : i < j = omega (arith, found.1, length-take-le j fronts (omega arith)) in
          let at : get_or fronts i 0 ≡ s = sym (get_or-take j fronts i 0 below) ∙ found.2 in
          let once : times fronts (get_or fronts i 0) ≡ 1 = ap (times fronts) at ∙ perm.once s is in
          let first : place_of fronts s ≡ suc i = ap (place_of fronts) (sym at) ∙ place-at fronts i (omega arith) once in
          omega arith;
    }
      where
        perm : IsPerm (length supers) fronts
        perm = perm_by_times (length supers) fronts (λ k d lt. super_of_task _ (traversal.tasks k d lt))
            (λ s is. traversal.once s (task_of_super s is))

    pub traversal_of_order : IsFrontOrder supers fronts → IsTraversal (system_of_nodes nodes) fronts
    traversal_of_order order = record {
      once = λ s task. order.perm.once s (super_of_task s task);
      tasks = λ k d lt. task_of_super _ (order.perm.vertices k d lt);
      after_suppliers = λ before rest v cut.
          let len : length fronts ≡ length before + suc (length rest) = ap length cut ∙ length-append before (v ∷ rest) in
          let lt : length before < length fronts = omega arith in
          let here : get_or fronts (length before) 0 ≡ v =
          ap (λ (xs : List ℕ). get_or xs (length before) 0) cut ∙ get_or-append_seam before v rest 0 in
          let is_v : IsSuper supers v = subst (IsSuper supers) here (order.perm.vertices (length before) 0 lt) in
          let place : place_of fronts v ≡ suc (length before) =
          ap (place_of fronts) (sym here)
          ∙ place-at fronts (length before) lt (ap (times fronts) here ∙ order.perm.once v is_v) in
          ready_if (stands_in before) v is_v.0 nodes (λ u node up.
          let is_u : IsSuper supers u = (node.0, (let high = node.1 in omega (arith, high, nodes_long))) in
          let up_is : (super_at supers u).parent ≡ v = sym (parent_is u is_u) ∙ up in
          let low_v = is_v.0 in
          let less : place_of fronts u < place_of fronts v =
          subst (λ (p : ℕ). place_of fronts u < place_of fronts p) up_is (order.before u is_u (omega arith)) in
          let place_u = place_within vertex_of_place place_of_vertex (length supers) fronts order.perm u is_u in
          let low = place_u.0 in
          let i = place_of fronts u - 1 in
          let below : i < length before = omega arith in
          let at : get_or before i 0 ≡ u =
          sym (get_or_append_left before (v ∷ rest) 0 i below) ∙ ap (λ (xs : List ℕ). get_or xs i 0) (sym cut)
          ∙ at_place_before fronts (place_of fronts u) low ∙ vertex_of_place (length supers) fronts order.perm u is_u.1 in
          list_any_at (λ x. x == u) before i 0 below (eq-eqb (get_or before i 0) u at));
    }
