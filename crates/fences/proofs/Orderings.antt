-- Orders that pass a system, as orderings of the arcs that its items are.
use Rattle.std.proofs.Common.{◌≡◌, ℕ, ◌+◌, ◌-◌, ◌<◌, ◌≤◌, Bool, true, false, not, ◌||◌, eqb, eq-eqb, List, [], ◌∷◌, length, get_or, refl, sym, ap, subst, ◌∙◌, arith, Option, Some, None, unwrap_or, ⊎_elim}
use Rattle.std.specs.Prelude.{All}
use Rattle.std.specs.List.{list_all}
use Rattle.std.specs.Option.{ForSome}
use Rattle.std.proofs.lemmas.List.Elements.{All-head, All-tail, All-cons, All-nil, All-map}
use Rattle.std.proofs.lemmas.List.Folds.{list_all_at}
use Rattle.std.proofs.lemmas.Bool.{cases_Bool, eqb-true, and_parts, or_right}
use Rattle.lists.specs.Numbers.{Each, IsFirstWithout}
use Rattle.mp_system.specs.declared.system.Item.{Item}
use Rattle.mp_system.specs.System.{TaskSystem, IsSystem, IsTask, IsItemWithin, is_named, is_input}
use Rattle.mp_system.specs.Memory.{is_done_or, is_produced, stands_in}
use Rattle.mp_system.specs.Traversal.{IsTraversal}
use Rattle.graphs.specs.declared.arc.Arc.{Arc}
use Rattle.graphs.specs.Graph.{CanBeOrdered, IsArcWithin, IsOrdering}
use Rattle.fences.specs.Judged.{item_at}
use Rattle.fences.specs.Orders.{HasNoTraversal, IsApart, arc_of, arcs_of}
use Rattle.fences.proofs.Accepting.{item_is}
use Rattle.fences.proofs.Along.{stands_split, task_of}
use Rattle.fences.proofs.Chains.{not_before}
use Rattle.fences.proofs.ChainAmounts.{stands_once}

-- what an arc asks for in a state
abbrev IsSuppliedBy : (ℕ → Bool) → ℕ → Arc → Type 0
IsSuppliedBy done v arc = arc.to ≡ v → 1 ≤ arc.from → done arc.from ≡ true

module _ (done : ℕ → Bool) (v : ℕ) where
  made : (from to : Option ℕ) → ForSome from (λ u. 1 ≤ u) → (unwrap_or to 0 ≡ v → 1 ≤ unwrap_or from 0 → done (unwrap_or from 0) ≡ true)
      → (not (is_named to v) || is_done_or true done from) ≡ true
  made None to low supplied = elim (is_named to v) as (λ b. (not b || true) ≡ true) [ true ↦ refl | false ↦ refl ]
  made (Some u) None low supplied = refl
  made (Some u) (Some c) low supplied =
      ⊎_elim
      (λ s. or_right (not (eqb c v)) (done u) (supplied (eqb-true c v s) (low u refl)))
      (λ n. rw n refl)
      (cases_Bool (eqb c v))

  used : (from to : Option ℕ) (size : ℕ) → 1 ≤ v → (not (is_named to v) || is_done_or true done from) ≡ true
      → IsSuppliedBy done v (record { from = unwrap_or from 0; to = unwrap_or to 0; size = size })
  used None to size some ready = λ e low. absurd (omega arith)
  used (Some u) None size some ready = λ e low. absurd (omega (arith, e, some))
  used (Some u) (Some c) size some ready = λ e low. (let there : done u ≡ true = rw (eq-eqb c v e) at ready in there)

  pub all_made : (system : TaskSystem) (items : List Item) → All (IsItemWithin system) items → All (IsSuppliedBy done v) (arcs_of items)
      → list_all (λ item. not (is_input v item) || is_produced done item) items ≡ true
  all_made system [] within supplied = refl
  all_made system (item ∷ items) within supplied =
      let head = All-head (IsItemWithin system) item items within in
      rw (made item.from item.to (λ u e. (head.producer u e).0) (All-head (IsSuppliedBy done v) (arc_of item) (arcs_of items) supplied))
      (all_made system items (All-tail (IsItemWithin system) item items within) (All-tail (IsSuppliedBy done v) (arc_of item) (arcs_of items) supplied))

  pub all_used : (items : List Item) → 1 ≤ v → list_all (λ item. not (is_input v item) || is_produced done item) items ≡ true → All (IsSuppliedBy done v) (arcs_of items)
  all_used [] some ready = All-nil (IsSuppliedBy done v)
  all_used (item ∷ items) some ready =
      let parts = and_parts (not (is_input v item) || is_produced done item) (list_all (λ i. not (is_input v i) || is_produced done i) items) ready in
      All-cons (IsSuppliedBy done v) (arc_of item) (arcs_of items) (used item.from item.to item.size some parts.0) (all_used items some parts.1)

-- ---- the arcs keep to the limits

module _ (system : TaskSystem) where
  end_within : (end : Option ℕ) → ForSome end (IsTask system) → unwrap_or end 0 ≤ length system.tasks
  end_within None within = omega arith
  end_within (Some u) within = (within u refl).1

  ends_apart : (from to : Option ℕ) → (from ≡ to → from ≡ None) → unwrap_or from 0 ≡ unwrap_or to 0 → unwrap_or from 0 ≡ 0
  ends_apart None to apart e = refl
  ends_apart (Some u) None apart e = e
  ends_apart (Some u) (Some c) apart e = absurd (let none : Some u ≡ None = apart (ap (λ (w : ℕ). Some w) e) in cc)

  pub arcs_within : IsSystem system → Each (length system.items) (λ k. IsApart (item_at system k)) → All (IsArcWithin (length system.tasks)) (arcs_of system.items)
  arcs_within is apart = All-map (IsArcWithin (length system.tasks)) arc_of system.items (λ i d lt. (
      let item = get_or system.items i d in
      let within = is.items i d lt in
      let own : IsApart item = subst IsApart (item_is system i d lt) (apart (i + 1) (omega arith, omega arith)) in
      record {
        from = end_within item.from within.producer;
        to = end_within item.to within.consumer;
        apart = ends_apart item.from item.to own;
        size = within.size;
      }))

  -- ---- orders and orderings

  pub ordering_traverses : (order : List ℕ) → IsSystem system → IsOrdering (length system.tasks) (arcs_of system.items) order → IsTraversal system order
  ordering_traverses order is ordering = record {
    once = ordering.once;
    tasks = ordering.tasks;
    after_suppliers = λ before rest v split. all_made (stands_in before) v system system.items is.items (ordering.supplied.each before rest v split);
  }

  module _ (order : List ℕ) (is : IsTraversal system order) where
    stands : (v : ℕ) → IsTask system v → stands_in order v ≡ true
    stands v task = stands_once order v (omega (arith, is.once v task))

    can_be_ordered : (v : ℕ) → IsTask system v → CanBeOrdered (arcs_of system.items) v
    can_be_ordered v task = record {
      list = order;
      supplied = record {
        each = λ before rest w split. all_used (stands_in before) w system.items (task_of system before rest w (subst (All (IsTask system)) split is.tasks)).0 (is.after_suppliers before rest w split);
      };
      stands = stands v task;
    }

    unready : (u : ℕ) (done : ℕ → Bool) (from to : Option ℕ) → from ≡ Some u → to ≡ Some u → done u ≡ false
        → (not (is_named to u) || is_done_or true done from) ≡ false
    unready u done from to from_is to_is missing = rw (from_is, to_is, eq-eqb u u refl) missing

    -- no task consumes what it produces
    apart : All (IsItemWithin system) system.items → (i : ℕ) (d : Item) → i < length system.items → IsApart (get_or system.items i d)
    apart within i d lt = λ e. go e (get_or system.items i d).from refl
      where
        go : (get_or system.items i d).from ≡ (get_or system.items i d).to → (end : Option ℕ) → (get_or system.items i d).from ≡ end → end ≡ None
        go e None from = refl
        go e (Some u) from =
            let to : (get_or system.items i d).to ≡ Some u = sym e ∙ from in
            let at = stands_split order u (stands u ((within i d lt).producer u from)) in
            let item = get_or system.items i d in
            let not_ready = list_all_at (λ x. not (is_input u x) || is_produced (stands_in at.0) x) system.items i d lt
            (unready u (stands_in at.0) item.from item.to from to (not_before system order is at.0 at.1 u at.2)) in
            absurd (cc (sym not_ready ∙ is.after_suppliers at.0 at.1 u at.2))

  pub cycle_stops : (v : ℕ) → IsFirstWithout (length system.tasks) (CanBeOrdered (arcs_of system.items)) v → HasNoTraversal system
  cycle_stops v first = λ order is. first.fails (can_be_ordered order is v first.is_place)

  pub own_input_stops : IsSystem system → (place : ℕ) → IsFirstWithout (length system.items) (λ k. IsApart (item_at system k)) place → HasNoTraversal system
  own_input_stops sys place first = λ order is. (
      let none : Item = record { size = 0; from = None; to = None } in
      first.fails (apart order is sys.items (place - 1) none (omega (arith, first.is_place.0, first.is_place.1))))
