-- The shared system of a system, and of a task graph, is within the limits.
use Rattle.std.proofs.Common.{◌≡◌, ℕ, zero, suc, ◌<◌, ◌≤◌, Bool, true, false, cond, not, ◌||◌, eqb, eq-eqb}
use Rattle.std.proofs.Common.{List, [], ◌∷◌, ◌++◌, length, length-append, map, get_or, Option, Some, None, unwrap_or}
use Rattle.std.proofs.Common.{refl, sym, ap, ◌∙◌, arith}
use Rattle.std.specs.Prelude.{All}
use Rattle.std.specs.List.{sum_by, list_all}
use Rattle.std.specs.List.Sorted.{IsStrictlyIncreasing}
use Rattle.std.specs.Option.{ForSome}
use Rattle.std.proofs.lemmas.List.{length-map}
use Rattle.std.proofs.lemmas.List.Folds.{list_all_at}
use Rattle.std.proofs.lemmas.List.Sums.{sum_by-cons, sum_by-append}
use Rattle.std.proofs.lemmas.List.Elements.{All-head, All-tail, All-nil, All-cons, All-append, All-map}
use Rattle.std.proofs.lemmas.Bool.{and_parts, eqb-true, false_from_ne_true, true_from_ne_false}
use Rattle.lists.proofs.Lists.{sum-same, sum_by-map}
use Rattle.mp_system.specs.declared.system.Item.{Item}
use Rattle.mp_system.specs.System.{TaskSystem, IsTask, IsSystem, IsItemWithin, is_named, is_input, is_output, size_if, size_where}
use Rattle.mp_system.specs.System.{item_size}
use Rattle.mp_system.specs.Memory.{is_produced, is_done_or, stands_in}
use Rattle.mp_system.specs.Traversal.{IsTraversal}
use Rattle.mp_system.proofs.Counts.{counted, uncounted, count_of}
use Rattle.graphs.specs.declared.arc.Arc.{Arc}
use Rattle.graphs.specs.Graph.{TaskGraph, IsAmong, IsGraph, CanBeOrdered, arc_between, end_of, item_of_arc}
use Rattle.graphs.specs.Graph.{own_system, size_into, size_out_of, added_arcs}
use Rattle.shared_systems.specs.Shared.{SharedItem, only, is_made_by, is_read_by_alone, shared_size_if, shared_size_where}
use Rattle.shared_systems.specs.Bounds.{IsSharedItemWithin, IsSharedSystem, reader_count, shared_size, item_arcs, use_arcs}
use Rattle.shared_systems.specs.OneReader.{readers_of, shared_item_of, shared_of}
use Rattle.shared_systems.proofs.WithoutCollectors.{stood}

-- ---- one item

-- the producer does not consume the item
abbrev IsApart : Item → Type 0
IsApart x = (v : ℕ) → x.from ≡ Some v → x.to ≡ Some v → ⊥

named : (from : Option ℕ) (v : ℕ) → is_named from v ≡ true → from ≡ Some v
named None v e = absurd cc
named (Some u) v e = ap (λ (w : ℕ). Some w) (eqb-true u v e)

readers_among : (n : ℕ) (to : Option ℕ) → ForSome to (IsAmong n) → All (IsAmong n) (readers_of to)
readers_among n None among = All-nil (IsAmong n)
readers_among n (Some c) among = All-cons (IsAmong n) c [] (among c refl) (All-nil (IsAmong n))

readers_apart : (from to : Option ℕ) → ((v : ℕ) → from ≡ Some v → to ≡ Some v → ⊥) → All (λ c. is_named from c ≡ false) (readers_of to)
readers_apart from None apart = All-nil (λ c. is_named from c ≡ false)
readers_apart from (Some c) apart =
    All-cons (λ d. is_named from d ≡ false) c []
    (false_from_ne_true (is_named from c) (λ e. apart c (named from c e) refl)) (All-nil (λ d. is_named from d ≡ false))

readers_rising : (to : Option ℕ) → IsStrictlyIncreasing (readers_of to)
readers_rising None k lt = absurd (omega arith)
readers_rising (Some c) k lt = absurd (omega arith)

one_reader : (to : Option ℕ) → length (readers_of to) ≤ 1
one_reader None = omega arith
one_reader (Some c) = omega arith

pub only_reader : (to : Option ℕ) → only (readers_of to) ≡ to
only_reader None = refl
only_reader (Some c) = refl

-- ---- all items

pub where_same : (test : SharedItem → Bool) (own : Item → Bool) → ((x : Item) → test (shared_item_of x) ≡ own x)
    → (xs : List Item) → shared_size_where test (map shared_item_of xs) ≡ size_where own xs
where_same test own same xs =
    sum_by-map (shared_size_if test) shared_item_of xs
    ∙ sum-same (λ x. shared_size_if test (shared_item_of x)) (size_if own)
    (λ x. ap (λ (b : Bool). cond b x.size 0) (same x)) xs

pub inputs_own : (v : ℕ) (xs : List Item)
    → shared_size_where (is_read_by_alone v) (map shared_item_of xs) ≡ size_where (is_input v) xs
inputs_own v = where_same (is_read_by_alone v) (is_input v) (λ x. ap (λ (to : Option ℕ). is_named to v) (only_reader x.to))

pub outputs_own : (v : ℕ) (xs : List Item) → shared_size_where (is_made_by v) (map shared_item_of xs) ≡ size_where (is_output v) xs
outputs_own v = where_same (is_made_by v) (is_output v) (λ x. refl)

few_uses : (xs : List Item) → sum_by reader_count (map shared_item_of xs) ≤ length xs
few_uses [] = omega arith
few_uses (x ∷ xs) =
    omega (arith, sum_by-cons reader_count (shared_item_of x) (map shared_item_of xs), one_reader x.to, few_uses xs)

-- a system whose tasks can be ordered
within : (system : TaskSystem) → IsSystem system → All IsApart system.items
    → ((v : ℕ) → IsTask system v → CanBeOrdered (use_arcs (map shared_item_of system.items)) v) → IsSharedSystem (shared_of system)
within system is apart ordered = record {
  few_tasks = is.few_tasks;
  few_items = omega (arith, is.few_items, length-map system.items shared_item_of);
  few_uses = omega (arith, is.few_items, few_uses system.items);
  tasks = is.tasks;
  items = All-map (IsSharedItemWithin (length system.tasks)) shared_item_of system.items (λ i d lt. (
      let x = get_or system.items i d in
      let here = is.items i d lt in
      record {
        producer = here.producer;
        readers = readers_among (length system.tasks) x.to here.consumer;
        apart = readers_apart x.from x.to (apart i d lt);
        rising = readers_rising x.to;
        size = here.size;
      }));
  total = omega (arith, is.total, sum_by-map shared_size shared_item_of system.items);
  ordered = ordered;
  shares = λ v task. (
    omega (arith, (is.shares v task).0, inputs_own v system.items),
    omega (arith, (is.shares v task).1, outputs_own v system.items),
  );
}

-- ---- a graph

named_end : (t v : ℕ) → 1 ≤ v → is_named (end_of t) v ≡ eqb t v
named_end zero zero some = absurd (omega arith)
named_end zero (suc v) some = grind arith
named_end (suc t) v some = refl

end_is : (t u : ℕ) → end_of t ≡ Some u → (u ≡ t) × (1 ≤ u)
end_is zero u e = absurd cc
end_is (suc t) u e = let same : suc t ≡ u = cc in (sym same, omega arith)

end_among : (n t : ℕ) → t ≤ n → ForSome (end_of t) (IsAmong n)
end_among n t le u h = let e = end_is t u h in (e.1, omega (arith, e.0))

into_arcs : (v : ℕ) (arcs : List Arc) → 1 ≤ v → size_where (is_input v) (map item_of_arc arcs) ≡ sum_by (size_into v) arcs
into_arcs v arcs some =
    sum_by-map (size_if (is_input v)) item_of_arc arcs
    ∙ sum-same (λ x. size_if (is_input v) (item_of_arc x)) (size_into v)
    (λ x. ap (λ (b : Bool). cond b x.size 0) (named_end x.to v some)) arcs

out_of_arcs : (v : ℕ) (arcs : List Arc) → 1 ≤ v → size_where (is_output v) (map item_of_arc arcs) ≡ sum_by (size_out_of v) arcs
out_of_arcs v arcs some =
    sum_by-map (size_if (is_output v)) item_of_arc arcs
    ∙ sum-same (λ x. size_if (is_output v) (item_of_arc x)) (size_out_of v)
    (λ x. ap (λ (b : Bool). cond b x.size 0) (named_end x.from v some)) arcs

graph_system : (graph : TaskGraph) → IsGraph graph → IsSystem (own_system graph)
graph_system graph is = record {
  few_tasks = is.few_tasks;
  few_items = omega (
    arith,
    is.few_arcs,
    length-append graph.arcs (added_arcs (length graph.tasks) graph.arcs),
    length-map graph.arcs item_of_arc,
  );
  tasks = is.tasks;
  items = All-map (IsItemWithin (own_system graph)) item_of_arc graph.arcs (λ i d lt. (
      let arc = get_or graph.arcs i d in
      let here = is.arcs i d lt in
      record {
        size = here.size;
        producer = end_among (length graph.tasks) arc.from here.from;
        consumer = end_among (length graph.tasks) arc.to here.to;
      }));
  total = omega (arith, is.total, sum_by-map item_size item_of_arc graph.arcs);
  shares = λ v task. (
    omega (arith, (is.shares v task).0, into_arcs v graph.arcs task.0),
    omega (arith, (is.shares v task).1, out_of_arcs v graph.arcs task.0),
  );
}

arc_apart : (n from to : ℕ) → (from ≡ to → from ≡ 0) → (v : ℕ) → end_of from ≡ Some v → end_of to ≡ Some v → ⊥
arc_apart n from to apart v from_is to_is =
    let a = end_is from v from_is in
    let b = end_is to v to_is in
    let same : from ≡ to = omega (arith, a.0, b.0) in
    let none = apart same in
    absurd (omega (arith, none, a.0, a.1))

-- what a list of arcs asks for in a state
abbrev IsSuppliedBy : (ℕ → Bool) → ℕ → Arc → Type 0
IsSuppliedBy done v arc = arc.to ≡ v → 1 ≤ arc.from → done arc.from ≡ true

arc_supplied : (done : ℕ → Bool) (v from to : ℕ) → (to ≡ v → 1 ≤ from → done from ≡ true)
    → All (IsSuppliedBy done v) (map (arc_between (unwrap_or (end_of from) 0)) (readers_of (end_of to)))
arc_supplied done v from zero h = All-nil (IsSuppliedBy done v)
arc_supplied done v zero (suc t) h = All-cons (IsSuppliedBy done v) (arc_between 0 (suc t)) [] h (All-nil (IsSuppliedBy done v))
arc_supplied done v (suc u) (suc t) h = All-cons (IsSuppliedBy done v) (arc_between (suc u) (suc t)) [] h (All-nil (IsSuppliedBy done v))

arcs_supplied : (done : ℕ → Bool) (v : ℕ) (arcs : List Arc) → All (IsSuppliedBy done v) arcs
    → All (IsSuppliedBy done v) (use_arcs (map shared_item_of (map item_of_arc arcs)))
arcs_supplied done v [] each = All-nil (IsSuppliedBy done v)
arcs_supplied done v (x ∷ xs) each =
    All-append (IsSuppliedBy done v) (item_arcs (shared_item_of (item_of_arc x))) (use_arcs (map shared_item_of (map item_of_arc xs)))
    (arc_supplied done v x.from x.to (All-head (IsSuppliedBy done v) x xs each))
    (arcs_supplied done v xs (All-tail (IsSuppliedBy done v) x xs each))

pub graph_within : (graph : TaskGraph) → IsGraph graph → IsSharedSystem (shared_of (own_system graph))
graph_within graph is =
    within (own_system graph) (graph_system graph is)
    (All-map IsApart item_of_arc graph.arcs (λ i d lt. (
    let arc = get_or graph.arcs i d in arc_apart (length graph.tasks) arc.from arc.to (is.arcs i d lt).apart)))
    (λ v task. (
    let can = is.ordered v task in
    record {
      list = can.list;
      supplied = record {
        each = λ before rest w split. arcs_supplied (stands_in before) w graph.arcs (can.supplied.each before rest w split);
      };
      stands = can.stands;
    }))

-- ---- a system with a traversal

use_supplied : (done : ℕ → Bool) (v : ℕ) (from to : Option ℕ) → (not (is_named to v) || is_done_or true done from) ≡ true
    → All (IsSuppliedBy done v) (map (arc_between (unwrap_or from 0)) (readers_of to))
use_supplied done v from None ready = All-nil (IsSuppliedBy done v)
use_supplied done v None (Some c) ready =
    All-cons (IsSuppliedBy done v) (arc_between 0 c) [] (λ e some. absurd (omega arith)) (All-nil (IsSuppliedBy done v))
use_supplied done v (Some u) (Some c) ready =
    All-cons (IsSuppliedBy done v) (arc_between u c) []
    (λ e some. (let there : done u ≡ true = rw (eq-eqb c v e) at ready in there)) (All-nil (IsSuppliedBy done v))

uses_supplied : (done : ℕ → Bool) (v : ℕ) (xs : List Item)
    → list_all (λ x. not (is_input v x) || is_produced done x) xs ≡ true
    → All (IsSuppliedBy done v) (use_arcs (map shared_item_of xs))
uses_supplied done v [] ready = All-nil (IsSuppliedBy done v)
uses_supplied done v (x ∷ xs) ready =
    let parts =
    and_parts (not (is_input v x) || is_produced done x) (list_all (λ y. not (is_input v y) || is_produced done y) xs) ready in
    All-append (IsSuppliedBy done v) (item_arcs (shared_item_of x)) (use_arcs (map shared_item_of xs))
    (use_supplied done v x.from x.to parts.0) (uses_supplied done v xs parts.1)

module _ (system : TaskSystem) (is : IsSystem system) (order : List ℕ) (traversal : IsTraversal system order) where
  stands : (v : ℕ) → IsTask system v → stands_in order v ≡ true
  stands v task = true_from_ne_false (stands_in order v) (λ missing. omega (arith, uncounted order v missing, traversal.once v task))

  -- a task is not done before it runs
  new : (before rest : List ℕ) (v : ℕ) → IsTask system v → order ≡ before ++ v ∷ rest → stands_in before v ≡ false
  new before rest v task split = false_from_ne_true (stands_in before v) (λ e. (
      let one : ◌≡◌ {A = ℕ} (cond (eqb v v) 1 0) 1 = rw (eq-eqb v v refl) refl in
      omega (
        arith,
        one,
        counted before v e,
        traversal.once v task,
        ap (λ (l : List ℕ). count_of l v) split,
        sum_by-append (λ u. cond {A = ℕ} (eqb u v) 1 0) before (v ∷ rest),
        sum_by-cons (λ u. cond {A = ℕ} (eqb u v) 1 0) v rest,
      )))

  unready : (v : ℕ) (done : ℕ → Bool) (from to : Option ℕ) → from ≡ Some v → to ≡ Some v → done v ≡ false
      → (not (is_named to v) || is_done_or true done from) ≡ false
  unready v done from to from_is to_is missing = rw (from_is, to_is, eq-eqb v v refl) missing

  apart_at : (i : ℕ) (d : Item) → i < length system.items → IsApart (get_or system.items i d)
  apart_at i d lt v from_is to_is =
      let task = (is.items i d lt).consumer v to_is in
      let there = stood order v (stands v task) in
      let missing = new there.first there.last v task there.split in
      let x = get_or system.items i d in
      let not_ready =
      list_all_at (λ y. not (is_input v y) || is_produced (stands_in there.first) y) system.items i d lt
      (unready v (stands_in there.first) x.from x.to from_is to_is missing) in
      absurd (cc (sym not_ready ∙ traversal.after_suppliers there.first there.last v there.split))

  pub traversal_within : IsSharedSystem (shared_of system)
  traversal_within = within system is apart_at (λ v task. record {
    list = order;
    supplied = record {
      each = λ before rest w split. uses_supplied (stands_in before) w system.items (traversal.after_suppliers before rest w split);
    };
    stands = stands v task;
  })
