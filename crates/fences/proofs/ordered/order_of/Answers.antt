use Rattle.std.proofs.Common.{List, ℕ, Option, length, subst, ap, ◌∙◌}
use Rattle.std.specs.Prelude.{MatchOption}
use Rattle.lists.specs.Numbers.{Each, IsFirstWithout}
use Rattle.mp_system.specs.declared.system.Task.{Task}
use Rattle.graphs.specs.declared.arc.Arc.{Arc}
use Rattle.graphs.specs.Graph.{CanBeOrdered, IsAmong, IsOrdering}
use Rattle.fences.specs.Judged.{item_at}
use Rattle.fences.specs.Orders.{IsApart, arcs_of}
use Rattle.fences.proofs.Orderings.{arcs_within, cycle_stops, ordering_traverses, own_input_stops}
use Rattle.fences.proofs.ordered.order_of.Goals as goal

pub returns-in-Some : goal.returns-in-Some
returns-in-Some c = (c.in-Some.ensures, own_input_stops c.args.system.now c.keeps.ensures c.in-Some.item c.in-Some.ensures)

pub first_unordered-requires-clause-within : goal.first_unordered-requires-clause-within
first_unordered-requires-clause-within c =
    let system = c.args.system.now in
    let fact = λ (k : ℕ). IsApart (item_at system k) in
    let apart : Each (length system.items) fact =
    subst (λ (o : Option ℕ). MatchOption o (Each (length system.items) fact) (IsFirstWithout (length system.items) fact))
    c.in_default.is c.first_own_input.ensures in
    rw (c.deref.ensures.value, c.in_ok-arcs.ensures, c.items.ensures.value, c.tasks.ensures.value) (arcs_within system c.keeps.ensures apart)

pub returns-in-Some-2 : goal.returns-in-Some-2
returns-in-Some-2 c =
    let system = c.args.system.now in
    let v = c.in-Some-2.task in
    let fact = λ (k : ℕ). IsApart (item_at system k) in
    let apart : Each (length system.items) fact =
    subst (λ (o : Option ℕ). MatchOption o (Each (length system.items) fact) (IsFirstWithout (length system.items) fact))
    c.in_default.is c.first_own_input.ensures in
    let arcs_are = c.deref.ensures.value ∙ c.in_ok-arcs.ensures ∙ ap arcs_of c.items.ensures.value in
    let can = CanBeOrdered c.deref.result.now in
    let count = length c.tasks.result.now in
    let found : IsFirstWithout count can v =
    subst (λ (o : Option ℕ). MatchOption o ((w : ℕ) → IsAmong count w → can w) (IsFirstWithout count can)) c.in-Some-2.is c.in_ok-task.ensures in
    let first =
    subst (λ (arcs : List Arc). IsFirstWithout (length system.tasks) (CanBeOrdered arcs) v) arcs_are
    (subst (λ (tasks : List Task). IsFirstWithout (length tasks) (CanBeOrdered c.deref.result.now) v) c.tasks.ensures.value found) in
    (apart, first, cycle_stops system v first)

pub ordered_tasks-requires-clause-within : goal.ordered_tasks-requires-clause-within
ordered_tasks-requires-clause-within c =
    let system = c.args.system.now in
    let fact = λ (k : ℕ). IsApart (item_at system k) in
    let apart : Each (length system.items) fact =
    subst (λ (o : Option ℕ). MatchOption o (Each (length system.items) fact) (IsFirstWithout (length system.items) fact))
    c.in_default.is c.first_own_input.ensures in
    rw (c.deref-2.ensures.value, c.in_ok-arcs.ensures, c.items.ensures.value, c.tasks.ensures.value) (arcs_within system c.keeps.ensures apart)

pub returns : goal.returns
returns c =
    let system = c.args.system.now in
    let arcs_are = c.deref-2.ensures.value ∙ c.in_ok-arcs.ensures ∙ ap arcs_of c.items.ensures.value in
    ordering_traverses system c.in_ok-order.order.items c.keeps.ensures
    (subst (λ (arcs : List Arc). IsOrdering (length system.tasks) arcs c.in_ok-order.order.items) arcs_are
    (subst (λ (tasks : List Task). IsOrdering (length tasks) c.deref-2.result.now c.in_ok-order.order.items)
    c.tasks.ensures.value c.in_ok-order.ensures))
