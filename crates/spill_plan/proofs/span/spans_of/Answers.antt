use Rattle.std.proofs.Common.{◌≡◌, ◌<◌, ◌++◌, [], ◌∷◌, List, None, length, map, take, get_or, arith, ap, sym, subst, ◌∙◌}
use Rattle.std.specs.Option.{ForSome}
use Rattle.std.proofs.lemmas.List.{take_all, map_more}
use Rattle.mp_system.specs.declared.system.Item.{Item}
use Rattle.mp_system.specs.declared.system.Task.{Task}
use Rattle.mp_system.specs.System.{IsTask}
use Rattle.spill_plan.specs.declared.span.Span.{Span}
use Rattle.spill_plan.specs.Spans.{IsEachOnce, AreItemSpans, IsStepTable, start_of_item, end_of_item, span_of}
use Rattle.spill_plan.proofs.ItemSpans.{item_spans, producer, consumer, in_table, start_read, end_read}
use Rattle.spill_plan.proofs.OrderSteps.{each_once}
use Rattle.spill_plan.proofs.span.spans_of.Goals as goal

pub steps_by_task-requires-clause-each : goal.steps_by_task-requires-clause-each
steps_by_task-requires-clause-each c = subst (λ (ts : List Task). IsEachOnce (length ts) c.args.order.now) (sym c.tasks.ensures.value)
    (each_once c.args.system.now c.args.order.now c.requires)

pub start_of_item-requires : goal.start_of_item-requires
start_of_item-requires c =
    let system = c.args.system.now in
    let order = c.args.order.now in
    let items = c.items-items.result.now in
    let i = c.loop-item.item-index in
    let d : Item = record { size = 0; from = None; to = None } in
    let inside : i < length system.items = omega (arith, ap length c.items-items.ensures.value) in
    let task = subst (λ (xs : List Item). ForSome (get_or xs i d).from (IsTask system)) (sym c.items-items.ensures.value)
    (producer system order c.items-items.ensures.system c.requires i d inside) in
    let table = subst (λ (ts : List Task). IsStepTable (length ts) order c.in_ok-steps.steps.items) c.tasks.ensures.value
    c.in_ok-steps.ensures in
    let steps = subst (IsStepTable (length system.tasks) order) (sym c.deref.ensures.value) table in
    in_table system order c.items-items.ensures.system c.requires c.deref.result.now steps (get_or items i d).from task

pub end_of_item-requires : goal.end_of_item-requires
end_of_item-requires c =
    let system = c.args.system.now in
    let order = c.args.order.now in
    let items = c.items-items.result.now in
    let i = c.loop-item.item-index in
    let d : Item = record { size = 0; from = None; to = None } in
    let inside : i < length system.items = omega (arith, ap length c.items-items.ensures.value) in
    let task = subst (λ (xs : List Item). ForSome (get_or xs i d).to (IsTask system)) (sym c.items-items.ensures.value)
    (consumer system order c.items-items.ensures.system c.requires i d inside) in
    let table = subst (λ (ts : List Task). IsStepTable (length ts) order c.in_ok-steps.steps.items) c.tasks.ensures.value
    c.in_ok-steps.ensures in
    let steps = subst (IsStepTable (length system.tasks) order) (sym c.deref-in-loop-item.ensures.value) table in
    in_table system order c.items-items.ensures.system c.requires c.deref-in-loop-item.result.now steps (get_or items i d).to task

pub loop-item-preserved : goal.loop-item-preserved
loop-item-preserved c =
    let system = c.args.system.now in
    let order = c.args.order.now in
    let items = c.items-items.result.now in
    let i = c.loop-item.item-index in
    let d : Item = record { size = 0; from = None; to = None } in
    let item = get_or items i d in
    let inside : i < length system.items = omega (arith, ap length c.items-items.ensures.value) in
    let from = subst (λ (xs : List Item). ForSome (get_or xs i d).from (IsTask system)) (sym c.items-items.ensures.value)
    (producer system order c.items-items.ensures.system c.requires i d inside) in
    let to = subst (λ (xs : List Item). ForSome (get_or xs i d).to (IsTask system)) (sym c.items-items.ensures.value)
    (consumer system order c.items-items.ensures.system c.requires i d inside) in
    let table = subst (λ (ts : List Task). IsStepTable (length ts) order c.in_ok-steps.steps.items) c.tasks.ensures.value
    c.in_ok-steps.ensures in
    let steps = subst (IsStepTable (length system.tasks) order) (sym c.deref.ensures.value) table in
    let steps_too = subst (IsStepTable (length system.tasks) order) (sym c.deref-in-loop-item.ensures.value) table in
    let start : c.start_of_item.result ≡ start_of_item order item.from =
    c.start_of_item.ensures ∙ start_read system order c.items-items.ensures.system c.requires c.deref.result.now steps item.from from in
    let end : c.end_of_item.result ≡ end_of_item order item.to =
    c.end_of_item.ensures ∙ end_read system order c.items-items.ensures.system c.requires c.deref-in-loop-item.result.now steps_too
    item.to to in
    let span : ◌≡◌ {A = Span} (record { size = item.size; start = c.start_of_item.result; end = c.end_of_item.result })
    (span_of order item) =
    λ j. record { size = item.size; start = start j; end = end j } in
    c.in_ok-push.ensures.items ∙ ap (λ (xs : List Span). xs ++ record
    { size = item.size; start = c.start_of_item.result; end = c.end_of_item.result } ∷ []) c.loop-item.invariant
    ∙ ap (λ (x : Span). map (span_of order) (take i items) ++ x ∷ []) span ∙ sym (map_more (span_of order) items i d c.loop-item-test.true)

pub returns-clause-within : goal.returns-clause-within
returns-clause-within c =
    let all : c.loop-item.spans.items ≡ map (span_of c.args.order.now) c.args.system.now.items =
    c.loop-item.invariant
    ∙ ap (map (span_of c.args.order.now))
    (take_all c.loop-item.item-index c.items-items.result.now (omega arith) ∙ c.items-items.ensures.value) in
    subst (λ (xs : List Span). AreItemSpans xs (length c.args.order.now)) (sym all)
    (item_spans c.args.system.now c.args.order.now c.items-items.ensures.system c.requires c.in_ok-steps.ensures.few)
