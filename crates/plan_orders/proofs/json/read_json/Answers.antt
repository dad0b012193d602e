use Rattle.std.proofs.Common.{◌≡◌, ◌∙◌, Some, sym, ap, subst, Ok, map}
use Rattle.serde_json.specs.View.{view}
use Rattle.mp_text.specs.Reading.{Fails, tested}
use Rattle.plan_orders.specs.PlanOrder.{order_in, json_tests, json_numbers}
use Rattle.plan_orders.proofs.JsonLemmas.{no_task, all_tasks}
use Rattle.plan_orders.proofs.json.read_json.Goals as goal

pub returns-then-not-are_tasks : goal.returns-then-not-are_tasks
returns-then-not-are_tasks c =
    let text = c.args.bytes.now in
    let value = view c.in_ok-value.value in
    let vs = c.in_ok-values.values.now in
    let found : order_in value ≡ Some (map view vs) = rw c.in_ok-values.ensures.ok_part at c.order_of.ensures in
    subst (Fails (tested (json_tests text) (json_numbers text))) (sym c.fault-then-not-are_tasks.ensures)
    (no_task text value c.in_ok-value.ensures vs found c.if-values-gt-MOST_TASKS.false (sym c.if-not-are_tasks.ensures))

pub returns : goal.returns
returns c =
    let text = c.args.bytes.now in
    let value = view c.in_ok-value.value in
    let vs = c.in_ok-values.values.now in
    let found : order_in value ≡ Some (map view vs) = rw c.in_ok-values.ensures.ok_part at c.order_of.ensures in
    all_tasks text value c.in_ok-value.ensures vs found c.if-values-gt-MOST_TASKS.false (sym c.if-not-are_tasks.ensures)
    ∙ ap Ok (sym c.in_ok-numbers_of.ensures)
