use Rattle.std.proofs.Common.{sym}
use Rattle.serde_json.specs.View.{view}
use Rattle.plan_orders.proofs.JsonLemmas.{order_found, no_member, no_array}
use Rattle.plan_orders.proofs.json.order_of.Goals as goal

pub returns-in_err-get : goal.returns-in_err-get
returns-in_err-get c = rw c.from_residual.ensures (no_member (view c.args.value.now) (sym c.in_err-get.ensures))

pub returns-in_err-items : goal.returns-in_err-items
returns-in_err-items c =
    rw c.from_residual-in_err-items.ensures
    (no_array (view c.args.value.now) (view c.in_ok-get.field-0.now) (sym c.in_ok-get.ensures) (sym c.in_err-items.ensures))

pub returns : goal.returns
returns c =
    rw c.deref.ensures.value
    (order_found (view c.args.value.now) (view c.in_ok-get.field-0.now) c.in_ok-items.items.now.items (sym c.in_ok-get.ensures)
    (sym c.in_ok-items.ensures))
