use Rattle.std.proofs.Common.{refl, sym, subst, rules}
use Rattle.plan_orders.specs.Reader.{IsNoJson}
use Rattle.plan_orders.proofs.JsonLemmas.{text_read, text_not_read}
use Rattle.plan_orders.proofs.json.value_of.Goals as goal

pub returns-in-Ok : goal.returns-in-Ok
returns-in-Ok c = text_read c.args.bytes.now _ c.in-Ok.ensures.ok.0 c.in-Ok.ensures.ok.1

pub returns-in-Err-2 : goal.returns-in-Err-2
returns-in-Err-2 c =
    subst (IsNoJson c.args.bytes.now) (sym c.fault.ensures)
    (text_not_read c.args.bytes.now (c.in-Err.ensures.err (λ memory. search (rules, c.if-is_memory.ensures))), refl)
