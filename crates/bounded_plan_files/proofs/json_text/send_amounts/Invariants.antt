use Rattle.std.proofs.Common.{take}
use Rattle.serde.specs.Event.{WritesEach}
use Rattle.serde_json.specs.Events.{SendsValue}
use Rattle.bounded_plan_files.specs.JsonValues.{amount_value}
use Rattle.bounded_plan_files.proofs.json_text.send_amounts.Given as goal

abbrev pub invariant-loop-told : goal.invariant-loop-told
invariant-loop-told g l =
    WritesEach (λ told. SendsValue (amount_value told)) (take l.told-index l.amounts)
    (g.S.Serializer.written l.initial.out) (g.S.Serializer.written l.out)
