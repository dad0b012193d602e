use Rattle.std.proofs.Common.{rules, refl}
use Rattle.std.proofs.lemmas.Result.{on_ok_weaker}
use Rattle.serde.proofs.Events.{WritesEach-more, WritesSeq-ends}
use Rattle.serde_json.specs.Events.{SendsValue}
use Rattle.bounded_plan_files.specs.JsonValues.{amount_value}
use Rattle.bounded_plan_files.proofs.json_text.send_amounts.Goals as goal

pub loop-told-preserved : goal.loop-told-preserved
loop-told-preserved g c =
    WritesEach-more (λ told. SendsValue (amount_value told)) _ _ _ _ _ _ c.loop-told-test.true
    (search rules) c.loop-told.invariant c.in_ok-send_amount.ensures

pub returns : goal.returns
returns g c =
    on_ok_weaker c.end_seq.result
    (WritesSeq-ends (λ told. SendsValue (amount_value told)) c.args.amounts.now _ _ _ _ _ _ _ refl
    (search rules) c.loop-told-test.false c.in_ok-begin_seq.ensures c.loop-told.invariant) c.end_seq.ensures
