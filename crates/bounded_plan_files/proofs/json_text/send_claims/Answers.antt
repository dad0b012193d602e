use Rattle.std.proofs.Common.{rules, refl}
use Rattle.std.proofs.lemmas.Result.{on_ok_weaker}
use Rattle.serde.proofs.Events.{WritesEach-more, WritesSeq-ends}
use Rattle.serde_json.specs.Events.{SendsValue}
use Rattle.plan_files.specs.JsonValues.{claim_value}
use Rattle.bounded_plan_files.proofs.json_text.send_claims.Goals as goal

pub loop-claim-preserved : goal.loop-claim-preserved
loop-claim-preserved g c =
    WritesEach-more (λ claim. SendsValue (claim_value claim)) _ _ _ _ _ _ c.loop-claim-test.true
    (search rules) c.loop-claim.invariant c.in_ok-send_claim.ensures

pub returns : goal.returns
returns g c =
    on_ok_weaker c.end_seq.result
    (WritesSeq-ends (λ claim. SendsValue (claim_value claim)) c.args.claims.now _ _ _ _ _ _ _ refl
    (search rules) c.loop-claim-test.false c.in_ok-begin_seq.ensures c.loop-claim.invariant) c.end_seq.ensures
