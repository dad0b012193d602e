use Rattle.std.proofs.Common.{take}
use Rattle.serde.specs.Event.{WritesEach}
use Rattle.serde_json.specs.Events.{SendsValue}
use Rattle.plan_files.specs.JsonValues.{claim_value}
use Rattle.bounded_plan_files.proofs.json_text.send_claims.Given as goal

abbrev pub invariant-loop-claim : goal.invariant-loop-claim
invariant-loop-claim g l =
    WritesEach (λ claim. SendsValue (claim_value claim)) (take l.claim-index l.claims)
    (g.S.Serializer.written l.initial.out) (g.S.Serializer.written l.out)
