use Rattle.std.proofs.Common.{◌≡◌, string_bytes, IfOk, ap, ◌∙◌, arith}
use Rattle.std.proofs.lemmas.Grind.{common_steps}
use Rattle.std.proofs.lemmas.Result.{IfOk-weaker}
use Rattle.mp_text.specs.Report.{is_token}
use Rattle.bounded_plan_files.specs.Json.{bounded_json_of}
use Rattle.bounded_plan_files.proofs.JsonLemmas.{sent-text, bounded_json-token}
use Rattle.bounded_plan_files.proofs.json_text.bounded_plan_json.Goals as goal

pub returns : goal.returns
returns c =
    let plan = c.args.plan.now in
    let printed = c.printed_number.ensures in
    let sent = IfOk-weaker c.to_string.result _ (λ s. string_bytes s ≡ bounded_json_of plan)
    (λ s events. sent-text plan events.0 (string_bytes s) events.1 events.2) c.to_string.ensures.events in
    let text : IfOk c.map_err.result (λ s. string_bytes s ≡ bounded_json_of plan) = grind (arith, common_steps) in
    record {
      text = text;
      token = IfOk-weaker c.map_err.result _ _
          (λ s is. ap is_token is ∙ bounded_json-token printed.token printed.signed_token plan c.keeps.ensures) text;
    }
