use Rattle.std.proofs.lemmas.Result.{on_ok_weaker}
use Rattle.plan_files.proofs.JsonLemmas.{claims-sent, order-sent}
use Rattle.plan_files.proofs.json_text.PlanJsonSerialize.serialize.Goals as goal

pub returns : goal.returns
returns g c =
    let claims = rw c.claims.ensures at (claims-sent c.claims.result.now _ _ c.in_ok-send_claims.ensures) in
    let order = rw c.order.ensures.value at (order-sent c.order.result.now _ _ c.in_ok-serialize.ensures) in
    let peak = rw c.peak.ensures at c.in_ok-serialize-2.ensures in
    on_ok_weaker c.end_map.result (λ ended. (
      _,
      c.in_ok-begin_map.ensures,
      (_, _, c.in_ok-key.ensures, claims, (_, _, c.in_ok-key-2.ensures, order, (_, _, c.in_ok-key-3.ensures, peak, ended))),
    )) c.end_map.ensures
