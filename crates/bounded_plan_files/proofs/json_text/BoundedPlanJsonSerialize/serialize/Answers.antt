use Rattle.std.proofs.lemmas.Result.{on_ok_weaker}
use Rattle.plan_files.proofs.JsonLemmas.{order-sent}
use Rattle.bounded_plan_files.proofs.json_text.BoundedPlanJsonSerialize.serialize.Goals as goal

pub returns : goal.returns
returns g c =
    let bound = rw c.bound.ensures at c.in_ok-serialize.ensures in
    let evidence = rw c.evidence.ensures at c.in_ok-send_evidence.ensures in
    let order = rw c.order.ensures.value at (order-sent c.order.result.now _ _ c.in_ok-serialize-2.ensures) in
    let peak = rw c.peak.ensures at c.in_ok-serialize-3.ensures in
    on_ok_weaker c.end_map.result (λ ended. (
      _,
      c.in_ok-begin_map.ensures,
      (
        _,
        _,
        c.in_ok-key.ensures,
        bound,
        (_, _, c.in_ok-key-2.ensures, evidence, (_, _, c.in_ok-key-3.ensures, order, (_, _, c.in_ok-key-4.ensures, peak, ended))),
      ),
    )) c.end_map.ensures
