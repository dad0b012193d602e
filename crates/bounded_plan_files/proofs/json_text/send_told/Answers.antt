use Rattle.std.proofs.lemmas.Result.{on_ok_weaker}
use Rattle.plan_files.proofs.JsonLemmas.{claims-sent}
use Rattle.bounded_plan_files.proofs.json_text.send_told.Goals as goal

pub returns-in-Claims : goal.returns-in-Claims
returns-in-Claims g c =
    let sent = on_ok_weaker c.send_claims.result (claims-sent c.claims.result.now _ _) c.send_claims.ensures in
    rw c.in-Claims.is (rw c.claims.ensures at sent)
