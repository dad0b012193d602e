use Rattle.std.proofs.lemmas.Result.{on_ok_weaker}
use Rattle.bounded_plan_files.proofs.JsonLemmas.{amounts-sent, blockers-sent}
use Rattle.bounded_plan_files.proofs.json_text.send_set.Goals as goal

pub returns : goal.returns
returns g c =
    let base = rw c.base.ensures at (amounts-sent c.base.result.now _ _ c.in_ok-send_amounts.ensures) in
    let blockers = rw c.blockers.ensures at (blockers-sent c.blockers.result.now _ _ c.in_ok-send_blockers.ensures) in
    on_ok_weaker c.end_map.result (λ ended. (
      _,
      c.in_ok-begin_map.ensures,
      (_, _, c.in_ok-key.ensures, base, (_, _, c.in_ok-key-2.ensures, blockers, ended)),
    )) c.end_map.ensures
