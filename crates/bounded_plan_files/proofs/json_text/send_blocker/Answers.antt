use Rattle.std.proofs.lemmas.Result.{on_ok_weaker}
use Rattle.bounded_plan_files.proofs.JsonLemmas.{amounts-sent}
use Rattle.bounded_plan_files.proofs.json_text.send_blocker.Goals as goal

pub returns : goal.returns
returns g c =
    let task = rw c.task.ensures at c.in_ok-serialize.ensures in
    let amounts = rw c.amounts.ensures at (amounts-sent c.amounts.result.now _ _ c.in_ok-send_amounts.ensures) in
    on_ok_weaker c.end_seq.result (λ ended. (_, c.in_ok-begin_seq.ensures, (_, task, (_, amounts, ended)))) c.end_seq.ensures
