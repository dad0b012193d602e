use Rattle.std.proofs.Common.{◌+◌, ◌∙◌, ap, length}
use Rattle.std.proofs.lemmas.List.{length_push}
use Rattle.elimination.proofs.dense.empty_rows.Goals as goal

pub loop-preserved : goal.loop-preserved
loop-preserved c = ap length c.in_ok-push.ensures.items ∙ length_push c.loop.rows.items c.empty.result ∙ ap (λ n. n + 1) c.loop.invariant
