use Rattle.std.proofs.Common.{◌-◌, get_or, ◌∙◌}
use Rattle.shared_systems.specs.Shared.{HasTask}
use Rattle.std.proofs.lemmas.Result.{IfOk-weaker}
use Rattle.activation.proofs.Numbers.{number_at}
use Rattle.activation.proofs.Placing.{placed}
use Rattle.activation.proofs.waiting.waiting_of.Goals as goal

pub returns : goal.returns
returns c =
    let list = c.in_ok-waiting.waiting.items in
    IfOk-weaker c.by_place.result _ _
    (λ made is. placed (λ t. get_or list (t - 1) 0) {P = HasTask c.args.system.now} c.requires
    (rw c.deref.ensures.value at is) (λ t it. number_at list t it.0 ∙ c.in_ok-waiting.ensures.counts t)) c.by_place.ensures
