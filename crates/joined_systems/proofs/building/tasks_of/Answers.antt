use Rattle.std.proofs.Common.{List, ◌++◌, ◌∷◌, [], ap, ◌∙◌, arith}
use Rattle.mp_system.specs.declared.system.Task.{Task}
use Rattle.joined_systems.proofs.JoinCode.{join_with, tasks_more}
use Rattle.joined_systems.proofs.building.tasks_of.Goals as goal

pub loop-k-preserved : goal.loop-k-preserved
loop-k-preserved c =
    c.in_ok-push.ensures.items ∙ ap (λ (l : List Task). l ++ join_with c.args.shares.now c.loop-k.k ∷ []) c.loop-k.invariant
    ∙ tasks_more c.args.tasks.now c.args.shares.now c.loop-k.k (omega arith)
