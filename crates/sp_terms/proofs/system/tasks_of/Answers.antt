use Rattle.std.proofs.Common.{ap, ◌∙◌, Vec, Global}
use Rattle.mp_system.specs.declared.system.Task.{Task}
use Rattle.sp_terms.specs.declared.position.Position.TheVariants.{Hold}
use Rattle.sp_terms.proofs.SystemLemmas.{step_task, step_other}
use Rattle.sp_terms.proofs.system.tasks_of.Goals as goal
use Rattle.sp_terms.proofs.system.tasks_of.Goals.{in-Task+in_ok-push, in_default}

pub loop-position-preserved : goal.loop-position-preserved
loop-position-preserved c =
    elim c.match-position.branch [
      | in-Task+in_ok-push w ↦ ap (λ (z : Vec Task Global). z.items) w.tasks-is ∙ w.in_ok-push.ensures.items
          ∙ step_task c.args.positions.now c.loop-position.position-index
          (Hold 0) _ _ c.loop-position-test.true w.in-Task.is c.loop-position.invariant
      | in_default w ↦ ap (λ (z : Vec Task Global). z.items) w.tasks-is
          ∙ step_other c.args.positions.now c.loop-position.position-index
          (Hold 0) _ c.loop-position-test.true w.in_default.not-Task c.loop-position.invariant
    ]
