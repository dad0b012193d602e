use Rattle.std.proofs.Common.{List, ap, sym, subst, ◌∙◌, arith}
use Rattle.rand_pcg.specs.Lcg.{Lcg}
use Rattle.sp_terms.specs.declared.position.Position.{Position}
use Rattle.sp_terms.specs.Builder.{IsOneTerm}
use Rattle.mp_gen.specs.Dice.{dice_of}
use Rattle.mp_gen.specs.RandomWorkflow.{with_one, with_tasks}
use Rattle.mp_gen.specs.Room.{HasRoomFor}
use Rattle.mp_gen.proofs.RoomLemmas.{tasks-room, tasks-more, all-tasks, workflow_of-one}
use Rattle.mp_gen.proofs.workflow.gen_workflow.Goals as goal

pub loop-i-init : goal.loop-i-init
unfolding with_tasks
loop-i-init c = record { positions = c.new-builder.ensures; dice = c.dice_of-dice.ensures }

pub put_one-requires : goal.put_one-requires
put_one-requires c =
    subst (λ (ps : List Position). HasRoomFor ps 4 1 3000) (sym c.loop-i.invariant.positions)
    (tasks-room c.loop-i._i (dice_of c.args.seed) 4 1 3000 (omega arith) (omega arith) (omega arith))

pub loop-i-preserved : goal.loop-i-preserved
loop-i-preserved c =
    let at = c.loop-i.invariant in
    let one = c.in_ok-put_one.ensures ∙ (λ k. with_one (at.positions k) (at.dice k)) in
    let more = one ∙ sym (tasks-more c.loop-i._i (dice_of c.args.seed)) in
    record { positions = ap (λ (p : List Position × Lcg). p.0) more; dice = ap (λ (p : List Position × Lcg). p.1) more }

pub close-requires : goal.close-requires
close-requires c =
    subst (λ (ps : List Position). HasRoomFor ps 1 0 0) (sym c.loop-i.invariant.positions)
    (tasks-room c.loop-i._i (dice_of c.args.seed) 1 0 0 (omega arith) (omega arith) (omega arith))

pub unreachable-requires : goal.unreachable-requires
unreachable-requires c =
    let at = c.loop-i.invariant.positions in
    let all = all-tasks c.args.seed c.args.n c.loop-i._i _ _ (omega arith) (omega arith) at c.in_ok-close.ensures in
    c.in-Err.ensures.0 (subst IsOneTerm (sym all) (workflow_of-one c.args.seed c.args.n c.requires.some c.requires.few))

pub returns : goal.returns
returns c =
    let at = c.loop-i.invariant.positions in
    c.in-Ok.ensures.1 ∙ all-tasks c.args.seed c.args.n c.loop-i._i _ _ (omega arith) (omega arith) at c.in_ok-close.ensures
