use Rattle.std.proofs.Common.{arith}
use Rattle.sp_cuts.proofs.Pushed.{hold_done, hold_fits, series_ready, task_done, par_ready}
use Rattle.sp_cuts.proofs.Pushed.{par_position, hold_steps, task_steps, par_position_steps}
use Rattle.sp_cuts.proofs.planning.push_position.Goals as goal

pub hold-requires : goal.hold-requires
hold-requires g c = record { size = hold_fits _ _ _ _ _ c.in-Hold.is c.requires.ready }

pub push_series-requires : goal.push_series-requires
push_series-requires g c = record { ready = series_ready _ _ _ _ _ _ _ c.in-Task.is c.requires.ready }

pub push_par-requires : goal.push_par-requires
push_par-requires g c = record { ready = par_ready _ _ _ _ _ c.in-Par.is c.requires.ready }

pub returns-in_ok-push-in-Hold-clause-done : goal.returns-in_ok-push-in-Hold-clause-done
returns-in_ok-push-in-Hold-clause-done g c =
    hold_done c.args.ropes.now c.args.stack.now.items c.args.position c.in-Hold.size c.args.next c.hold.result
    c.push.new.self.items c.in-Hold.is c.hold.ensures.cut c.hold.ensures.part c.hold.ensures.peak c.in_ok-push-in-Hold.ensures.items

pub returns-in_ok-push_series-in-Task-clause-done : goal.returns-in_ok-push_series-in-Task-clause-done
returns-in_ok-push_series-in-Task-clause-done g c =
    task_done c.args.ropes.now c.push_series.new.ropes c.args.stack.now.items c.push_series.new.stack.items
    c.args.position c.in-Task.extra c.in-Task.share _ c.args.next c.in-Task.is c.in_ok-push_series-in-Task.ensures.done

pub returns-in_ok-push_par-in-Par-clause-done : goal.returns-in_ok-push_par-in-Par-clause-done
returns-in_ok-push_par-in-Par-clause-done g c = par_position c.args.ropes.now c.push_par.new.ropes c.args.stack.now.items
    c.push_par.new.stack.items c.args.position c.in-Par.many c.args.next c.in-Par.is c.in_ok-push_par-in-Par.ensures.done

pub returns-in_err-push-in-Hold-clause-steps : goal.returns-in_err-push-in-Hold-clause-steps
returns-in_err-push-in-Hold-clause-steps g c = hold_steps c.args.ropes.now c.args.stack.now.items
    c.args.position c.in-Hold.size c.args.steps.now c.args.steps.now c.in-Hold.is (omega arith)

pub returns-in_ok-push-in-Hold-clause-steps : goal.returns-in_ok-push-in-Hold-clause-steps
returns-in_ok-push-in-Hold-clause-steps g c = hold_steps c.args.ropes.now c.args.stack.now.items
    c.args.position c.in-Hold.size c.args.steps.now c.args.steps.now c.in-Hold.is (omega arith)

pub returns-in_err-push_series-in-Task-clause-steps : goal.returns-in_err-push_series-in-Task-clause-steps
returns-in_err-push_series-in-Task-clause-steps g c = task_steps c.args.ropes.now c.args.stack.now.items c.args.position
    c.in-Task.extra c.in-Task.share c.in-Task.time c.args.steps.now c.push_series.new.steps c.in-Task.is c.push_series.ensures.steps

pub returns-in_ok-push_series-in-Task-clause-steps : goal.returns-in_ok-push_series-in-Task-clause-steps
returns-in_ok-push_series-in-Task-clause-steps g c = task_steps c.args.ropes.now c.args.stack.now.items c.args.position
    c.in-Task.extra c.in-Task.share c.in-Task.time c.args.steps.now c.push_series.new.steps c.in-Task.is c.push_series.ensures.steps

pub returns-in_err-push_par-in-Par-clause-steps : goal.returns-in_err-push_par-in-Par-clause-steps
returns-in_err-push_par-in-Par-clause-steps g c = par_position_steps c.args.ropes.now c.args.stack.now.items
    c.args.position c.in-Par.many c.args.steps.now c.push_par.new.steps c.in-Par.is c.push_par.ensures.steps

pub returns-in_ok-push_par-in-Par-clause-steps : goal.returns-in_ok-push_par-in-Par-clause-steps
returns-in_ok-push_par-in-Par-clause-steps g c = par_position_steps c.args.ropes.now c.args.stack.now.items
    c.args.position c.in-Par.many c.args.steps.now c.push_par.new.steps c.in-Par.is c.push_par.ensures.steps
