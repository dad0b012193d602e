use Rattle.std.proofs.Common.{◌≡◌, ℕ, ◌+◌, ◌-◌, List, [], ◌∷◌, ◌++◌, length, get_or, take, sym, ap, subst, ◌∙◌, arith}
use Rattle.std.specs.Prelude.{All}
use Rattle.std.proofs.lemmas.List.{take_all, take_more}
use Rattle.mp_system.specs.declared.system.Item.{Item}
use Rattle.mp_system.specs.declared.system.Task.{Task}
use Rattle.mp_system.specs.System.{inputs_of, outputs_of}
use Rattle.mp_system.specs.Memory.{stands_in, state_memory}
use Rattle.mp_system.specs.Replay.{has_run}
use Rattle.fences.specs.Workers.{relieved}
use Rattle.fencing.specs.Needs.{taken_need}
use Rattle.fencing.specs.Takings.{HasProducer, IsLedger, Takes}
use Rattle.fencing.proofs.Running.{can_come, fresh, holds_outputs, ran_next, runs_at, start_within, state_is, stepped, taken_is, taken_within, task}
use Rattle.fencing.proofs.Relieved.{as_many_tasks, task_in, traversal_in}
use Rattle.fencing.proofs.Ledgers.{ledger_next, ledger_start, takings_are}
use Rattle.fencing.proofs.along.takings_along.Goals as goal

pub overflow_sub-bound : goal.overflow_sub-bound
overflow_sub-bound c =
    let system = c.args.system.now in
    let replay = c.in_ok-replay.replay in
    omega (
      arith,
      state_is system replay.system (has_run replay) [] c.memory.result c.in_ok-replay.ensures.system c.in_ok-replay.ensures.none c.memory.ensures,
      start_within c.peak_law.ensures.bound (relieved c.args.room system) c.args.order.now,
      c.requires.bound,
    )

pub loop-task-init : goal.loop-task-init
loop-task-init c =
    let system = c.args.system.now in
    let replay = c.in_ok-replay.replay in
    let start = state_is system replay.system (has_run replay) [] c.memory.result c.in_ok-replay.ensures.system c.in_ok-replay.ensures.none c.memory.ensures in
    let within = start_within c.peak_law.ensures.bound (relieved c.args.room system) c.args.order.now in
    record {
      system = c.in_ok-replay.ensures.system;
      places = c.in_ok-ledger.ensures.places ∙ ap (λ (l : List Task). length l + 1) c.tasks.ensures.value;
      ran = c.in_ok-replay.ensures.none;
      is_ledger = rw (c.in_ok-ledger.ensures.pieces, c.in_ok-ledger.ensures.takings, c.in_ok-ledger.ensures.pool) (ledger_start (relieved c.args.room system) c.args.bound (c.args.bound - c.memory.result) (omega (arith, start, within, c.requires.bound)));
    }

pub run-running-requires-clause-can : goal.run-running-requires-clause-can
run-running-requires-clause-can c =
    can_come c.args.system.now c.args.order.now c.requires.traversal c.loop-task.task-index c.loop-task-test.true (has_run c.loop-task.replay) c.loop-task.invariant.ran

pub take-requires-clause-inputs : goal.take-requires-clause-inputs
take-requires-clause-inputs c =
    let order = c.args.order.now in
    let i = c.loop-task.task-index in
    rw (c.row.ensures, c.items.ensures.value)
    (c.in_ok-rows.ensures.inputs (get_or order i 0) (task c.args.system.now order c.requires.traversal i c.loop-task-test.true))

pub take-requires-clause-places : goal.take-requires-clause-places
take-requires-clause-places c =
    let places = c.loop-task.ledger.places.items in
    let all : All (HasProducer (length places)) c.args.system.now.items =
    λ k d lt u from. (let producer = (c.keeps.ensures.items k d lt).producer u from in omega (arith, producer.1, c.loop-task.invariant.places)) in
    subst (λ (l : List Item). All (HasProducer (length places)) l) (sym c.items.ensures.value) all

-- what is taken is what the task takes
pub take-requires-clause-enough : goal.take-requires-clause-enough
take-requires-clause-enough c =
    let system = c.args.system.now in
    let order = c.args.order.now in
    let i = c.loop-task.task-index in
    let lt = c.loop-task-test.true in
    let is = c.requires.traversal in
    let at = c.loop-task.invariant in
    let replay = c.loop-task.replay in
    let after = c.run-running.new.replay in
    omega (
      arith,
      at.is_ledger.whole,
      state_is system replay.system (has_run replay) (take i order) c.memory-before.result at.system at.ran c.memory-before.ensures,
      runs_at system order is i lt (has_run replay) at.ran c.run-running.result c.run-running.ensures.running,
      state_is system after.system (has_run after) (take (i + 1) order) c.memory-after.result (c.run-running.ensures.system ∙ at.system)
          (ran_next system order is i lt (has_run replay) at.ran (has_run after) c.run-running.ensures.next) c.memory-after.ensures,
      taken_is system order is i lt c.ready_law.ensures c.state_step_law.ensures c.args.room,
      taken_within system order is i lt c.ready_law.ensures c.state_step_law.ensures c.args.room c.peak_law.ensures.bound,
      c.saturating_sub-need.ensures,
      c.saturating_sub.ensures,
      c.max-taken.ensures,
      c.requires.bound,
    )

pub loop-task-preserved : goal.loop-task-preserved
loop-task-preserved c =
    let system = c.args.system.now in
    let lighter = relieved c.args.room system in
    let order = c.args.order.now in
    let i = c.loop-task.task-index in
    let lt = c.loop-task-test.true in
    let is = c.requires.traversal in
    let at = c.loop-task.invariant in
    let replay = c.loop-task.replay in
    let after = c.run-running.new.replay in
    let v = get_or order i 0 in
    let own = task system order is i lt in
    let ran = ran_next system order is i lt (has_run replay) at.ran (has_run after) c.run-running.ensures.next in
    let start = state_is system replay.system (has_run replay) (take i order) c.memory-before.result at.system at.ran c.memory-before.ensures in
    let running = runs_at system order is i lt (has_run replay) at.ran c.run-running.result c.run-running.ensures.running in
    let end = state_is system after.system (has_run after) (take (i + 1) order) c.memory-after.result (c.run-running.ensures.system ∙ at.system) ran c.memory-after.ensures in
    let step = stepped system order is i lt c.ready_law.ensures c.state_step_law.ensures in
    let took = c.in_ok-take.ensures.takes in
    let takes = subst (λ (l : List Item). Takes l v took.0 c.loop-task.ledger.pieces.items c.take.new.self.pieces.items c.loop-task.ledger.takings.items c.take.new.self.takings.items) c.items.ensures.value took.3 in
    let taken : c.max-taken.result ≡ taken_need lighter v = omega (
      arith,
      taken_is system order is i lt c.ready_law.ensures c.state_step_law.ensures c.args.room,
      c.saturating_sub-need.ensures,
      c.saturating_sub.ensures,
      c.max-taken.ensures,
      start,
      running,
      end,
    ) in
    let freed : c.memory-before.result + c.max-taken.result - c.memory-after.result + outputs_of system v ≡ inputs_of system v + taken_need lighter v =
    omega (arith, taken, start, end, step, holds_outputs lighter v) in
    let next : take (i + 1) order ≡ take i order ++ v ∷ [] = take_more order i 0 lt in
    record {
      system = c.run-running.ensures.system ∙ at.system;
      places = c.in_ok-give.ensures.places ∙ c.in_ok-take.ensures.places ∙ at.places;
      ran = ran;
      is_ledger =
          rw (next, c.in_ok-give.ensures.pieces, c.in_ok-give.ensures.takings, c.in_ok-give.ensures.pool)
          (ledger_next lighter c.args.bound (take i order) v (task_in c.args.room system v own) (fresh system order is i lt) c.loop-task.ledger.pool c.take.new.self.pool
          c.loop-task.ledger.pieces.items c.take.new.self.pieces.items c.loop-task.ledger.takings.items c.take.new.self.takings.items took.0
          (c.memory-before.result + c.max-taken.result - c.memory-after.result) at.is_ledger takes freed
          (ap (λ (l : List ℕ). state_memory system (stands_in l) + inputs_of system v) (sym next) ∙ step)
          (omega (arith, took.1, taken)) (omega (arith, took.2, taken)) c.in_ok-take.ensures.few c.in_ok-take.ensures.unfenced);
    }

pub returns : goal.returns
returns c =
    let system = c.args.system.now in
    let lighter = relieved c.args.room system in
    let order = c.args.order.now in
    let is = c.requires.traversal in
    let whole = take_all c.loop-task.task-index order c.loop-task-test.false in
    let ledger = c.loop-task.ledger in
    let at : IsLedger lighter c.args.bound order ledger.pool ledger.pieces.items ledger.takings.items =
    subst (λ (l : List ℕ). IsLedger lighter c.args.bound l ledger.pool ledger.pieces.items ledger.takings.items) whole c.loop-task.invariant.is_ledger in
    takings_are lighter c.args.bound order ledger.pool ledger.pieces.items ledger.takings.items at (traversal_in c.args.room system order is)
    (omega (arith, c.traversal_law.ensures.long system order is, as_many_tasks c.args.room system))
