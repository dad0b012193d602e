use Rattle.std.proofs.Common.{◌≡◌, ◌≤◌, ◌<◌, ℕ, true}
use Rattle.sp_reduce.specs.Work.{stands, AreTasks}
use Rattle.sp_reduce.proofs.rounds.all_tasks.Given as goal

abbrev pub invariant-loop-v : goal.invariant-loop-v
invariant-loop-v l = record {
  listed : AreTasks l.tasks l.todo.items;
  each : (u : ℕ) → 1 ≤ u → u < l.v → stands u l.todo.items ≡ true;
}
