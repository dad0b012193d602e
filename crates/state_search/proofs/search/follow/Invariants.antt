use Rattle.std.proofs.Common.{◌≡◌, ℕ, true, take}
use Rattle.mp_system.specs.Memory.{stands_in}
use Rattle.shared_systems.specs.Shared.{SharedTaskSystem}
use Rattle.state_search.specs.States.{without, IsStepBack}
use Rattle.state_search.specs.Kept.{AreLookedAt, IsKept, Extends}
use Rattle.state_search.proofs.search.follow.Given as goal

abbrev pub invariant-loop-task : goal.invariant-loop-task
invariant-loop-task l = record {
  marks : l.marks ≡ l.initial.marks;
  looked : (system : SharedTaskSystem) (bound : ℕ) → AreLookedAt system bound l.initial.search.states
      → ((v : ℕ) → stands_in l.steps v ≡ true → IsStepBack system bound l.initial.marks v)
      → AreLookedAt system bound l.search.states;
  extends : Extends l.initial.search.states.rows l.initial.search.waiting.items l.search.states.rows l.search.waiting.items;
  kept : (v : ℕ) → stands_in (take l.task-index l.steps) v ≡ true → IsKept l.search.states.rows (without l.initial.marks v);
}
