-- The memory after a list of tasks, and while one more task runs.
use Rattle.std.specs.Prelude.{ℕ, List}
use Rattle.mp_system.specs.System.{TaskSystem}
use Rattle.mp_system.specs.Memory.{state_memory, running_memory, stands_in}

abbrev pub memory_after : TaskSystem → List ℕ → ℕ
memory_after system done = state_memory system (stands_in done)

abbrev pub memory_while : TaskSystem → List ℕ → ℕ → ℕ
memory_while system done v = running_memory system (stands_in done) v
