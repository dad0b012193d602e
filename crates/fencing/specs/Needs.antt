-- What tasks take of what is free.
use Rattle.std.specs.Prelude.{ℕ, ◌-◌, max}
use Rattle.mp_system.specs.System.{TaskSystem, inputs_of, outputs_of, need_of}

-- what a task takes: what it needs, and at least what it leaves beyond what it takes up. In a system within the limits the need is no less, as a
-- share is at most the inputs; in one that is relieved it may be.
abbrev pub taken_need : TaskSystem → ℕ → ℕ
taken_need system v = max (need_of system v) (outputs_of system v - inputs_of system v)
