use Rattle.std.proofs.Common.{◌≡◌, ◌++◌}
use Rattle.std.specs.Prelude.{replicate}
use Rattle.joined_systems.proofs.kinds.push_makers.Given as goal

abbrev pub invariant-loop-i : goal.invariant-loop-i
invariant-loop-i l = l.makers.items ≡ l.initial.makers.items ++ replicate l._i l.maker
