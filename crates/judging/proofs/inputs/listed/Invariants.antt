use Rattle.std.proofs.Common.{◌≡◌, take}
use Rattle.judging.proofs.inputs.listed.Given as goal

abbrev pub invariant-loop-place : goal.invariant-loop-place
invariant-loop-place l = l.numbers.items ≡ take l.place l.perm
