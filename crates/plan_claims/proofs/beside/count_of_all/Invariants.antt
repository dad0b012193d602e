use Rattle.std.proofs.Common.{◌≡◌, ◌+◌, drop}
use Rattle.plan_claims.specs.Levels.{counted}
use Rattle.plan_claims.proofs.beside.count_of_all.Given as goal

abbrev pub invariant-loop-part : goal.invariant-loop-part
invariant-loop-part l = l.all + counted (drop l.part-index l.parts) ≡ counted l.parts
