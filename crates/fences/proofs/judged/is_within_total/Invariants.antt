use Rattle.std.proofs.Common.{◌≡◌, ◌≤◌, take, sum}
use Rattle.fences.specs.Judged.{most_handed_on}
use Rattle.fences.proofs.judged.is_within_total.Given as goal

abbrev pub invariant-loop-amount : goal.invariant-loop-amount
invariant-loop-amount l = record { total : l.total ≡ sum (take l.amount-index l.amounts); few : l.total ≤ most_handed_on }
