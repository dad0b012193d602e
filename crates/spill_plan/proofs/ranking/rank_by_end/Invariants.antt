use Rattle.spill_plan.proofs.Rankings.{AreRanked}
use Rattle.spill_plan.proofs.ranking.rank_by_end.Given as goal

abbrev pub invariant-loop-end : goal.invariant-loop-end
invariant-loop-end l = AreRanked l.spans l.end l.ranks.items
