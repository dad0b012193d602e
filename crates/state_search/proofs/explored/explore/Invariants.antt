use Rattle.state_search.proofs.Exploring.{AreExploring}
use Rattle.state_search.proofs.explored.explore.Given as goal

abbrev pub invariant-loop-round : goal.invariant-loop-round
invariant-loop-round l = AreExploring l.system l.bound l.most l.search.states l.search.waiting.items l.round
