use Rattle.std.proofs.Common.{◌+◌, ◌-◌, vec_len}
use Rattle.peak_bounds.specs.Judging.{unmarked}
use Rattle.peak_bounds.proofs.Searching.{IsSearch}
use Rattle.peak_bounds.proofs.search.spread.Given as goal

abbrev pub invariant-loop-next : goal.invariant-loop-next
invariant-loop-next l = IsSearch l.near l.far l.initial.marks l.initial.work.items l.marks l.work.items l.next

abbrev pub decreases-loop-next : goal.decreases-loop-next
decreases-loop-next l = unmarked l.marks + vec_len l.work - l.next
