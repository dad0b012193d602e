use Rattle.std.proofs.Common.{take, length}
use Rattle.peak_bounds.proofs.Searching.{IsSpread}
use Rattle.peak_bounds.proofs.search.spread_from.Given as goal

abbrev pub invariant-loop-place : goal.invariant-loop-place
invariant-loop-place l =
    IsSpread (length l.initial.marks) l.far (take l.place-index l.places) l.initial.marks l.marks l.initial.work.items l.work.items
