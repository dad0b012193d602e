use Rattle.std.proofs.Common.{take}
use Rattle.rounds_run.specs.Gathering.{Adds, in_lists}
use Rattle.rounds_run.proofs.gathering.add_lists.Given as goal

abbrev pub invariant-loop-numbers : goal.invariant-loop-numbers
invariant-loop-numbers l = Adds (in_lists (take l.numbers-index l.lists)) l.fn.list.items l.list.items
