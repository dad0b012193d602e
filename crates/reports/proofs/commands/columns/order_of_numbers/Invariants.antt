use Rattle.std.proofs.Common.{◌≡◌, take}
use Rattle.reports.proofs.commands.columns.order_of_numbers.Given as goal

abbrev pub invariant-loop-number : goal.invariant-loop-number
invariant-loop-number l = (l.order.numbers ≡ take l.number-index l.numbers) × (l.order.n ≡ l.n)
