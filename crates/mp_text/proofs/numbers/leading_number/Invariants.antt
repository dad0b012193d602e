use Rattle.std.proofs.Common.{◌≤◌, ◌-◌, length}
use Rattle.mp_text.proofs.DigitLemmas.{Spells}
use Rattle.mp_text.proofs.numbers.leading_number.Given as goal

abbrev pub invariant-loop-len : goal.invariant-loop-len
invariant-loop-len l = record { within : l.len ≤ length l.text; spells : Spells l.text l.len l.value }

abbrev pub decreases-loop-len : goal.decreases-loop-len
decreases-loop-len l = length l.text - l.len
