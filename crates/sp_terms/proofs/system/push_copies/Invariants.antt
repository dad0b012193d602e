use Rattle.std.proofs.Common.{◌≡◌, ◌++◌, replicate}
use Rattle.sp_terms.proofs.system.push_copies.Given as goal

abbrev pub invariant-loop-i : goal.invariant-loop-i
invariant-loop-i l = l.pending.items ≡ l.initial.pending.items ++ replicate l._i l.term
