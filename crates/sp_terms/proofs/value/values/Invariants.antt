use Rattle.std.proofs.Common.{◌≡◌, vec_len}
use Rattle.sp_terms.specs.Values.{AreValues}
use Rattle.sp_terms.proofs.value.values.Given as goal

abbrev pub invariant-loop-done : goal.invariant-loop-done
invariant-loop-done l = record { len : vec_len l.values ≡ l.done; known : AreValues l.terms l.values.items l.done }
