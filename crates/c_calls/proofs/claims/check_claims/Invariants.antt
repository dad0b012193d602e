use Rattle.std.proofs.Common.{map, take}
use Rattle.c_calls.specs.Answers.{claim_given}
use Rattle.c_calls.specs.Refusals.{AreRisingClaims}
use Rattle.c_calls.proofs.RisingClaims.{GoesOn}
use Rattle.c_calls.proofs.claims.check_claims.Given as goal

abbrev pub invariant-loop-i : goal.invariant-loop-i
invariant-loop-i l = record { are : AreRisingClaims (take l.i l.claims); on : GoesOn (map claim_given (take l.i l.claims)) l.last }
