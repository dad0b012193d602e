use Rattle.std.proofs.Common.{◌≡◌, map, take, drop, length}
use Rattle.c_calls.specs.Answers.{claim_given}
use Rattle.c_calls.proofs.claims.hand_out.Given as goal

abbrev pub invariant-loop-i : goal.invariant-loop-i
invariant-loop-i l = record {
  written : map claim_given (take l.i l.room) ≡ take l.i l.claims;
  past : drop (length l.claims) l.room ≡ drop (length l.claims) l.initial.room;
}
