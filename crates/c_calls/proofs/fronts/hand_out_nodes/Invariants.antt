use Rattle.std.proofs.Common.{◌≡◌, take, drop, length}
use Rattle.c_calls.proofs.fronts.hand_out_nodes.Given as goal

abbrev pub invariant-loop-i : goal.invariant-loop-i
invariant-loop-i l = record {
  written : take l.i l.room ≡ take l.i l.nodes;
  past : drop (length l.nodes) l.room ≡ drop (length l.nodes) l.initial.room;
}
