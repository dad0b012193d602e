use Rattle.std.proofs.Common.{[], refl, arith}
use Rattle.bit_rows.proofs.WordBits.{bit_past}
use Rattle.bit_rows.proofs.row.BitRow.empty.Goals as goal

pub invariant_of-result : goal.invariant_of-result
invariant_of-result c = rw c.new.ensures.items (record {
  small = omega arith;
  long = refl;
  past = λ x le. bit_past [] x (omega arith);
})
