use Rattle.c_calls.proofs.RoomForClaims.{most, told, enough, again}
use Rattle.c_calls.proofs.laws.room_for_claims.Goals as goal

pub returns : goal.returns
returns c = record {
  most = most c.forest_law.ensures.each;
  told = told c.forest_law.ensures.each;
  enough = enough c.forest_law.ensures.each;
  again = again c.forest_law.ensures.each;
}
