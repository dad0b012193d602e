-- What is set aside for all workers.
use Rattle.std.proofs.Common.{ℕ, ◌*◌, ◌/◌, ◌≤◌, arith}
use Rattle.std.proofs.Math.Nat.{div-le_of_le-mul, mul-div-le, mul-le-mul_left}

-- a part, in tenths, of the room that there is for each of them
pub part_within : (count top step free : ℕ) → top ≤ free / count → step ≤ 10 → count * (top * step / 10) ≤ free
part_within count top step free low few =
    let whole : top * step ≤ 10 * top = omega (arith, mul-le-mul_left top few) in
    let part : top * step / 10 ≤ free / count = omega (arith, div-le_of_le-mul 10 whole, low) in
    omega (arith, mul-le-mul_left count part, mul-div-le free count)
