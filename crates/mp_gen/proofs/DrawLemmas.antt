-- What is drawn is below its bound.
use Rattle.std.proofs.Common.{ℕ, ◌<◌}
use Rattle.std.proofs.Math.Nat.{mod-lt}
use Rattle.rand_pcg.specs.Lcg.{Lcg}
use Rattle.rand_pcg.specs.Pcg.{pcg32}
use Rattle.mp_gen.specs.Dice.{draw}

pub draw-below : (n : ℕ) (dice : Lcg) → 0 < n → (draw n dice).0 < n
unfolding draw
draw-below n dice some = mod-lt (pcg32 dice).0 some
