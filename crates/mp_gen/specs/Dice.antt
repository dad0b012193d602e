-- Numbers drawn from a seed. Each is made of the next word of PCG XSH RR 64/32 (O'Neill 2014, PCG: a family of simple fast
-- space-efficient statistically good algorithms for random number generation).
use Rattle.std.specs.Prelude.{ℕ, ◌%◌}
use Rattle.rand_pcg.specs.Lcg.{Lcg, started, increment_of}
use Rattle.rand_pcg.specs.Pcg.{multiplier_64, pcg32}

-- the generator of a seed, before its first word; its stream is 1
unfoldable pub dice_of : ℕ → Lcg
dice_of seed = started 64 multiplier_64 seed (increment_of 64 1)

-- the next word modulo n, and the generator after that word
unfoldable pub draw : ℕ → Lcg → ℕ × Lcg
draw n dice = let (word, left) = pcg32 dice in (word % n, left)
