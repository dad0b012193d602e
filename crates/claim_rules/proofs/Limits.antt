-- A bound as a limit: memory within the bound is memory below the limit.
use Rattle.std.proofs.Common.{ℕ, suc, ◌+◌, ◌-◌, ◌<◌, ◌≤◌, arith}
use Rattle.std.specs.Prelude.{ℤ, pos, negsuc, ◌≤ℤ◌, ◌<ℤ◌, ◌-ℤ◌}
use Rattle.std.proofs.lemmas.Int.{ints}

unfoldable pub limit_of : ℤ → ℕ
limit_of (pos n) = suc n
limit_of (negsuc n) = 0

pub within-below : (m : ℕ) (b : ℤ) → pos m ≤ℤ b → m < limit_of b
unfolding limit_of
within-below m (pos n) h = omega (arith, ints)
within-below m (negsuc n) h = absurd (omega (arith, ints))

pub below-within : (m : ℕ) (b : ℤ) → m < limit_of b → pos m ≤ℤ b
unfolding limit_of
below-within m (pos n) h = omega (arith, ints)
below-within m (negsuc n) h = absurd (omega (arith, ints))

pub above-beyond : (m : ℕ) (b : ℤ) → limit_of b ≤ m → b <ℤ pos m
unfolding limit_of
above-beyond m (pos n) h = omega (arith, ints)
above-beyond m (negsuc n) h = omega (arith, ints)

pub beyond-above : (m : ℕ) (b : ℤ) → b <ℤ pos m → limit_of b ≤ m
unfolding limit_of
beyond-above m (pos n) h = omega (arith, ints)
beyond-above m (negsuc n) h = omega (arith, ints)

-- the bound of a part, where all parts but it have these values
pub limit-less : (b c : ℤ) (value total : ℕ) → value ≤ total → (b -ℤ pos (total - value)) ≤ℤ c → limit_of b + value ≤ limit_of c + total
unfolding limit_of
limit-less (pos n) (pos k) value total le h = omega (arith, ints)
limit-less (pos n) (negsuc k) value total le h = omega (arith, ints)
limit-less (negsuc n) (pos k) value total le h = omega (arith, ints)
limit-less (negsuc n) (negsuc k) value total le h = omega (arith, ints)
