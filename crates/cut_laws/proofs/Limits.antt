-- A bound as a limit: memory within the bound is memory below the limit.
use Rattle.std.proofs.Common.{◌≡◌, ℕ, ◌-◌, ◌<◌, ◌≤◌, refl, arith}
use Rattle.std.specs.Prelude.{ℤ, pos, negsuc, ◌≤ℤ◌, ◌<ℤ◌, ◌-ℤ◌}
use Rattle.std.proofs.lemmas.Int.{ints}
use Rattle.hill_valley.specs.Side.{limit_from}

pub within-below : (m : ℕ) (b : ℤ) → pos m ≤ℤ b → m < limit_from b
within-below m (pos n) h = omega (arith, ints)
within-below m (negsuc n) h = absurd (omega (arith, ints))

pub below-within : (m : ℕ) (b : ℤ) → m < limit_from b → pos m ≤ℤ b
below-within m (pos n) h = omega (arith, ints)
below-within m (negsuc n) h = absurd (omega (arith, ints))

pub above-beyond : (m : ℕ) (b : ℤ) → limit_from b ≤ m → b <ℤ pos m
above-beyond m (pos n) h = omega (arith, ints)
above-beyond m (negsuc n) h = omega (arith, ints)

pub beyond-above : (m : ℕ) (b : ℤ) → b <ℤ pos m → limit_from b ≤ m
beyond-above m (pos n) h = omega (arith, ints)
beyond-above m (negsuc n) h = omega (arith, ints)

-- the bound decides the limit
of_bound : (b : ℤ) (n : ℕ) → b ≡ pos n -ℤ pos 1 → limit_from b ≡ n
of_bound (pos k) n h = omega (arith, ints, h)
of_bound (negsuc k) n h = omega (arith, ints, h)

of_less : (b c : ℤ) (n : ℕ) → c ≡ b -ℤ pos n → limit_from c ≡ limit_from b - n
of_less (pos k) (pos l) n h = omega (arith, ints, h)
of_less (pos k) (negsuc l) n h = omega (arith, ints, h)
of_less (negsuc k) (pos l) n h = omega (arith, ints, h)
of_less (negsuc k) (negsuc l) n h = omega (arith, ints, h)

-- the greatest bound below a limit has this limit
pub limit-below : (limit : ℕ) → limit_from (pos limit -ℤ pos 1) ≡ limit
limit-below limit = of_bound (pos limit -ℤ pos 1) limit (omega (arith, ints))

-- the bound of a part
pub limit-less : (b : ℤ) (n : ℕ) → limit_from (b -ℤ pos n) ≡ limit_from b - n
limit-less b n = of_less b (b -ℤ pos n) n refl

pub same-bound : (b : ℤ) → b ≤ℤ b
same-bound b = omega (arith, ints)
