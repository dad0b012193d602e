use Rattle.std.proofs.Common.{ℕ, ap}
use Rattle.std.specs.Prelude.{◌%◌}
use Rattle.rand_pcg.specs.Lcg.{Lcg}
use Rattle.mp_gen.specs.Dice.{draw}
use Rattle.mp_gen.proofs.dice.draw.Goals as goal

pub returns-clause-value : goal.returns-clause-value
unfolding draw
returns-clause-value c = let drawn : ℕ × Lcg → ℕ × Lcg = λ p. (p.0 % c.args.n, p.1) in ap drawn c.next_word.ensures
