use Rattle.std.proofs.Common.{arith, refl}
use Rattle.joined_systems.proofs.Marks.{two_of, one_of}
use Rattle.joined_systems.proofs.needs.has_two.Goals as goal

pub returns-then-takers-row : goal.returns-then-takers-row
returns-then-takers-row c =
    (λ e. two_of c.args.takers.now c.args.row.now c.loop-i.i (omega (arith, c.loop-i-test.true)) c.if-takers-row.true, λ two. refl)

pub returns : goal.returns
returns c = (
  λ e. absurd (cc),
  λ two. absurd (one_of c.args.takers.now c.args.row.now (λ k lt. c.loop-i.invariant k (omega (arith, lt, c.loop-i-test.false))) two),
)
