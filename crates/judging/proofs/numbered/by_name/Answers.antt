use Rattle.std.proofs.Common.{arith}
use Rattle.judging.proofs.NumberLemmas.{by_names}
use Rattle.judging.proofs.numbered.by_name.Goals as goal

pub returns : goal.returns
returns c =
    by_names c.args.names.now c.args.positions.now c.requires.names c.requires.many c.loop-i.named.items c.loop-i.invariant.long
    (λ k h. c.loop-i.invariant.each k (omega (arith, h, c.loop-i-test.false)))
