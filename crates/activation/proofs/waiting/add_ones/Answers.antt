use Rattle.std.proofs.Common.{cond, get_or, arith}
use Rattle.std.specs.Prelude.{◌==◌}
use Rattle.std.proofs.lemmas.List.{length-take}
use Rattle.std.proofs.lemmas.List.Sums.{sum_by_more, count_by-le-length}
use Rattle.std.proofs.Common.{take}
use Rattle.activation.proofs.Numbers.{number_at, raised}
use Rattle.activation.proofs.waiting.add_ones.Goals as goal

pub overflow_add-counts : goal.overflow_add-counts
overflow_add-counts c =
    let readers = c.args.readers.now in
    let i = c.loop-reader.reader-index in
    let t = get_or readers i 0 in
    let number = c.requires.readers i 0 c.loop-reader-test.true in
    omega (
      arith,
      number_at c.loop-reader.counts t number.0,
      c.loop-reader.invariant t,
      c.requires.few t,
      count_by-le-length (λ q. q == t) (take i readers),
      length-take i readers,
      c.loop-reader-test.true,
    )

pub loop-reader-preserved : goal.loop-reader-preserved
loop-reader-preserved c = λ t.
    let readers = c.args.readers.now in
    let i = c.loop-reader.reader-index in
    let number = c.requires.readers i 0 c.loop-reader-test.true in
    omega (
      arith,
      raised c.loop-reader.counts (get_or readers i 0) 1 number.0 (omega (arith, number.1, c.loop-reader.auto.counts)) t,
      c.loop-reader.invariant t,
      sum_by_more (λ q. cond (q == t) 1 0) readers i 0 c.loop-reader-test.true,
    )
