use Rattle.std.proofs.Common.{arith, length, drop, ◌-◌}
use Rattle.std.proofs.lemmas.List.{length-drop, length-take}
use Rattle.mp_outside.proofs.Pieces.{Appended-more}
use Rattle.mp_outside.proofs.writing.write_all.Goals as goal

pub loop-at-preserved : goal.loop-at-preserved
loop-at-preserved g c =
    let e = c.in-Ok.ensures in
    record {
      within = omega (
        arith,
        e.bound,
        e.some,
        length-drop c.loop-at.at c.args.bytes.now,
        length-take (length c.args.bytes.now - c.loop-at.at) (drop c.loop-at.at c.args.bytes.now),
        c.loop-at.invariant.within,
      );
      written =
          Appended-more _ _ _ c.args.bytes.now c.loop-at.at c.in-Ok.count c.loop-at.invariant.within c.loop-at.invariant.written e.bytes;
      later = omega (arith, c.loop-at.invariant.later, e.later);
      empty = λ none. absurd (omega (arith, none, c.loop-at-test.true));
    }
