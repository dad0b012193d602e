use Rattle.std.proofs.Common.{arith}
use Rattle.segment_merge.proofs.Longest.{seeking_longer, seeking_on, seeking_ends, same_there}
use Rattle.segment_merge.proofs.merging.longest_place.Goals.{then-most-len, else-most-len}
use Rattle.segment_merge.proofs.merging.longest_place.Goals as goal

pub loop-i-preserved : goal.loop-i-preserved
loop-i-preserved c =
    let side = c.index-sides-i.result in
    let here = same_there c.args.sides.now c.loop-i.i side c.loop-i-test.true c.index-sides-i.is in
    let len = c.len-len.ensures.len in
    elim c.if-most-len.branch [
      | then-most-len w ↦ rw (w.most-is, w.place-is, len)
          (seeking_longer c.args.sides.now c.loop-i.i c.loop-i.place c.loop-i.most side c.loop-i.invariant
          c.loop-i-test.true here c.keeps.ensures (let h = w.if-most-len.true in omega (arith, h, len)))
      | else-most-len w ↦ rw (w.most-is, w.place-is)
          (seeking_on c.args.sides.now c.loop-i.i c.loop-i.place c.loop-i.most side c.loop-i.invariant
          c.loop-i-test.true here c.keeps.ensures (let h = w.if-most-len.false in omega (arith, h, len)))
    ]

pub returns-clause-longest : goal.returns-clause-longest
returns-clause-longest c =
    (seeking_ends _ _ _ _ c.loop-i.invariant (let a = c.loop-i.auto.i-end in let b = c.loop-i-test.false in omega arith)).longest_is

pub returns-clause-sides : goal.returns-clause-sides
returns-clause-sides c =
    (seeking_ends _ _ _ _ c.loop-i.invariant (let a = c.loop-i.auto.i-end in let b = c.loop-i-test.false in omega arith)).all
