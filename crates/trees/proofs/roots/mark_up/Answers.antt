use Rattle.std.proofs.Common.{arith, ◌-◌}
use Rattle.trees.proofs.AscentLemmas.{IsAscent-start, IsAscent-next, unmarked-set, parent_is, below_after}
use Rattle.trees.proofs.roots.mark_up.Goals as goal

pub loop-at-init : goal.loop-at-init
loop-at-init c = IsAscent-start c.args.nodes.now c.args.marks.now c.args.from c.requires.len c.requires.from.1 c.requires.below

pub loop-at-smaller : goal.loop-at-smaller
loop-at-smaller c = omega (
  arith,
  unmarked-set c.loop-at.marks (c.loop-at.at - 1) c.args.from (omega (arith, c.loop-at.invariant.len, c.loop-at.invariant.within))
      c.if-marks-at-eq0.true (λ e. omega (arith, c.requires.from.0, e)),
)

pub loop-at-preserved : goal.loop-at-preserved
loop-at-preserved c =
    IsAscent-next c.args.nodes.now c.args.marks.now c.loop-at.marks c.args.from c.loop-at.at _ c.loop-at.invariant c.loop-at-test.true
    (λ e. omega (arith, c.requires.from.0, e)) c.if-marks-at-eq0.true (parent_is c.args.nodes.now c.loop-at.at c.loop-at-test.true)
    (c.requires.parents (c.loop-at.at - 1) _ (omega (arith, c.loop-at.invariant.within)))

pub returns-else-marks-at-eq0-clause-below : goal.returns-else-marks-at-eq0-clause-below
returns-else-marks-at-eq0-clause-below c = below_after _ _ _ _ _ c.loop-at.invariant c.requires.below

pub returns-after-loop-at-clause-below : goal.returns-after-loop-at-clause-below
returns-after-loop-at-clause-below c = below_after _ _ _ _ _ c.loop-at.invariant c.requires.below
