use Rattle.std.proofs.Common.{◌+◌, arith, refl}
use Rattle.trees.proofs.AscentLemmas.{LookedAt-skip, LookedAt-ascended, cycle_here, own_marked, leads_to_root}
use Rattle.trees.proofs.roots.first_cycle_by.Goals as goal
use Rattle.trees.proofs.roots.first_cycle_by.Goals.{then-marks-i-eq0+else-comes_back, else-marks-i-eq0}

pub returns-then-comes_back : goal.returns-then-comes_back
returns-then-comes_back c = let e = c.if-comes_back.ensures in
    cycle_here _ _ _ c.loop-i.i _ _ c.loop-i.invariant refl (omega arith) c.mark_up-stop.ensures.way e.0 e.1

pub loop-i-preserved : goal.loop-i-preserved
loop-i-preserved c = elim c.if-marks-i-eq0.branch [
  | then-marks-i-eq0+else-comes_back w ↦ (
      let way = w.mark_up-stop.ensures.way in
      let climbed = LookedAt-ascended c.args.nodes.now c.loop-i.marks w.mark_up-stop.new.marks c.loop-i.i
      (c.loop-i.i + 1) w.mark_up-stop.result c.loop-i.invariant refl
      (omega arith) way w.mark_up-stop.ensures.ends w.if-comes_back.ensures (λ v. omega (arith, w.mark_up-stop.ensures.below v))
      (own_marked c.args.nodes.now c.loop-i.marks w.mark_up-stop.new.marks
      (c.loop-i.i + 1) w.mark_up-stop.result (omega arith) way w.mark_up-stop.ensures.ends) in
      rw w.marks-is climbed
      )
  | else-marks-i-eq0 w ↦ rw w.marks-is (LookedAt-skip c.args.nodes.now c.loop-i.marks c.loop-i.i c.loop-i.invariant w.if-marks-i-eq0.false)
]

pub returns : goal.returns
returns c = λ v node. let l = c.loop-i.invariant in
    leads_to_root c.args.nodes.now _ v (l.leads v node.0 node.1 (l.seen v node.0 (omega arith)))
