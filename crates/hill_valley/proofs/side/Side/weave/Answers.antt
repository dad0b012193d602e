use Rattle.std.proofs.Common.{subst, Option, IfSome}
use Rattle.hill_valley.specs.declared.side.Seg.{Seg}
use Rattle.hill_valley.specs.Ropes.{IsRope}
use Rattle.hill_valley.specs.Merging.{IsNextMoved}
use Rattle.hill_valley.proofs.Kept.{ropes_kept}
use Rattle.hill_valley.proofs.Weaving.{woven_side, weaving_side, weaving_on, weaving_ends}
use Rattle.hill_valley.proofs.side.Side.weave.Goals as goal

pub push-requires : goal.push-requires
push-requires c =
    let next = subst (λ (o : Option Seg). IsNextMoved c.args.before c.loop-row.ropes c.take_lesser.new.ropes
    c.loop-row.other c.loop-row.self c.take_lesser.new.other c.take_lesser.new.own o) c.in-Some.is
    c.in_ok-seg.ensures.next in
    record {
      side = weaving_side _ _ _ _ _ _ _ _ c.take_lesser.new.other c.take_lesser.new.own
          _ c.loop-row.invariant.weaving c.take_lesser.ensures.kept c.in-Some.seg next
          (woven_side c.inserting.ensures.net c.inserting.ensures.rising c.args.before c.args.ropes.now
          c.args.other c.args.self.now c.keeps-2.ensures c.keeps.ensures c.requires.net);
    }

pub loop-row-preserved : goal.loop-row-preserved
loop-row-preserved c =
    let next = subst (λ (o : Option Seg). IsNextMoved c.args.before c.loop-row.ropes c.take_lesser.new.ropes
    c.loop-row.other c.loop-row.self c.take_lesser.new.other c.take_lesser.new.own o) c.in-Some.is
    c.in_ok-seg.ensures.next in
    let rope = subst (λ (o : Option Seg). IfSome o (λ s. IsRope c.take_lesser.new.ropes s.tasks)) c.in-Some.is c.in_ok-seg.ensures.rope in
    record {
      weaving = weaving_on _ _ _ _ _ _ _ _ _ _ _ c.loop-row.invariant.weaving c.take_lesser.ensures.kept
          c.in-Some.seg next c.push.new.self c.in_ok-push.ensures.segments rope c.take_lesser.ensures.other
          c.take_lesser.ensures.own c.take_lesser.ensures.net;
    }

pub returns-clause-segments : goal.returns-clause-segments
returns-clause-segments c =
    let next = subst (λ (o : Option Seg). IsNextMoved c.args.before c.loop-row.ropes c.take_lesser.new.ropes
    c.loop-row.other c.loop-row.self c.take_lesser.new.other c.take_lesser.new.own o) c.in_default.is
    c.in_ok-seg.ensures.next in
    weaving_ends _ _ _ _ _ _ _ _ c.take_lesser.new.other c.take_lesser.new.own
    _ c.loop-row.invariant.weaving c.take_lesser.ensures.kept next

pub returns-clause-ropes : goal.returns-clause-ropes
returns-clause-ropes c = ropes_kept _ _ _ c.loop-row.invariant.weaving.row_ropes c.take_lesser.ensures.kept
