use Rattle.std.proofs.Common.{◌≡◌, List, arith, subst}
use Rattle.std.specs.Prelude.{All}
use Rattle.std.proofs.lemmas.List.{take_all}
use Rattle.std.proofs.lemmas.List.Elements.{All-more}
use Rattle.fences.specs.declared.fenced.Fence.{Fence}
use Rattle.fences.specs.Before.{IsImplied}
use Rattle.fences.proofs.Before.{are_implied}
use Rattle.fences.proofs.implied.are_implied.Goals as goal

pub loop-i-preserved : goal.loop-i-preserved
loop-i-preserved c =
    record {
      implied = All-more (IsImplied c.args.system.now) c.args.fences.now c.loop-i.i (record { from = 0; to = 0 }) c.loop-i-test.true
          c.loop-i.invariant.implied (c.in_ok-implied.ensures.implied c.if-not-implied.false);
      search = c.in_ok-implied.ensures.search;
    }

pub returns : goal.returns
returns c = λ yes.
    are_implied c.args.system.now c.args.fences.now
    (subst (All (IsImplied c.args.system.now)) (take_all c.loop-i.i c.args.fences.now c.loop-i-test.false) c.loop-i.invariant.implied)
