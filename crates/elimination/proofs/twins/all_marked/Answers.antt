use Rattle.std.proofs.Common.{◌≡◌, ◌<◌, arith, subst, below_more, IsTrue}
use Rattle.elimination.specs.Quotients.{at}
use Rattle.elimination.specs.Hoods.{mark_at}
use Rattle.elimination.proofs.twins.all_marked.Goals as goal

pub loop-b-preserved : goal.loop-b-preserved
loop-b-preserved c = record {
  linked = c.mark_of-here.ensures.linked;
  leads = λ part h. c.mark_of-here.ensures.leads part (c.loop-b.invariant.leads part h);
  marked = λ part h.
      let turn = at c.args.turns.now in
      let row = at c.args.row.now in
      let seen = c.args.seen.now in
      below_more (λ j. (turn (row j) ≡ 0 → IsTrue (mark_at seen (row j))) × (0 < turn (row j) → IsTrue (mark_at seen (part (row j)))))
      c.loop-b.b-index (c.loop-b.invariant.marked part h) (
        λ l. subst (λ z. IsTrue (mark_at seen z)) (c.mark_of-here.ensures.own l) c.if-not-seen-here.false,
        λ g. subst (λ z. IsTrue (mark_at seen z)) (c.mark_of-here.ensures.part g part (c.loop-b.invariant.leads part h))
            c.if-not-seen-here.false,
      );
}

pub returns-clause-marked : goal.returns-clause-marked
returns-clause-marked c = λ ok part h j lt. c.loop-b.invariant.marked part h j (omega arith)

pub returns-then-not-seen-here-clause-leads : goal.returns-then-not-seen-here-clause-leads
returns-then-not-seen-here-clause-leads c = λ part h. c.mark_of-here.ensures.leads part (c.loop-b.invariant.leads part h)
