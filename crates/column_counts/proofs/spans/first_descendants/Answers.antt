use Rattle.std.proofs.Common.{◌≡◌, ◌+◌, length, length-set, get_or, arith, ap, ◌∙◌, subst, refl, ℕ, Ok}
use Rattle.std.proofs.lemmas.Iterator.{items_from_collect, YieldsList-from_range}
use Rattle.std.proofs.lemmas.List.FromFn.{get_or-range_with_len, length-range_with_len}
use Rattle.column_counts.proofs.MarkLemmas.{read_at}
use Rattle.column_counts.proofs.SpanRows.{AreCarried, carried_none, carried_up, carried_on, are_firsts}
use Rattle.column_counts.proofs.spans.first_descendants.Goals as goal
use Rattle.column_counts.proofs.spans.first_descendants.Goals.{then-first-index, else-first-index}

pub loop-j-init : goal.loop-j-init
loop-j-init c =
    let n = length c.args.parents.now in
    let all = items_from_collect {E = ℕ} (Ok c.in_ok-firsts.firsts) c.in_ok-firsts.ensures.ran
    (YieldsList-from_range 0 (c.len.result + 1) (n + 1) refl (omega arith)) in
    record {
      len = ap length all ∙ length-range_with_len 0 (n + 1);
      carried = carried_none c.args.parents.now c.len-j-end.ensures.forest c.in_ok-firsts.firsts.items
          (λ x le. ap (λ xs. get_or xs x 0) all ∙ get_or-range_with_len 0 (n + 1) x 0 (omega arith) ∙ omega arith);
    }

pub loop-j-preserved : goal.loop-j-preserved
loop-j-preserved c =
    let i = c.loop-j.invariant in
    let len = i.len in
    let most = c.at-parent.ensures.column in
    let firsts = c.loop-j.firsts.items in
    let first = read_at firsts c.loop-j.j c.index-first.result.now (omega arith) c.index-first.ensures in
    let above = read_at firsts c.at-parent.result c.index.result.now (omega arith) c.index.ensures in
    elim c.if-first-index.branch [
      | then-first-index w ↦ rw w.firsts-is (record {
        len = length-set firsts c.at-parent.result c.index-first.result.now ∙ len;
        carried = carried_up c.args.parents.now c.len-j-end.ensures.forest firsts c.loop-j.j (omega arith) (omega arith) i.carried
            c.at-parent.result c.index-first.result.now c.at-parent.ensures.value first len (omega (arith, w.if-first-index.true));
      })
      | else-first-index w ↦ rw w.firsts-is (record {
        len = len;
        carried = carried_on c.args.parents.now c.len-j-end.ensures.forest firsts c.loop-j.j (omega arith) (omega arith) i.carried
            c.at-parent.result c.at-parent.ensures.value (omega (arith, w.if-first-index.false));
      })
    ]

pub returns-clause-firsts : goal.returns-clause-firsts
returns-clause-firsts c =
    let last : c.loop-j.j ≡ length c.args.parents.now + 1 = omega arith in
    are_firsts c.args.parents.now c.len-j-end.ensures.forest c.loop-j.firsts.items
    (subst (λ m. AreCarried c.args.parents.now c.loop-j.firsts.items m) last c.loop-j.invariant.carried) c.requires.in_postorder
