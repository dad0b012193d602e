use Rattle.std.proofs.Common.{◌≡◌, ◌+◌, ◌++◌, [], ◌∷◌, length, ap, sym, ◌∙◌, arith}
use Rattle.std.specs.List.{range_with_len}
use Rattle.rounds_run.proofs.NumberLists.{range_more}
use Rattle.rounds_run.proofs.row_tree.row_order.Goals as goal

pub loop-i-preserved : goal.loop-i-preserved
loop-i-preserved c =
    c.in_ok-push.ensures.items ∙ ap (λ z. z ++ (c.loop-i.i + 1) ∷ []) c.loop-i.invariant ∙ sym (range_more c.loop-i.i)

pub returns : goal.returns
returns c =
    let end : c.loop-i.i ≡ length c.args.supers.now = omega (arith, c.loop-i-test.false, c.loop-i.auto.i-end) in
    c.loop-i.invariant ∙ ap (range_with_len 1) end
