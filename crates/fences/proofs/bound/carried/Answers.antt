use Rattle.std.proofs.Common.{arith, ◌∙◌, ◌++◌, ◌∷◌, [], List, None, sym, ap, get_or}
use Rattle.mp_system.specs.declared.system.Item.{Item}
use Rattle.fences.specs.Amounts.{with_size}
use Rattle.fences.proofs.Sizes.{carried_more}
use Rattle.fences.proofs.bound.carried.Goals as goal

pub loop-i-preserved : goal.loop-i-preserved
loop-i-preserved c =
    let d : Item = record { size = 0; from = None; to = None } in
    let i = c.loop-i.i in
    let items = c.args.items.now in
    let amounts = c.args.amounts.now in
    c.in_ok-push.ensures.items ∙ ap (λ (l : List Item). l ++ with_size (get_or items i d, get_or amounts i 0) ∷ []) c.loop-i.invariant
    ∙ sym (carried_more items amounts i d c.loop-i-test.true (omega (arith, c.requires)))
