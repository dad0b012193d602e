use Rattle.std.proofs.Common.{◌<◌, ℕ, length, Option, unwrap_or, ap, ◌∙◌, arith}
use Rattle.joined_systems.proofs.JoinCode.{copy_next}
use Rattle.joined_systems.proofs.building.copied_items.Goals as goal

pub loop-i-preserved : goal.loop-i-preserved
loop-i-preserved c =
    let inside : c.loop-i.i < length c.args.items.now = omega (arith, c.loop-i-test.true, c.len-i-end.ensures) in
    copy_next c.args.items.now c.loop-i.i c.size.result c.unwrap_or-from.result c.readers.result.now c.loop-i.made c.push_item.new.made
    inside c.requires.producers c.loop-i.invariant c.size.ensures
    (c.unwrap_or-from.ensures ∙ ap (λ (o : Option ℕ). unwrap_or o 0) c.producer.ensures) c.readers.ensures c.in_ok-push_item.ensures
