use Rattle.std.proofs.Common.{◌∙◌, ap, arith, length}
use Rattle.std.proofs.lemmas.List.{length_push}
use Rattle.elimination.specs.Quotients.{inner_at}
use Rattle.elimination.proofs.ListWrites.{lists_push}
use Rattle.elimination.proofs.parts.empty_lists.Goals as goal

pub loop-preserved : goal.loop-preserved
loop-preserved c = record {
  len = omega (arith, ap length c.in_ok-push.ensures.items, length_push c.loop.lists.items c.new.result);
  within = omega arith;
  empty = λ p. ap (λ rims. inner_at rims p) c.in_ok-push.ensures.items ∙ lists_push c.loop.lists.items c.new.result p c.new.ensures.items
      (c.loop.invariant.empty p);
}
