use Rattle.std.proofs.Common.{List, reverse, ap, ◌∙◌}
use Rattle.sp_terms.specs.declared.position.Position.{Position}
use Rattle.sp_terms.specs.Values.{term_of}
use Rattle.term_orders.specs.Steps.{walk}
use Rattle.term_orders.proofs.ListedSteps.{in_order, in_reverse}
use Rattle.term_orders.proofs.orders.term_order.Goals as goal

pub returns-in-FirstPart : goal.returns-in-FirstPart
returns-in-FirstPart c =
    c.in_ok-order.ensures ∙ ap (λ (l : List Position). walk c.args.side 1 (term_of l)) c.positions-positions.ensures.value
    ∙ in_order c.args.side (term_of c.args.terms.now) c.in-FirstPart.is

pub returns : goal.returns
returns c =
    c.reverse.ensures.items
    ∙ ap reverse (c.in_ok-order.ensures ∙ ap (λ (l : List Position). walk c.args.side 1 (term_of l)) c.positions-positions.ensures.value)
    ∙ in_reverse c.args.side (term_of c.args.terms.now) c.in-LastPart.is
