use Rattle.std.proofs.Common.{◌≡◌, ◌∙◌, ap, sym}
use Rattle.hill_valley.specs.Ropes.{Extends}
use Rattle.sp_terms.specs.Values.{term_of}
use Rattle.cut_laws.specs.Cuts.{order_of}
use Rattle.cut_laws.specs.Names.{numbered}
use Rattle.sp_cuts.specs.Parts.{cut_of, IsPart}
use Rattle.sp_cuts.proofs.Kept.{parts_stay}
use Rattle.sp_cuts.proofs.PlannedOrder.{read_order}
use Rattle.sp_cuts.proofs.Standing.{plan_stands, plan_leads, plan_least}
use Rattle.sp_cuts.proofs.planning.plan_terms.Given.{Over}
use Rattle.sp_cuts.proofs.planning.plan_terms.Goals as goal

kept : (g : Over) (c : goal.In_ok-order g) → Extends c.part_of.new.ropes c.join.new.self
kept g c =
    let on = c.all.ensures.runs.on in
    on _ _ _ (on _ _ _ c.in_ok-down.ensures.kept c.in_ok-back.ensures.kept) c.in_ok-way.ensures.kept

stays : (g : Over) (c : goal.In_ok-order g)
    → IsPart c.join.new.self c.with_peak-part.result
    × (cut_of c.join.new.self c.with_peak-part.result ≡ cut_of c.part_of.new.ropes c.with_peak-part.result)
stays g c = parts_stay c.all.ensures _ _ _ c.with_peak-part.ensures.part (kept g c)

pub returns-clause-cut : goal.returns-clause-cut
returns-clause-cut g c = (stays g c).1 ∙ c.with_peak-part.ensures.cut ∙ c.in_ok-rough.ensures.part.cut

pub returns-clause-part : goal.returns-clause-part
returns-clause-part g c = (stays g c).0

pub returns-clause-order : goal.returns-clause-order
returns-clause-order g c =
    read_order c.all.ensures _ _ _ _ c.with_peak-part.result c.in_ok-down.down c.in_ok-back.back c.flip-up.result
    c.in_ok-way.way _ c.with_peak-part.ensures.part c.in_ok-down.ensures.kept c.in_ok-back.ensures.kept c.in_ok-down.ensures.rope
    c.in_ok-down.ensures.list c.in_ok-back.ensures.list c.flip-up.ensures.list c.in_ok-way.ensures.list c.in_ok-order.ensures.list
    ∙ ap order_of (sym (stays g c).1)

pub returns-clause-stands : goal.returns-clause-stands
returns-clause-stands g c =
    plan_stands (term_of c.args.terms.now) _ (c.number_law.ensures.numbers (term_of c.args.terms.now) 1) (returns-clause-cut g c)
    (c.stands_law.ensures (term_of c.args.terms.now)
    (numbered 1 (term_of c.args.terms.now)) (c.terms_law.ensures.allowed _ c.keeps.ensures))

pub returns-clause-traversal : goal.returns-clause-traversal
returns-clause-traversal g c = plan_leads c.number_law.ensures.order (term_of c.args.terms.now) _ _ _
    (returns-clause-stands g c) (returns-clause-order g c) (returns-clause-part g c).peak

pub returns-clause-least : goal.returns-clause-least
returns-clause-least g c = plan_least (term_of c.args.terms.now) _ _ (returns-clause-stands g c) (returns-clause-part g c).peak
