use Rattle.std.proofs.Common.{◌+◌, ◌≤◌, ◌∙◌, ap, sym, subst}
use Rattle.limits.specs.Limits.{most_total}
use Rattle.side_laws.specs.Segments.{net_sum}
use Rattle.sp_terms.specs.Term.{forward, backward}
use Rattle.plans.specs.Plan.{direction_of}
use Rattle.plan_claims.specs.Levels.{kept_level}
use Rattle.plan_claims.proofs.Loops.{segments_take, back_side, level_read}
use Rattle.plan_claims.proofs.beside.level_or.Goals as goal

pub level_above-requires : goal.level_above-requires
level_above-requires c = subst (λ ss. c.args.part.now.least + net_sum ss ≤ most_total)
    (sym (segments_take c.args.part.now.front c.args.gone.now)) c.requires.place.front

pub level_above-requires-in-Backward : goal.level_above-requires-in-Backward
level_above-requires-in-Backward c = subst (λ ss. c.args.part.now.least + net_sum ss ≤ most_total)
    (sym (back_side c.args.part.now.front c.args.part.now.back c.count_of.result c.args.gone.now c.count_of.ensures)) c.requires.place.back

pub returns-in-Forward : goal.returns-in-Forward
returns-in-Forward c =
    level_read c.args.part.now c.args.dir forward c.args.over c.args.rest _ _ c.if-not-part.false (ap direction_of c.in-Forward.is)
    (c.level_above.ensures ∙ ap (kept_level c.args.over c.args.part.now.least) (segments_take c.args.part.now.front c.args.gone.now))

pub returns-in-Backward : goal.returns-in-Backward
returns-in-Backward c =
    level_read c.args.part.now c.args.dir backward c.args.over c.args.rest _ _ c.if-not-part.false (ap direction_of c.in-Backward.is)
    (c.level_above-in-Backward.ensures
    ∙ ap (kept_level c.args.over c.args.part.now.least)
    (back_side c.args.part.now.front c.args.part.now.back c.count_of.result c.args.gone.now c.count_of.ensures))
