use Rattle.std.proofs.Common.{◌∙◌, ap, arith}
use Rattle.hill_valley.specs.Numbers.{segments_listed}
use Rattle.sp_term_laws.specs.Moves.{other}
use Rattle.plan_claims.proofs.NearFar.{handed_other, handed_near, handed_closed, handed_hill, handed_last}
use Rattle.plan_claims.proofs.handing.near_and_far.Goals as goal

pub returns-then-not-is_same : goal.returns-then-not-is_same
returns-then-not-is_same c d near far whole x dir o s =
    handed_other c.below.ensures d near far whole c.args.hill c.args.note.now
    (segments_listed c.args.between.now) (segments_listed c.args.beyond.now) c.args.wanted.now x o s
    (c.is_same.ensures.turned c.if-not-is_same.true ∙ ap other (c.dir_of.ensures ∙ dir))

pub returns-then-over_of-note : goal.returns-then-over_of-note
returns-then-over_of-note c d near far whole x dir o s =
    handed_near c.below.ensures d near far whole c.args.hill c.args.note.now
    (segments_listed c.args.between.now) (segments_listed c.args.beyond.now) c.args.wanted.now x o s
    (c.is_same.ensures.same c.if-not-is_same.false ∙ c.dir_of.ensures ∙ dir)
    (let t = c.if-over_of-note.true in omega (arith, c.over_of.ensures))

pub returns-in-Some : goal.returns-in-Some
returns-in-Some c d near far whole x dir o s =
    handed_closed c.below.ensures d near far whole c.args.hill c.args.note.now
    (segments_listed c.args.between.now) (segments_listed c.args.beyond.now) c.args.wanted.now x o s
    (c.is_same.ensures.same c.if-not-is_same.false ∙ c.dir_of.ensures ∙ dir)
    (let t = c.if-over_of-note.false in omega (arith, c.over_of.ensures)) _ c.in-Some.ensures

pub returns-then-wanted-hill : goal.returns-then-wanted-hill
returns-then-wanted-hill c d near far whole x dir o s =
    handed_hill c.below.ensures d near far whole c.args.hill c.args.note.now
    (segments_listed c.args.between.now) (segments_listed c.args.beyond.now) c.args.wanted.now x o s
    (c.is_same.ensures.same c.if-not-is_same.false ∙ c.dir_of.ensures ∙ dir)
    (let t = c.if-over_of-note.false in omega (arith, c.over_of.ensures)) c.if-wanted-hill.true

pub returns : goal.returns
returns c d near far whole x dir o s =
    handed_last c.below.ensures d near far whole c.args.hill c.args.note.now
    (segments_listed c.args.between.now) (segments_listed c.args.beyond.now) c.args.wanted.now x o s
    (c.is_same.ensures.same c.if-not-is_same.false ∙ c.dir_of.ensures ∙ dir)
    (let t = c.if-over_of-note.false in omega (arith, c.over_of.ensures))
    c.in_default.ensures c.if-wanted-hill.false c.far_low.result c.far_low.ensures
