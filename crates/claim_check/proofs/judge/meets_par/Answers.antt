use Rattle.std.proofs.Common.{◌≡◌, true, false, arith}
use Rattle.sp_terms.specs.declared.position.Position.TheVariants.{Par}
use Rattle.plans.specs.Plan.{claim_of, claim_at}
use Rattle.claim_check.proofs.Sums.{own_at}
use Rattle.claim_check.proofs.SeriesAt.{par_judged, par_unclaimed, par_below}
use Rattle.claim_check.proofs.judge.meets_par.Goals as goal

pub returns-then-not-sum : goal.returns-then-not-sum
returns-then-not-sum c =
    par_unclaimed c.args.view.now.positions c.args.position c.args.parts (claim_at c.args.view.now.claims) (claim_of c.args.claim.now)
    c.sum_of_parts-sum.result.some (own_at c.args.view.now.positions c.args.position c.requires.placed (Par c.args.parts) c.requires.par)
    c.sum_of_parts-sum.ensures.some (let none : c.sum_of_parts-sum.result.some ≡ false = grind arith in none)

pub returns-then-from-sum : goal.returns-then-from-sum
returns-then-from-sum c =
    par_below c.args.view.now.positions c.args.position c.args.parts (claim_at c.args.view.now.claims) (claim_of c.args.claim.now)
    c.sum_of_parts-sum.result.total (own_at c.args.view.now.positions c.args.position c.requires.placed (Par c.args.parts) c.requires.par)
    c.sum_of_parts-sum.ensures.total (omega (arith, c.if-from-sum.true, c.from.ensures))

pub returns : goal.returns
returns c = par_judged c.args.view.now.positions c.args.position c.args.parts (claim_at c.args.view.now.claims)
    (claim_of c.args.claim.now) c.sum_of_parts-sum.result.total c.sum_of_parts-sum.result.some c.have_room.result
    (own_at c.args.view.now.positions c.args.position c.requires.placed (Par c.args.parts) c.requires.par)
    c.sum_of_parts-sum.ensures.total c.sum_of_parts-sum.ensures.some
    (let some : c.sum_of_parts-sum.result.some ≡ true = grind arith in some)
    (omega (arith, c.if-from-sum.false, c.from.ensures)) c.have_room.ensures
