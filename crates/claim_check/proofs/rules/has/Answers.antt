use Rattle.std.proofs.Common.{◌≡◌, ap, true, arith}
use Rattle.std.proofs.Common.{rules}
use Rattle.std.proofs.lemmas.Int.{ints}
use Rattle.std.specs.Prelude.{option_map}
use Rattle.plans.specs.Plan.{claim_of, direction_of}
use Rattle.claim_rules.specs.Rules.{is_same}
use Rattle.claim_check.proofs.Series.{same_direction, has_here}
use Rattle.claim_check.proofs.rules.has.Goals as goal

pub returns : goal.returns
returns c =
    let same : is_same (direction_of c.in-Some.claim.dir) (direction_of c.args.dir) ≡ true = cc in
    has_here (option_map claim_of c.args.claim) (claim_of c.in-Some.claim) (direction_of c.args.dir) c.args.bound c.args.rest
    (ap (option_map claim_of) c.in-Some.is) (same_direction _ _ same) (first_of (omega (arith, ints), search rules, grind (arith, ints)))
