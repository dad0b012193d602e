use Rattle.std.proofs.Common.{ap, sym, ◌∙◌}
use Rattle.std.specs.Prelude.{option_map}
use Rattle.sp_terms.specs.Values.{values_of}
use Rattle.claim_rules.specs.Rules.{passed_first, passed_last}
use Rattle.plans.specs.Plan.{claim_of, direction_of}
use Rattle.plans.specs.declared.claim.Direction.{Direction}
use Rattle.claim_check.proofs.rules.meets_series.Goals as goal

pub returns-in-Forward : goal.returns-in-Forward
returns-in-Forward c = λ a b v left right hill.
    let p = option_map claim_of c.args.left.now.claim in
    let q = option_map claim_of c.args.right.now.claim in
    c.is_passed.ensures a b v p q
    (left ∙ ap (λ (d : Direction). values_of (passed_first (direction_of d) a b)) (sym c.in-Forward.is))
    (ap (λ (d : Direction). passed_first (direction_of d) p q) (sym c.in-Forward.is))
    (ap (λ (d : Direction). passed_last (direction_of d) p q) (sym c.in-Forward.is)) hill

pub returns-in-Backward : goal.returns-in-Backward
returns-in-Backward c = λ a b v left right hill.
    let p = option_map claim_of c.args.left.now.claim in
    let q = option_map claim_of c.args.right.now.claim in
    c.is_passed-in-Backward.ensures a b v p q
    (right ∙ ap (λ (d : Direction). values_of (passed_first (direction_of d) a b)) (sym c.in-Backward.is))
    (ap (λ (d : Direction). passed_first (direction_of d) p q) (sym c.in-Backward.is))
    (ap (λ (d : Direction). passed_last (direction_of d) p q) (sym c.in-Backward.is)) hill
