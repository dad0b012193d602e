-- No public clause names this.
-- Worked examples: the plan of a tree of five nodes, and a plan with a priority.
use Rattle.std.specs.Prelude.{◌≡◌, ℕ, [], ◌∷◌, map, Some, None, ℤ, pos, neg_ℤ, refl}
use Rattle.sp_terms.specs.Term.{backward}
use Rattle.plans.specs.Plan.{PlanValue, claim_at}
use Rattle.plans.specs.declared.claim.Claim.{Claim}
use Rattle.plans.specs.declared.claim.Direction.{Direction}
use Rattle.plans.specs.declared.claim.Direction.TheVariants.{Forward, Backward}

abbrev pub claim : ℕ → Direction → ℤ → ℕ → Claim
claim position dir bound rest = record { position = position; dir = dir; bound = bound; rest = rest }

abbrev pub five : PlanValue
five = record {
  order = 1 ∷ 3 ∷ 2 ∷ 4 ∷ 5 ∷ [];
  peak = 11;
  claims = claim 5 Backward (pos 5) 5 ∷ claim 10 Backward (pos 5) 5 ∷ claim 11 Backward (pos 10) 10 ∷ claim 13 Backward (pos 10) 0 ∷ [];
  priority = [];
}

-- a plan of two tasks, of which the second comes first to a worker
abbrev pub ranked : PlanValue
ranked = record { order = 1 ∷ 2 ∷ []; peak = 6; claims = claim 1 Forward (neg_ℤ (pos 1)) 0 ∷ []; priority = 2 ∷ 1 ∷ [] }

-- ---- claims by position

pub at_positions : map (claim_at five.claims) (11 ∷ 12 ∷ []) ≡ Some (record { direction = backward; bound = pos 10; rest = 10 }) ∷ None ∷ []
at_positions = refl
