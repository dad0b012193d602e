-- No public clause names this.
-- The walk from the last position down: what is left to do, and what is done.
use Rattle.std.specs.Prelude.{◌≡◌, ℕ, ◌+◌, ◌<◌, ◌≤◌, pos, ◌-ℤ◌, All, List, [], ◌∷◌, length, map, Option, Some, None}
use Rattle.limits.specs.Limits.{most_positions}
use Rattle.sp_terms.specs.declared.position.Position.{Position}
use Rattle.sp_terms.specs.Places.{positions_after}
use Rattle.claim_rules.specs.Claims.{Claim as RuleClaim}
use Rattle.claim_rules.specs.Placed.{MeetsAt}
use Rattle.plans.specs.declared.claim.Claim.{Claim}
use Rattle.plans.specs.Plan.{claim_at, IsClaimWithin, RiseFrom}
use Rattle.claim_check.specs.Judged.{PassesAt}
use Rattle.sp_cuts.specs.Notes.{Noted, cut_at, AreNotesOf}
use Rattle.plan_claims.specs.declared.wanted.Wanted.{Wanted}
use Rattle.plan_claims.specs.Rows.{row_of}
use Rattle.plan_claims.specs.Wants.{AllShow, claim_if, claim_of_wanted}

-- the claim of a position, if one is wanted of its term
abbrev pub claims_put : ℕ → Option Wanted → List Claim
claims_put position None = []
claims_put position (Some w) = record { position = position; dir = w.dir; bound = pos w.limit -ℤ pos 1; rest = w.low } ∷ []

-- the first k positions: their notes, and what is wanted of the terms that they leave
pub record IsLeft (ps : List Position) (k : ℕ) (notes : Noted) (todo : List (Option Wanted)) : Type 0 where
  pub noted : AreNotesOf ps k notes
  pub shows : AllShow (map cut_at (row_of ps k)) todo

-- the claim on the whole term stands, and every claim behind the first k positions meets its rule
pub record AreMet (ps : List Position) (k : ℕ) (root : Wanted) (f : ℕ → Option RuleClaim) : Type 0 where
  pub root_is : f (length ps) ≡ Some (claim_of_wanted root)
  pub meet : (j : ℕ) (c : RuleClaim) → k < j → j ≤ length ps → f j ≡ Some c → MeetsAt ps f j c

-- the claims behind the first k positions, whatever claims come before, if only those of the terms that are left are the wanted ones
pub record IsRight (ps : List Position) (k : ℕ) (root : Wanted) (todo : List (Option Wanted)) (claims : List Claim) : Type 0 where
  pub few : length claims + k ≤ length ps
  pub within : All IsClaimWithin claims
  pub rising : RiseFrom k claims
  -- no claim stands behind the last position
  pub inside : (j : ℕ) → length ps < j → claim_at claims j ≡ None
  pub whatever : (f : ℕ → Option RuleClaim) → map f (positions_after 0 (row_of ps k)) ≡ map claim_if todo
      → ((j : ℕ) → k < j → f j ≡ claim_at claims j) → AreMet ps k root f

-- the claims of all positions
pub record AreClaimsOf (ps : List Position) (root : Wanted) (claims : List Claim) : Type 0 where
  pub few : length claims ≤ most_positions
  pub within : All IsClaimWithin claims
  pub rising : RiseFrom 0 claims
  pub pass : (k : ℕ) → PassesAt ps (claim_at claims) k
  pub root_is : claim_at claims (length ps) ≡ Some (claim_of_wanted root)
