-- Claims at the positions of a term, counted from 1.
use Rattle.std.specs.Prelude.{◌≡◌, ℕ, ◌≤◌, List, length, map, Option, Some}
use Rattle.sp_terms.specs.declared.position.Position.{Position}
use Rattle.sp_terms.specs.Places.{term_of_position, part_positions}
use Rattle.claim_rules.specs.Claims.{Claim}
use Rattle.claim_rules.specs.Rules.{MeetsRule}

-- the claims at the positions of the parts of the term at a position
abbrev pub claims_at : List Position → (ℕ → Option Claim) → ℕ → List (Option Claim)
claims_at ps claim_at k = map claim_at (part_positions k (term_of_position ps k))

-- a claim at a position meets its rule, over these
abbrev pub MeetsAt : List Position → (ℕ → Option Claim) → ℕ → Claim → Type 0
MeetsAt ps claim_at k c = MeetsRule (term_of_position ps k) (claims_at ps claim_at k) c

-- every claim at a position of the term meets its rule
abbrev pub AllMeet : List Position → (ℕ → Option Claim) → Type 0
AllMeet ps claim_at = (k : ℕ) (c : Claim) → 1 ≤ k → k ≤ length ps → claim_at k ≡ Some c → MeetsAt ps claim_at k c
