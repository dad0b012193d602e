-- No public clause names this.
-- What a judge keeps at hand: what is known of each position, and a table that says which claim stands where.
use Rattle.std.specs.Prelude.{◌≡◌, ◌==◌, ℕ, ◌+◌, ◌-◌, ◌<◌, ◌≤◌, All, List, [], ◌∷◌, length, map, if◌then◌else◌, Option, None, option_map}
use Rattle.std.specs.Prelude.{slice_index_or, slice_get}
use Rattle.limits.specs.Limits.{most_total}
use Rattle.mp_system.specs.declared.system.Task.{Task}
use Rattle.sp_terms.specs.declared.position.Position.{Position}
use Rattle.sp_terms.specs.declared.position.Values.{Values}
use Rattle.sp_terms.specs.Places.{term_of_position, parts_of, part_positions, IsTermAt}
use Rattle.sp_terms.specs.Term.{Term, series, initial_of, final_of, IsAllowed}
use Rattle.sp_terms.specs.Values.{IsTerms, AreValues}
use Rattle.plans.specs.declared.claim.Claim.{Claim}
use Rattle.plans.specs.Plan.{claim_of, claim_at}
use Rattle.claim_check.specs.Claimed.{AreClaims}

-- the parts of the term at a position
abbrev pub parts_at : List Position → ℕ → List Term
parts_at ps k = parts_of (term_of_position ps k)

-- what is known of the term at a position: where its parts stand, that it is what the position says, and that its hill is small
pub record IsPlaced (ps : List Position) (k : ℕ) : Type 0 where
  pub parts : map (term_of_position ps) (part_positions k (term_of_position ps k)) ≡ parts_at ps k
  pub before : All (λ j. (1 ≤ j) × (j < k)) (part_positions k (term_of_position ps k))
  pub own : (d : Position) → IsTermAt (slice_index_or ps (k - 1) d) (term_of_position ps k)
  pub allowed : IsAllowed (term_of_position ps k)
  pub small : (a : Term) (v : Task) (b : Term) → term_of_position ps k ≡ series a v b → final_of a + (v.extra + initial_of b) ≤ most_total

-- the claim that an entry of the table names: the first claim by 1, and none by 0
abbrev pub named_claim : List Claim → ℕ → Option Claim
named_claim claims entry = if entry == 0 then None else slice_get claims (entry - 1)

-- the entries name the claims that stand at the first positions
abbrev pub IsClaimTable : List Claim → List ℕ → Type 0
IsClaimTable claims table = (k : ℕ) → k < length table
    → (slice_index_or table k 0 ≤ length claims)
    × (option_map claim_of (named_claim claims (slice_index_or table k 0)) ≡ claim_at claims (k + 1))

-- the entry of a position, where so many claims stand before it
abbrev pub entry_of : List Claim → ℕ → ℕ → ℕ
entry_of [] passed position = 0
entry_of (c ∷ cs) passed position = if c.position == position then passed + 1 else 0

-- the values of the term at each position, and the table
pub record IsJudgeable (ps : List Position) (cs : List Claim) (vs : List Values) (es : List ℕ) : Type 0 where
  pub terms : IsTerms ps
  pub placed : (k : ℕ) → 1 ≤ k → k ≤ length ps → IsPlaced ps k
  pub claims : AreClaims cs
  pub values_len : length vs ≡ length ps
  pub values : AreValues ps vs (length ps)
  pub table_len : length es ≡ length ps
  pub table : IsClaimTable cs es
