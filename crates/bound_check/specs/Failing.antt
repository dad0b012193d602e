-- No public clause names this.
-- The first claim of a list that fails, by the claims' places in the list, counted from 0.
use Rattle.std.specs.Prelude.{◌≡◌, ℕ, ◌+◌, ◌-◌, ◌*◌, ◌<◌, ◌≤◌, pos, min, length, slice_index_or, List, Option, Some, None}
use Rattle.sp_terms.specs.declared.position.Position.{Position}
use Rattle.plans.specs.declared.claim.Claim.{Claim}
use Rattle.plans.specs.declared.claim.Direction.TheVariants.{Forward}
use Rattle.plans.specs.Plan.{claim_at}
use Rattle.claim_check.specs.Judged.{PassesAt}
use Rattle.claim_check.specs.Shapes.{shape_at}
use Rattle.bound_check.specs.declared.failing.Failing.{Failing}

-- the position of the claim at a place
abbrev pub position_at : List Claim → ℕ → ℕ
position_at claims i = (slice_index_or claims i (record { position = 0; dir = Forward; bound = pos 0; rest = 0 })).position

-- nothing is said against that claim; what is said is this
abbrev pub PassesAtPlace : List Position → List Claim → ℕ → Type 0
PassesAtPlace ps claims i = PassesAt ps (claim_at claims) (position_at claims i)

pub record FailsAtPlace (ps : List Position) (claims : List Claim) (i : ℕ) (failing : Failing) : Type 0 where
  pub fails : ¬ (PassesAtPlace ps claims i)
  pub position : position_at claims i ≡ failing.position
  pub shape : shape_at ps failing.position ≡ failing.shape

-- of the places from one on and before another, the first that fails, if there is one
abbrev pub IsFirstIn : List Position → List Claim → ℕ → ℕ → Option Failing → Type 0
IsFirstIn ps claims from to None = (i : ℕ) → from ≤ i → i < to → PassesAtPlace ps claims i
IsFirstIn ps claims from to (Some failing) =
    (i : ℕ) × (from ≤ i) × (i < to) × FailsAtPlace ps claims i failing × ((j : ℕ) → from ≤ j → j < i → PassesAtPlace ps claims j)

-- the first of each chunk of so many places
abbrev pub AreFirst : List Position → List Claim → ℕ → List (Option Failing) → Type 0
AreFirst ps claims size firsts = (n : ℕ) → n < length firsts
    → IsFirstIn ps claims (n * size) (n * size + min size (length claims - n * size)) (slice_index_or firsts n None)

-- the first that the list has, if it has one
abbrev pub IsFirstOf : List (Option Failing) → Option Failing → Type 0
IsFirstOf firsts None = (n : ℕ) → n < length firsts → slice_index_or firsts n None ≡ None
IsFirstOf firsts (Some failing) =
    (n : ℕ) × (n < length firsts) × (slice_index_or firsts n None ≡ Some failing) × ((k : ℕ) → k < n → slice_index_or firsts k None ≡ None)
