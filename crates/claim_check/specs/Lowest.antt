-- The lowest position whose claim fails.
use Rattle.std.specs.Prelude.{◌≡◌, ℕ, ◌+◌, ◌-◌, ◌*◌, ◌<◌, ◌≤◌, min, length, slice_index_or, List, Option, Some, None}
use Rattle.sp_terms.specs.declared.position.Position.{Position}
use Rattle.claim_rules.specs.Claims.{Claim}
use Rattle.claim_check.specs.Judged.{PassesAt}

-- the lowest position from one on whose claim fails, if there is one
abbrev pub IsLowestFrom : List Position → (ℕ → Option Claim) → ℕ → Option ℕ → Type 0
IsLowestFrom ps claim_at from None = (k : ℕ) → from ≤ k → PassesAt ps claim_at k
IsLowestFrom ps claim_at from (Some position) =
    (from ≤ position) × ¬ (PassesAt ps claim_at position) × ((k : ℕ) → from ≤ k → k < position → PassesAt ps claim_at k)

-- the same, but before another position
abbrev pub IsLowestIn : List Position → (ℕ → Option Claim) → ℕ → ℕ → Option ℕ → Type 0
IsLowestIn ps claim_at from to None = (k : ℕ) → from ≤ k → k < to → PassesAt ps claim_at k
IsLowestIn ps claim_at from to (Some position) = (position < to) × IsLowestFrom ps claim_at from (Some position)

-- the lowest one of each chunk of so many positions; the first chunk begins at position 1
abbrev pub AreLowest : List Position → (ℕ → Option Claim) → ℕ → List (Option ℕ) → Type 0
AreLowest ps claim_at size lowest = (n : ℕ) → n < length lowest
    → IsLowestIn ps claim_at (n * size + 1) (n * size + 1 + min size (length ps - n * size)) (slice_index_or lowest n None)

-- the first number that the list has, if it has one
abbrev pub IsFirstOf : List (Option ℕ) → Option ℕ → Type 0
IsFirstOf numbers None = (n : ℕ) → n < length numbers → slice_index_or numbers n None ≡ None
IsFirstOf numbers (Some x) =
    (n : ℕ) × (n < length numbers) × (slice_index_or numbers n None ≡ Some x) × ((k : ℕ) → k < n → slice_index_or numbers k None ≡ None)
