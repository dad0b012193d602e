-- Numbers of a caller's arrays, which count from 0 as in C or from 1 as in Fortran, and the first of them that fails a test. Places count
-- from 1.
use Rattle.std.specs.Prelude.{ℕ, ◌+◌, ◌-◌, ◌<◌, ◌≤◌, List, slice_index}

-- what stands at a place
abbrev pub number_at : List ℕ → ℕ → ℕ
number_at numbers place = slice_index numbers (place - 1)

-- a number that counts from a base, counted from 1
abbrev pub from_one : ℕ → ℕ → ℕ
from_one base number = number + 1 - base

-- a number, counted from a base, of one of so many
abbrev pub IsNumberFrom : ℕ → ℕ → ℕ → Type 0
IsNumberFrom base count number = (base ≤ number) × (number < base + count)

-- one of so many places
abbrev pub IsPlace : ℕ → ℕ → Type 0
IsPlace count place = (1 ≤ place) × (place ≤ count)

-- each of them has the fact
abbrev pub Each : ℕ → (ℕ → Type 0) → Type 0
Each count fact = (place : ℕ) → IsPlace count place → fact place

-- this one is the first that has not
pub record IsFirstWithout (count : ℕ) (fact : ℕ → Type 0) (place : ℕ) : Type 0 where
  pub is_place : IsPlace count place
  pub fails : fact place → ⊥
  pub before : (earlier : ℕ) → 1 ≤ earlier → earlier < place → fact earlier
