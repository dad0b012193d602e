-- An order in which the columns of a matrix are eliminated, as an array of their numbers, which count from a base.
use Rattle.std.specs.Prelude.{◌≡◌, ◌≢◌, ℕ, ◌<◌, ◌≤◌, List, length, map}
use Rattle.lists.specs.Numbers.{IsFirstWithout, IsNumberFrom, from_one, number_at}
use Rattle.permutations.specs.declared.numbers.PermRefusal.{PermRefusal}
use Rattle.permutations.specs.declared.numbers.PermRefusal.TheVariants as refusals

-- the order, counted from 1
abbrev pub order_given : ℕ → List ℕ → List ℕ
order_given base numbers = map (from_one base) numbers

-- at this place stands one of n columns, which stood at none before
pub record PlaceFits (base n : ℕ) (numbers : List ℕ) (k : ℕ) : Type 0 where
  pub number : IsNumberFrom base n (number_at numbers k)
  pub fresh : (earlier : ℕ) → 1 ≤ earlier → earlier < k → number_at numbers earlier ≢ number_at numbers k

-- the first place that is not right; want of memory tells nothing
abbrev pub IsNumbersRefusal : ℕ → ℕ → List ℕ → PermRefusal → Type 0
IsNumbersRefusal base n numbers refusals.Places = length numbers ≢ n
IsNumbersRefusal base n numbers (refusals.Unknown k) =
    (length numbers ≡ n) × IsFirstWithout n (PlaceFits base n numbers) k × (IsNumberFrom base n (number_at numbers k) → ⊥)
IsNumbersRefusal base n numbers (refusals.Repeated k) =
    (length numbers ≡ n) × IsFirstWithout n (PlaceFits base n numbers) k × IsNumberFrom base n (number_at numbers k)
IsNumbersRefusal base n numbers refusals.NoMemory = Unit {0}
