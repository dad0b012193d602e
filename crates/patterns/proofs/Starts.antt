-- The starts of columns rise from the base to the end of the entries.
use Rattle.std.proofs.Common.{◌≡◌, ℕ, zero, suc, ◌+◌, ◌-◌, ◌<◌, ◌≤◌, All, List, length, take, drop, get_or, subst, arith}
use Rattle.std.proofs.lemmas.List.Elements.{All-from_get_or, All-take, All-drop}
use Rattle.patterns.specs.Columns.{AreColumns, StartsFit, column_count}
use Rattle.lists.specs.Numbers.{IsNumberFrom, number_at}

-- so many places on, a start is no lower
rises_by : (base : ℕ) (starts : List ℕ) → StartsFit base starts → (j k : ℕ) → 1 ≤ j → j + k ≤ length starts
    → number_at starts j ≤ number_at starts (j + k)
rises_by base starts fit j zero some in_range =
    let here : j ≡ j + 0 = omega arith in
    subst (λ (i : ℕ). number_at starts j ≤ number_at starts i) here (omega arith)
rises_by base starts fit j (suc k) some in_range =
    let here = rises_by base starts fit j k some (omega arith) in
    let next = (fit (j + suc k) (omega arith, in_range)).rising in
    let before : j + suc k - 1 ≡ j + k = omega arith in
    let at = subst (λ (i : ℕ). number_at starts i ≤ number_at starts (j + suc k)) before next in
    omega (arith, here, at)

pub rises : (base : ℕ) (starts : List ℕ) → StartsFit base starts → (i j : ℕ) → 1 ≤ i → i ≤ j → j ≤ length starts
    → number_at starts i ≤ number_at starts j
rises base starts fit i j some less in_range =
    let there : i + (j - i) ≡ j = omega arith in
    subst (λ (k : ℕ). number_at starts i ≤ number_at starts k) there (rises_by base starts fit i (j - i) some (omega arith))

-- none is below the base
pub from_base : (base : ℕ) (starts : List ℕ) → StartsFit base starts → (j : ℕ) → 1 ≤ j → j ≤ length starts → base ≤ number_at starts j
from_base base starts fit j some in_range =
    let first = (fit 1 (omega arith, omega arith)).first (omega arith) in
    omega (arith, first, rises base starts fit 1 j (omega arith) some in_range)

-- none is past the end of the entries
pub to_end : (base : ℕ) (starts rows : List ℕ) → AreColumns base starts rows → (j : ℕ) → 1 ≤ j → j ≤ length starts
    → number_at starts j ≤ base + length rows
to_end base starts rows are j some in_range =
    omega (arith, are.together, rises base starts are.starts_fit j (length starts) some in_range (omega arith))

-- where column j starts and ends, here by indices
pub span : (base : ℕ) (starts rows : List ℕ) → AreColumns base starts rows → (j : ℕ) → 1 ≤ j → j < length starts
    → (base ≤ get_or starts (j - 1) 0) × (get_or starts (j - 1) 0 ≤ get_or starts j 0) × (get_or starts j 0 ≤ base + length rows)
span base starts rows are j some inside =
    let at : j + 1 - 1 ≡ j = omega arith in
    let low = from_base base starts are.starts_fit j some (omega arith) in
    let next = rises base starts are.starts_fit j (j + 1) some (omega arith) (omega arith) in
    let end = to_end base starts rows are (j + 1) (omega arith) (omega arith) in (
      low,
      subst (λ (i : ℕ). get_or starts (j - 1) 0 ≤ get_or starts i 0) at next,
      subst (λ (i : ℕ). get_or starts i 0 ≤ base + length rows) at end,
    )

pub all_rows : (base : ℕ) (starts rows : List ℕ) → AreColumns base starts rows → All (IsNumberFrom base (column_count starts)) rows
all_rows base starts rows are =
    All-from_get_or (IsNumberFrom base (column_count starts)) rows 0 (λ i inside.
    let at : i + 1 - 1 ≡ i = omega arith in
    subst (λ (k : ℕ). IsNumberFrom base (column_count starts) (get_or rows k 0)) at (are.rows_fit (i + 1) (omega arith, omega arith)))

-- the rows of a part of the entries
pub part_rows : (base : ℕ) (starts rows : List ℕ) → AreColumns base starts rows → (from many : ℕ)
    → All (IsNumberFrom base (column_count starts)) (take many (drop from rows))
part_rows base starts rows are from many =
    let P = IsNumberFrom base (column_count starts) in
    All-take P many (drop from rows) (All-drop P from rows (all_rows base starts rows are))
