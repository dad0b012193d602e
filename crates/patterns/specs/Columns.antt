-- The pattern of a matrix as compressed columns: an array that tells where the entries of each column start, and where those of the last
-- end, and an array with the row of each entry, column by column. Duff, Grimes and Lewis, Sparse matrix test problems, 1989.
--
-- Starts and rows count from a base, 0 or 1. Columns and entries count from 1 here. An entry says that its row and its column are joined,
-- so either triangle may be given, or both.
use Rattle.std.specs.Prelude.{◌≡◌, ◌≢◌, ℕ, ◌+◌, ◌-◌, ◌<◌, ◌≤◌, List, length, map, slice_range}
use Rattle.std.specs.List.{flat_map, range_with_len}
use Rattle.limits.specs.Limits.{most_order, most_entries}
use Rattle.lists.specs.Numbers.{Each, IsFirstWithout, IsNumberFrom, from_one, number_at}
use Rattle.patterns.specs.declared.columns.ColumnsRefusal.{ColumnsRefusal}
use Rattle.patterns.specs.declared.columns.ColumnsRefusal.TheVariants as refusals

-- how many columns there are: the last start is where they end
abbrev pub column_count : List ℕ → ℕ
column_count starts = length starts - 1

-- how many entries come before those of column j
abbrev pub entries_before : ℕ → List ℕ → ℕ → ℕ
entries_before base starts j = number_at starts j - base

-- the rows of the entries of column j
abbrev pub rows_in : ℕ → List ℕ → List ℕ → ℕ → List ℕ
rows_in base starts rows j = slice_range rows (entries_before base starts j) (entries_before base starts (j + 1))

-- the entries of column j: their rows and their column, counted from 1
abbrev pub column_pairs : ℕ → List ℕ → List ℕ → ℕ → List (ℕ × ℕ)
column_pairs base starts rows j = map (λ row. (from_one base row, j)) (rows_in base starts rows j)

-- all entries
abbrev pub pairs_given : ℕ → List ℕ → List ℕ → List (ℕ × ℕ)
pairs_given base starts rows = flat_map (column_pairs base starts rows) (range_with_len 1 (column_count starts))

-- ---- what compressed columns keep to

-- a start is the base at the first place, and at no other one is it below the start before
pub record StartFits (base : ℕ) (starts : List ℕ) (j : ℕ) : Type 0 where
  pub first : j ≡ 1 → number_at starts j ≡ base
  pub rising : number_at starts (j - 1) ≤ number_at starts j

-- the base, and how many columns and entries there may be
pub record AreEntriesCounted (base : ℕ) (starts rows : List ℕ) : Type 0 where
  pub base_is : base ≤ 1
  pub some : 1 ≤ column_count starts
  pub few : column_count starts ≤ most_order
  pub few_entries : length rows ≤ most_entries

abbrev pub StartsFit : ℕ → List ℕ → Type 0
StartsFit base starts = Each (length starts) (StartFits base starts)

-- the columns end where the entries do
abbrev pub EndTogether : ℕ → List ℕ → List ℕ → Type 0
EndTogether base starts rows = number_at starts (length starts) ≡ base + length rows

-- the row of entry k is one
abbrev pub RowFits : ℕ → List ℕ → List ℕ → ℕ → Type 0
RowFits base starts rows k = IsNumberFrom base (column_count starts) (number_at rows k)

pub record AreColumns (base : ℕ) (starts rows : List ℕ) : Type 0 where
  pub counted : AreEntriesCounted base starts rows
  pub starts_fit : StartsFit base starts
  pub together : EndTogether base starts rows
  pub rows_fit : Each (length rows) (RowFits base starts rows)

-- the first test that fails, with the first place that fails it; want of memory tells nothing
abbrev pub IsColumnsRefusal : ℕ → List ℕ → List ℕ → ColumnsRefusal → Type 0
IsColumnsRefusal base starts rows refusals.Base = 1 < base
IsColumnsRefusal base starts rows refusals.NoColumn = (base ≤ 1) × (column_count starts ≡ 0)
IsColumnsRefusal base starts rows refusals.ManyColumns = (base ≤ 1) × (most_order < column_count starts)
IsColumnsRefusal base starts rows refusals.ManyEntries =
    (base ≤ 1) × (1 ≤ column_count starts) × (column_count starts ≤ most_order) × (most_entries < length rows)
IsColumnsRefusal base starts rows (refusals.Start j) =
    AreEntriesCounted base starts rows × IsFirstWithout (length starts) (StartFits base starts) j
IsColumnsRefusal base starts rows (refusals.Entries told) =
    AreEntriesCounted base starts rows × StartsFit base starts × (told ≢ length rows) × (number_at starts (length starts) ≡ base + told)
IsColumnsRefusal base starts rows (refusals.Row k) =
    AreEntriesCounted base starts rows × StartsFit base starts × EndTogether base starts rows
    × IsFirstWithout (length rows) (RowFits base starts rows) k
IsColumnsRefusal base starts rows refusals.NoMemory = Unit {0}
