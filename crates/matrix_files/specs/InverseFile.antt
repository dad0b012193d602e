-- Files of the inverse of an order of elimination: the places of the vertices, counted from 0 or from 1. METIS's ndmetis (Karypis and Kumar
-- 1998) writes places alone: the v-th number, of the tokens of all lines, is the place of vertex v. Scotch's gord writes a listing. What a
-- file reads as, and what it is refused with.
use Rattle.std.specs.Prelude.{◌≡◌, ◌==◌, ℕ, ◌+◌, ◌*◌, Bool, List, length, map, if◌then◌else◌}
use Rattle.std.specs.List.{list_any, range_with_len}
use Rattle.mp_text.specs.declared.layout.Layout.TheVariants.{Commented}
use Rattle.mp_text.specs.declared.refusals.Refusal.{Refusal}
use Rattle.mp_text.specs.declared.refusals.Refusal.TheVariants as refusals
use Rattle.mp_text.specs.Text.{Row}
use Rattle.mp_text.specs.Ahead.{rows_of_bytes, past_of_bytes}
use Rattle.mp_text.specs.Grammar.{Format, IsWellFormed, Refuses}
use Rattle.permutations.specs.Perm.{place_of}
use Rattle.matrix_files.specs.OrderFile.{tokens_of_rows}
use Rattle.matrix_files.specs.PermFile.{counted, numbering_format}
use Rattle.matrix_files.specs.ListingFile.{states, base_listed, places_listed, listing_format}
use Rattle.matrix_files.specs.declared.perm_file.PermKind.{PermKind}

-- the order whose inverse is a list of places: the vertex at place k is the one whose number is k
abbrev pub inverse_of : List ℕ → List ℕ
inverse_of places = map (place_of places) (range_with_len 1 (length places))

-- a file of 2n + 1 tokens is a listing; of any other number of tokens, of places alone
abbrev pub is_listing : ℕ → List Row → Bool
is_listing n rows = length (tokens_of_rows rows) == 2 * n + 1

-- what places alone count from: 0 where some token states 0, else 1
abbrev pub base_alone : List Row → ℕ
base_alone rows = if list_any (λ row. list_any (states 0) row.tokens) rows then 0 else 1

-- what the file counts from
abbrev pub base_stated : ℕ → List Row → ℕ
base_stated n rows = if is_listing n rows then base_listed (tokens_of_rows rows) else base_alone rows

-- places alone have the tests of a permutation
abbrev pub inverse_format : ℕ → List Row → Format PermKind
inverse_format n rows =
    if is_listing n rows then listing_format (base_listed (tokens_of_rows rows)) n else numbering_format (base_alone rows) n

-- the tokens that state the places, by vertex
abbrev pub place_tokens : ℕ → List Row → List (List ℕ)
place_tokens n rows = if is_listing n rows then places_listed (tokens_of_rows rows) else tokens_of_rows rows

-- the places that the lines state, counted from 1
abbrev pub places_stated : ℕ → List Row → List ℕ
places_stated n rows = map (counted (base_stated n rows)) (place_tokens n rows)

-- every token passes, none is missing, and the order is the one whose inverse is stated
pub record ReadsInverse (n : ℕ) (bytes order : List ℕ) : Type 0 where
  pub form : let rows = rows_of_bytes Commented bytes in IsWellFormed (inverse_format n rows) rows (past_of_bytes bytes)
  pub stated : order ≡ inverse_of (places_stated n (rows_of_bytes Commented bytes))

abbrev pub RefusesInverse : ℕ → List ℕ → Refusal PermKind → Type 0
RefusesInverse n bytes refusal =
    let rows = rows_of_bytes Commented bytes in Refuses (inverse_format n rows) rows (past_of_bytes bytes) refusal

-- an answer that is no order: a refusal of the file, which is never a limit, or memory ran out
abbrev pub IsInverseRefusal : ℕ → List ℕ → Refusal PermKind → Type 0
IsInverseRefusal n bytes refusals.NoMemory = Unit {0}
IsInverseRefusal n bytes (refusals.Format f) = RefusesInverse n bytes (refusals.Format f)
IsInverseRefusal n bytes (refusals.Limit l) = ⊥
