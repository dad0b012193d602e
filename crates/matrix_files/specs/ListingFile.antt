-- Listings of places, as Scotch's gord writes an order of elimination (Pellegrini and Roman 1996): how many vertices there are, then each
-- vertex, by rising number, and its place; the tokens of all lines in order. Vertices and places count from the same base. Their tests.
use Rattle.std.specs.Prelude.{◌==◌, ◌&&◌, ℕ, ◌+◌, Bool, true, false, is_some, if◌then◌else◌, List, [], ◌∷◌, length, map, slice_index_or}
use Rattle.mp_text.specs.Text.{number_of}
use Rattle.mp_text.specs.Grammar.{Test, test, tests_of_all, Format, fault_at}
use Rattle.matrix_files.specs.OrderFile.{value_of, tokens_of_rows}
use Rattle.matrix_files.specs.PermFile.{counted, perm_token_tests}
use Rattle.matrix_files.specs.declared.perm_file.PermKind.{PermKind}
use Rattle.matrix_files.specs.declared.perm_file.PermKind.TheVariants as kinds
use Rattle.matrix_files.specs.declared.stage.ListingStage.{ListingStage}
use Rattle.matrix_files.specs.declared.stage.ListingStage.TheVariants as stages

-- whether a token states this number
abbrev pub states : ℕ → List ℕ → Bool
states n token = is_some (number_of token) && (value_of token == n)

-- what vertices and places count from: 0 where the first vertex, the second token, is 0, else 1
abbrev pub base_listed : List (List ℕ) → ℕ
base_listed tokens = if states 0 (slice_index_or tokens 1 []) then 0 else 1

-- of tokens that are vertices and places in turn, the places
abbrev pub places_of : List (List ℕ) → List (List ℕ)
places_of (vertex ∷ place ∷ rest) = place ∷ places_of rest
places_of _ = []

-- whether each vertex of them has its place
abbrev pub are_pairs : List (List ℕ) → Bool
are_pairs (vertex ∷ place ∷ rest) = are_pairs rest
are_pairs (vertex ∷ []) = false
are_pairs [] = true

-- what comes after these tokens
abbrev pub stage_after : List (List ℕ) → ListingStage
stage_after [] = stages.Count
stage_after (count ∷ pairs) = if are_pairs pairs then stages.Vertex else stages.Place

-- the places of a listing
abbrev pub places_listed : List (List ℕ) → List (List ℕ)
places_listed [] = []
places_listed (count ∷ pairs) = places_of pairs

abbrev pub vertex_count_tests : ℕ → ℕ → List ℕ → List (Test PermKind)
vertex_count_tests n line token = test (states n token) (fault_at line kinds.Count) ∷ []

-- the vertex after so many others
abbrev pub vertex_tests : ℕ → ℕ → ℕ → List ℕ → List (Test PermKind)
vertex_tests base taken line token =
    test (is_some (number_of token)) (fault_at line kinds.Number) ∷ test (value_of token == base + taken) (fault_at line kinds.Range) ∷ []

-- n, then each vertex and its place, which has the tests of a permutation; after these places, counted from 1
abbrev pub staged_tests : ListingStage → ℕ → ℕ → ℕ → List ℕ → List ℕ → List (Test PermKind)
staged_tests stages.Count base n line places token = vertex_count_tests n line token
staged_tests stages.Vertex base n line places token = vertex_tests base (length places) line token
staged_tests stages.Place base n line places token = perm_token_tests base n line places token

abbrev pub listing_token_tests : ℕ → ℕ → ℕ → List (List ℕ) → List ℕ → List (Test PermKind)
listing_token_tests base n line earlier token =
    staged_tests (stage_after earlier) base n line (map (counted base) (places_listed earlier)) token

-- of 2n + 1 tokens that pass, none is missing
abbrev pub listing_format : ℕ → ℕ → Format PermKind
listing_format base n = record {
  line_tests = λ before row.
      tests_of_all (λ earlier token. listing_token_tests base n row.number earlier token) (tokens_of_rows before) row.tokens;
  end_tests = λ rows past. [];
}
