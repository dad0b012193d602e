-- No public clause names this.
-- What the reader of listings of places does with a token, from what it keeps of those before, and what is read of a file of places.
use Rattle.std.specs.Prelude.{◌≡◌, ℕ, ◌-◌, ◌^◌, min, List, [], ◌∷◌, ◌++◌, map, Result}
use Rattle.mp_text.specs.declared.layout.Layout.TheVariants.{Commented}
use Rattle.mp_text.specs.declared.refusals.Refusal.{Refusal}
use Rattle.mp_text.specs.Text.{Row}
use Rattle.mp_text.specs.Ahead.{rows_of_bytes, past_of_bytes}
use Rattle.mp_text.specs.Grammar.{IsWellFormed}
use Rattle.mp_text.specs.Reading.{tested, steps_of_all}
use Rattle.matrix_files.specs.OrderFile.{tokens_of_rows}
use Rattle.matrix_files.specs.PermFile.{counted}
use Rattle.matrix_files.specs.ListingFile.{stage_after, places_listed, staged_tests, listing_format}
use Rattle.matrix_files.specs.InverseFile.{inverse_format, places_stated}
use Rattle.matrix_files.specs.declared.perm_file.PermKind.{PermKind}
use Rattle.matrix_files.specs.declared.stage.ListingStage.{ListingStage}
use Rattle.matrix_files.specs.declared.stage.ListingStage.TheVariants as stages

-- a counter that stays at the greatest number tells how many there are
abbrev pub IsCountOf : ℕ → ℕ → Type 0
IsCountOf counter many = min counter (2 ^ 64 - 1) ≡ min many (2 ^ 64 - 1)

-- what comes next, of how many vertices, and the places so far, counted from 1
pub record ListingState : Type 0 where
  pub stage : ListingStage
  pub n : ℕ
  pub places : List ℕ

-- the reader after these tokens
abbrev pub listed : ℕ → ℕ → List (List ℕ) → ListingState
listed base n tokens = record { stage = stage_after tokens; n = n; places = map (counted base) (places_listed tokens) }

-- the reader after one token more
abbrev pub after_token : ListingStage → ℕ → ListingState → List ℕ → ListingState
after_token stages.Count base s token = record s { stage = stages.Vertex }
after_token stages.Vertex base s token = record s { stage = stages.Place }
after_token stages.Place base s token = record s { stage = stages.Vertex; places = s.places ++ counted base token ∷ [] }

unfoldable pub listing_step : ℕ → ℕ → ListingState → List ℕ → Result ListingState (Refusal PermKind)
listing_step base line s token = tested (staged_tests s.stage base s.n line s.places token) (after_token s.stage base s token)

abbrev pub listing_line : ℕ → ListingState → Row → Result ListingState (Refusal PermKind)
listing_line base s row = steps_of_all (listing_step base row.number) s row.tokens

abbrev pub took_listing : ℕ → ListingState → List Row → Type 0
took_listing base s rows = s ≡ listed base s.n (tokens_of_rows rows)

-- every token passes, and the numbers are the places stated
pub record ReadsListing (base n : ℕ) (bytes numbers : List ℕ) : Type 0 where
  pub form : IsWellFormed (listing_format base n) (rows_of_bytes Commented bytes) (past_of_bytes bytes)
  pub stated : numbers ≡ map (counted base) (places_listed (tokens_of_rows (rows_of_bytes Commented bytes)))

-- the same of a file of places in either form
pub record ReadsPlaces (n : ℕ) (bytes places : List ℕ) : Type 0 where
  pub form : let rows = rows_of_bytes Commented bytes in IsWellFormed (inverse_format n rows) rows (past_of_bytes bytes)
  pub stated : places ≡ places_stated n (rows_of_bytes Commented bytes)
