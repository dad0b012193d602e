-- The frame of this project's own formats. Line 1 has the name of the format and its version. A section begins with a line of a word and a
-- number. The last line is `end`, and there is none after it. A format says which words these are, and what it calls each fault.
use Rattle.std.specs.Prelude.{ℕ, ◌+◌, Bool, false, nat_lt, nat_le, is_some, unwrap_or, if◌then◌else◌, Option, List, [], ◌∷◌, ◌++◌}
use Rattle.std.specs.Prelude.{length, take, drop, codes, slice_index_or}
use Rattle.std.specs.Option.{option_and_then}
use Rattle.std.specs.Str.{bytes_eq}
use Rattle.std.specs.Cmp.Lexicographic.{pointwise}
use Rattle.limits.specs.declared.name.LimitName.{LimitName}
use Rattle.mp_text.specs.declared.refusals.Refusal.TheVariants as refusals
use Rattle.mp_text.specs.Text.{Row, number_of}
use Rattle.mp_text.specs.Grammar.{Test, test, fault, fault_at}
use Rattle.file_frame.specs.declared.version.Version.{Version}
use Rattle.file_frame.specs.declared.version.Version.TheVariants.{One}
use Rattle.file_frame.specs.Words.{after_word, version_of}

-- ---- line 1: the name of the format and a version, up to the newest

abbrev pub header_tests : {K : Type 0} → List ℕ → Version → K → Row → List (Test K)
header_tests name newest no_header row = test (is_some (version_of name newest row.tokens)) (fault no_header row) ∷ []

abbrev pub version_stated : List ℕ → Version → Row → Version
version_stated name newest header = unwrap_or (version_of name newest header.tokens) One

-- ---- a line that begins a section: a word and a number

-- the number after the word
abbrev pub number_after : List ℕ → Row → Option ℕ
number_after word row = option_and_then number_of (after_word word row.tokens)

abbrev pub stated_on : List ℕ → Row → ℕ
stated_on word row = unwrap_or (number_after word row) 0

abbrev pub section_tests : {K : Type 0} → List ℕ → K → K → Row → List (Test K)
section_tests word no_word no_number row =
    test (is_some (after_word word row.tokens)) (fault no_word row)
    ∷ test (is_some (number_after word row)) (fault no_number row)
    ∷ []

-- the same, where the number is within a limit
abbrev pub count_tests : {K : Type 0} → List ℕ → K → K → ℕ → LimitName → Row → List (Test K)
count_tests word no_word no_number most limit row =
    section_tests word no_word no_number row ++ test (nat_le (stated_on word row) most) (refusals.Limit limit) ∷ []

-- ---- the last line, `end`, and none after it

abbrev pub is_end : Row → Bool
is_end row = pointwise bytes_eq row.tokens (codes "end" ∷ [])

abbrev pub last_tests : {K : Type 0} → K → Row → List (Test K)
last_tests no_end row = test (is_end row) (fault no_end row) ∷ []

abbrev pub further_tests : {K : Type 0} → K → Row → List (Test K)
further_tests further row = test false (fault further row) ∷ []

-- the end of the file, where no line is missing
abbrev pub end_tests : {K : Type 0} → Bool → K → ℕ → List (Test K)
end_tests complete missing past = test complete (fault_at past missing) ∷ []

-- ---- how lines follow one another: the tests of a line, given the lines before it

-- a first line, and what follows it
abbrev pub first_then : {K : Type 0} → (Row → List (Test K)) → (Row → List Row → Row → List (Test K)) → List Row → Row → List (Test K)
first_then first rest [] row = first row
first_then first rest (line ∷ rows) row = rest line rows row

-- so many lines of one kind, each given those before it, and what follows all of them
abbrev pub lines_then : {K : Type 0} → ℕ → (List Row → Row → List (Test K)) → (List Row → List Row → Row → List (Test K)) → List Row → Row
    → List (Test K)
lines_then count each rest rows row =
    if nat_lt (length rows) count then each rows row else rest (take count rows) (drop count rows) row

-- the last line, and none after it
abbrev pub end_then_none : {K : Type 0} → K → K → List Row → Row → List (Test K)
end_then_none no_end further [] row = last_tests no_end row
end_then_none no_end further (last ∷ rows) row = further_tests further row

-- whether there is a first line, and this holds of it and of the lines after it
abbrev pub has_first : (Row → List Row → Bool) → List Row → Bool
has_first holds [] = false
has_first holds (line ∷ rows) = holds line rows

-- ---- lines of values

-- the number of the line that states value v, counted from 1, of a section that begins in the second line
abbrev pub line_stating : List Row → ℕ → ℕ
line_stating rows v = (slice_index_or rows (v + 1) (record { number = 0; tokens = [] })).number
