-- What a report holds: lines of tokens, with one blank between two tokens and a line feed at the end of a line.
use Rattle.std.specs.Prelude.{ℕ, ◌+◌, Bool, true, ◌&&◌, ◌||◌, not, if◌then◌else◌, List, [], ◌∷◌, ◌++◌}
use Rattle.std.specs.List.{list_all, join_with_byte, flat_map}
use Rattle.std.specs.Fmt.{decimal, signed_decimal}
use Rattle.mp_text.specs.declared.layout.Layout.{Layout}
use Rattle.mp_text.specs.declared.reports.Token.{Token}
use Rattle.mp_text.specs.declared.reports.Token.TheVariants.{Word, Number, Signed}
use Rattle.mp_text.specs.Text.{Row, is_blank, is_feed, is_filled, says_nothing}

-- the last byte of a text, or this one before it
abbrev pub last_or : ℕ → List ℕ → ℕ
last_or b [] = b
last_or b (c ∷ cs) = last_or c cs

-- whether a text is empty or ends with a line feed, so that what is appended begins a line
abbrev pub is_line_start : List ℕ → Bool
is_line_start text = is_feed (last_or 10 text)

-- a text with one token more: a blank stands before it, unless it begins a line
abbrev pub with_token : List ℕ → List ℕ → List ℕ
with_token text token = if is_line_start text then text ++ token else text ++ 32 ∷ token

-- a text with some tokens more
abbrev pub with_tokens : List ℕ → List (List ℕ) → List ℕ
with_tokens text [] = text
with_tokens text (token ∷ tokens) = with_tokens (with_token text token) tokens

-- a line of tokens
abbrev pub line_text : List (List ℕ) → List ℕ
line_text tokens = join_with_byte 32 tokens ++ 10 ∷ []

-- lines, one after another
abbrev pub text_of_lines : List (List (List ℕ)) → List ℕ
text_of_lines lines = flat_map line_text lines

-- a byte of a token: it parts neither tokens nor lines
abbrev pub is_plain : ℕ → Bool
is_plain b = not (is_blank b || is_feed b)

-- bytes that are one token
abbrev pub is_token : List ℕ → Bool
is_token token = is_filled token && list_all is_plain token

-- what is printed as a token, and whether that is one
abbrev pub token_text : Token → List ℕ
token_text (Word word) = word.now
token_text (Number n) = decimal n
token_text (Signed n) = signed_decimal n

abbrev pub is_printable : Token → Bool
is_printable (Word word) = is_token word.now
is_printable (Number n) = true
is_printable (Signed n) = true

-- tokens that make a line that counts: at least one, and the first begins no comment
abbrev pub is_counted : Layout → List (List ℕ) → Bool
is_counted layout tokens = list_all is_token tokens && not (says_nothing layout tokens)

-- lines with their numbers, from this number on
abbrev pub numbered_from : ℕ → List (List (List ℕ)) → List Row
numbered_from n [] = []
numbered_from n (tokens ∷ lines) = record { number = n; tokens = tokens } ∷ numbered_from (n + 1) lines
