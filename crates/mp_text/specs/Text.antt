-- What a file of bytes is: lines, their tokens, and the numbers that tokens spell.
use Rattle.std.specs.Prelude.{ℕ, ◌+◌, ◌*◌, ◌-◌, ◌^◌, ℤ, pos, neg_ℤ, List, [], ◌∷◌, Option, Some, None}
use Rattle.std.specs.Prelude.{Bool, true, false, ◌&&◌, ◌||◌, not, ◌==◌, nat_lt, nat_le, if◌then◌else◌}
use Rattle.std.specs.Option.{option_and_then, option_map}
use Rattle.std.specs.List.{filter, slice_split, list_all}
use Rattle.mp_text.specs.declared.layout.Layout.{Layout}
use Rattle.mp_text.specs.declared.layout.Layout.TheVariants.{Commented, Banner}

-- a byte that parts two tokens of a line
abbrev pub is_blank : ℕ → Bool
is_blank b = b == 32 || b == 9 || b == 13

-- a byte that ends a line
abbrev pub is_feed : ℕ → Bool
is_feed b = b == 10

-- a byte goes onto the first line of the rest, or makes one
abbrev pub onto_line : ℕ → List (List ℕ) → List (List ℕ)
onto_line b [] = (b ∷ []) ∷ []
onto_line b (line ∷ lines) = (b ∷ line) ∷ lines

-- the lines of a file, without what ends them; a last line with no feed counts where it is not empty
unfoldable pub lines_of : List ℕ → List (List ℕ)
lines_of [] = []
lines_of (b ∷ bs) = if is_feed b then [] ∷ lines_of bs else onto_line b (lines_of bs)

abbrev pub is_filled : List ℕ → Bool
is_filled [] = false
is_filled (b ∷ bs) = true

-- the tokens of a line: what stands between blanks, where anything does
unfoldable pub tokens_of : List ℕ → List (List ℕ)
tokens_of line = filter is_filled (slice_split is_blank line)

abbrev pub is_digit : ℕ → Bool
is_digit b = nat_le 48 b && nat_le b 57

-- the value of digits that follow a number
abbrev pub value_from : ℕ → List ℕ → ℕ
value_from n [] = n
value_from n (b ∷ bs) = value_from (10 * n + (b - 48)) bs

-- the number that digits spell after a number, where all are digits and it fits
unfoldable pub number_from : ℕ → List ℕ → Option ℕ
number_from n bs = if list_all is_digit bs && nat_lt (value_from n bs) (2 ^ 64) then Some (value_from n bs) else None

-- the number that a token spells, if it does
unfoldable pub number_of : List ℕ → Option ℕ
number_of token = if is_filled token then number_from 0 token else None

-- the numbers that tokens spell, if each spells one
unfoldable pub numbers_of : List (List ℕ) → Option (List ℕ)
numbers_of [] = Some []
numbers_of (token ∷ tokens) = option_and_then (λ n. option_map (λ ns. n ∷ ns) (numbers_of tokens)) (number_of token)

-- a number and its negative, where they fit in a signed number
abbrev pub positive_of : ℕ → Option ℤ
positive_of n = if nat_lt n (2 ^ 63) then Some (pos n) else None

abbrev pub negative_of : ℕ → Option ℤ
negative_of n = if nat_le n (2 ^ 63) then Some (neg_ℤ (pos n)) else None

-- the signed number that a token spells, if it does: a number, or a minus followed by one
unfoldable pub signed_of : List ℕ → Option ℤ
signed_of [] = None
signed_of (b ∷ bs) = if b == 45 then option_and_then negative_of (number_of bs) else option_and_then positive_of (number_of (b ∷ bs))

-- a line with its number in the file, and its tokens
pub record Row : Type 0 where
  pub number : ℕ
  pub tokens : List (List ℕ)

-- a token that begins a comment
abbrev pub is_comment : Layout → List ℕ → Bool
is_comment layout [] = false
is_comment Commented (b ∷ bs) = b == 37 || b == 35
is_comment Banner (b ∷ bs) = b == 37

-- a line without a token, or with a first one that begins a comment
abbrev pub says_nothing : Layout → List (List ℕ) → Bool
says_nothing layout [] = true
says_nothing layout (token ∷ tokens) = is_comment layout token

-- line 1 of a file with a banner
abbrev pub is_banner : Layout → ℕ → Bool
is_banner Commented number = false
is_banner Banner number = number == 1

-- a line with this number is passed over where it says nothing and is no banner
abbrev pub is_passed : Layout → ℕ → List (List ℕ) → Bool
is_passed layout number tokens = not (is_banner layout number) && says_nothing layout tokens

-- lines that are all passed over, the first of this number
abbrev pub are_passed : Layout → ℕ → List (List ℕ) → Bool
are_passed layout number [] = true
are_passed layout number (line ∷ lines) = is_passed layout number (tokens_of line) && are_passed layout (number + 1) lines

-- the lines that count, from the line with this number on
unfoldable pub rows_from : Layout → ℕ → List (List ℕ) → List Row
rows_from layout number [] = []
rows_from layout number (line ∷ lines) =
    if is_passed layout number (tokens_of line)
    then rows_from layout (number + 1) lines
    else record { number = number; tokens = tokens_of line } ∷ rows_from layout (number + 1) lines
