-- No public clause names this.
-- The options of words, one at a time.
use Rattle.std.specs.Prelude.{Bool, ◌&&◌, not, nat_eq, List, [], ◌∷◌, Option, Some, None, option_map, option_and_then, if◌then◌else◌}
use Rattle.std.specs.List.{list_any, flat_map}
use Rattle.std.specs.Str.{bytes_eq}
use Rattle.clap.specs.Lexer.{name_and_value}
use Rattle.command_line.specs.Words.{Text, Given, is_value, cut, options_of}

-- the options that words give in either form
abbrev pub options_in : List Text → Option (List Given)
options_in words = options_of (flat_map cut words)

-- ---- one word

abbrev pub after_hyphens : Text → Option Text
after_hyphens (a ∷ b ∷ text) = if nat_eq a 45 && nat_eq b 45 then Some text else None
after_hyphens _ = None

-- a name is not empty
abbrev pub if_named : Text → Option Text → Option (Text × Option Text)
if_named [] value = None
if_named (b ∷ bs) value = Some (b ∷ bs, value)

-- the name of the option in a word, and its value, if that stands in the word too
abbrev pub option_in : Text → Option (Text × Option Text)
option_in word = option_and_then (λ text. if_named (name_and_value text).0 (name_and_value text).1) (after_hyphens word)

-- ---- one option

abbrev pub given_as : Text → Text → Given
given_as name value = record { name = name; value = value }

abbrev pub with_value : Text → Text → List Text → Option (Given × List Text)
with_value name value words = if is_value value then Some (given_as name value, words) else None

-- the option of this name, with this value, or with the next word as its value
abbrev pub with_words : Text → Option Text → List Text → Option (Given × List Text)
with_words name (Some value) words = with_value name value words
with_words name None [] = None
with_words name None (value ∷ words) = with_value name value words

-- the option that the words begin with, and the words after it
abbrev pub first_option : List Text → Option (Given × List Text)
first_option [] = None
first_option (word ∷ words) = option_and_then (λ found. with_words found.0 found.1 words) (option_in word)

-- that option, before those of the words after it
abbrev pub with_rest : Option (Given × List Text) → Option (List Given)
with_rest None = None
with_rest (Some found) = option_map (λ options. found.0 ∷ options) (options_in found.1)

-- ---- names

abbrev pub is_among : List Text → Text → Bool
is_among names name = list_any (λ listed. bytes_eq listed name) names

-- a name is listed and not given yet
abbrev pub is_new : List Text → List Text → Text → Bool
is_new names given name = is_among names name && not (is_among given name)
