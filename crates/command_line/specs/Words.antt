-- What the words of a command line say: a command, and options with a value each. The form is that of long options in the
-- GNU C Library Reference Manual, section 'Program Argument Syntax Conventions', without its abbreviations.
use Rattle.std.specs.Prelude.{ℕ, Bool, true, false, ◌&&◌, not, nat_eq, List, [], ◌∷◌, Option, Some, None, option_map, option_and_then, find}
use Rattle.std.specs.Prelude.{drop, if◌then◌else◌}
use Rattle.std.specs.List.{list_any, list_all, flat_map, before_first, after_first}
use Rattle.std.specs.Str.{bytes_eq}

abbrev pub Text : Type 0
Text = List ℕ

-- a command of a table, and the names of its options
pub record Shape : Type 0 where
  pub name : Text
  pub options : List Text

-- an option that is given
pub record Given : Type 0 where
  pub name : Text
  pub value : Text

-- a command, and the options that are given to it
pub record Line : Type 0 where
  pub command : Text
  pub options : List Given

-- two hyphens and a name; two hyphens alone are no option
abbrev pub is_option : Text → Bool
is_option (a ∷ b ∷ c ∷ name) = nat_eq a 45 && nat_eq b 45
is_option _ = false

-- a value is not empty and does not begin with a hyphen
abbrev pub is_value : Text → Bool
is_value [] = false
is_value (b ∷ bs) = not (nat_eq b 45)

abbrev pub is_equals : ℕ → Bool
is_equals b = nat_eq b 61

-- `--name=value` is cut at its first `=`, and so means the same as `--name value`
abbrev pub cut : Text → List Text
cut word =
    if is_option word && list_any is_equals word then before_first is_equals word ∷ after_first is_equals word ∷ [] else word ∷ []

-- the options that words give, two words for each: two hyphens and its name, and then its value
abbrev pub options_of : List Text → Option (List Given)
options_of [] = Some []
options_of (word ∷ []) = None
options_of (word ∷ value ∷ words) =
    if is_option word && is_value value
    then option_map (λ options. record { name = drop 2 word; value = value } ∷ options) (options_of words) else None

-- every option has one of these names
abbrev pub are_among : List Text → List Given → Bool
are_among names = list_all (λ option. list_any (λ name. bytes_eq name option.name) names)

-- an option of this name is given
abbrev pub gives : Text → List Given → Bool
gives name = list_any (λ option. bytes_eq option.name name)

-- no option is given twice
abbrev pub are_distinct : List Given → Bool
are_distinct [] = true
are_distinct (option ∷ options) = not (gives option.name options) && are_distinct options

-- options, if they have these names and each is given at most once
abbrev pub if_allowed : List Text → List Given → Option (List Given)
if_allowed names options = if are_among names options && are_distinct options then Some options else None

-- the options of these names that words give, in one word or two
abbrev pub options_among : List Text → List Text → Option (List Given)
options_among names words = option_and_then (if_allowed names) (options_of (flat_map cut words))

-- the line that words say: first a command of the table, and then options of that command
abbrev pub line_of : List Shape → List Text → Option Line
line_of shapes [] = None
line_of shapes (command ∷ words) = option_and_then
    (λ shape. option_map (λ options. record { command = command; options = options }) (options_among shape.options words))
    (find (λ shape. bytes_eq shape.name command) shapes)

-- the value of an option, if it is given
abbrev pub value_of : Text → List Given → Option Text
value_of name options = option_map (λ option. option.value) (find (λ option. bytes_eq option.name name) options)
