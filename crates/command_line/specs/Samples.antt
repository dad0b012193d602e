-- No public clause names this.
-- Worked examples of lines.
use Rattle.std.specs.Prelude.{◌≡◌, List, [], ◌∷◌, Option, Some, None, codes, refl}
use Rattle.command_line.specs.Words.{Text, Shape, Line, line_of}

abbrev pub shapes : List Shape
shapes = record { name = codes "post"; options = codes "tree" ∷ codes "matrix" ∷ [] } ∷ []

abbrev pub post_line : List Text → Option Line
post_line words = line_of shapes (codes "post" ∷ words)

abbrev pub a_tree : Text → Option Line
a_tree value = Some (record { command = codes "post"; options = record { name = codes "tree"; value = value } ∷ [] })

pub in_two_words : post_line (codes "--tree" ∷ codes "t" ∷ []) ≡ a_tree (codes "t")
in_two_words = refl

pub in_one_word : post_line (codes "--tree=t" ∷ []) ≡ a_tree (codes "t")
in_one_word = refl

pub at_the_first_equals : post_line (codes "--tree=t=u" ∷ []) ≡ a_tree (codes "t=u")
at_the_first_equals = refl

pub equals_in_a_value : post_line (codes "--tree" ∷ codes "=t" ∷ []) ≡ a_tree (codes "=t")
equals_in_a_value = refl

pub twice : post_line (codes "--tree=t" ∷ codes "--tree" ∷ codes "t" ∷ []) ≡ None
twice = refl

pub two_hyphens : post_line (codes "--" ∷ codes "t" ∷ []) ≡ None
two_hyphens = refl

pub a_nameless_value : post_line (codes "--=t" ∷ []) ≡ None
a_nameless_value = refl

pub an_empty_value : post_line (codes "--tree=" ∷ []) ≡ None
an_empty_value = refl

pub a_hyphen : post_line (codes "--tree" ∷ codes "-t" ∷ []) ≡ None
a_hyphen = refl

pub help : post_line (codes "--help" ∷ []) ≡ None
help = refl
