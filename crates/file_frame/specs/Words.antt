-- Lines that begin with a word, and the words of versions.
use Rattle.std.specs.Prelude.{ℕ, if◌then◌else◌, Option, Some, None, List, [], ◌∷◌, codes, find}
use Rattle.std.specs.Option.{option_and_then}
use Rattle.std.specs.Str.{bytes_eq}
use Rattle.file_frame.specs.declared.version.Version.{Version}
use Rattle.file_frame.specs.declared.version.Version.TheVariants.{One, Two}

-- the second of two tokens of which the first is this word
unfoldable pub after_word : List ℕ → List (List ℕ) → Option (List ℕ)
after_word word (first ∷ second ∷ []) = if bytes_eq first word then Some second else None
after_word word _ = None

abbrev pub version_word : Version → List ℕ
version_word One = codes "1"
version_word Two = codes "2"

-- the versions that a format has, up to its newest
abbrev pub versions_up_to : Version → List Version
versions_up_to One = One ∷ []
versions_up_to Two = One ∷ Two ∷ []

-- the version that a word names, in a format whose newest is this
abbrev pub version_named : Version → List ℕ → Option Version
version_named newest word = find (λ version. bytes_eq word (version_word version)) (versions_up_to newest)

-- the version that line 1 names: the name of the format, and the word of the version
unfoldable pub version_of : List ℕ → Version → List (List ℕ) → Option Version
version_of name newest tokens = option_and_then (version_named newest) (after_word name tokens)
