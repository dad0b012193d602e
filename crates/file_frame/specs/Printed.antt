-- The lines of the frame as they are printed.
use Rattle.std.specs.Prelude.{ℕ, List, [], ◌∷◌, codes}
use Rattle.std.specs.Fmt.{decimal}
use Rattle.file_frame.specs.declared.version.Version.{Version}
use Rattle.file_frame.specs.Words.{version_word}

-- line 1
abbrev pub header_line : List ℕ → Version → List (List ℕ)
header_line name version = name ∷ version_word version ∷ []

-- a line that begins a section
abbrev pub section_line : List ℕ → ℕ → List (List ℕ)
section_line word number = word ∷ decimal number ∷ []

-- the last line
abbrev pub end_line : List (List ℕ)
end_line = codes "end" ∷ []
