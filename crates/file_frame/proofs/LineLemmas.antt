-- The lines of the frame that are printed pass their tests, state what was printed, and count.
use Rattle.std.proofs.Common.{◌≡◌, ℕ, ◌<◌, ◌^◌, true, false, not, List, [], ◌∷◌, refl, ap, Some, None}
use Rattle.std.specs.Fmt.{decimal}
use Rattle.std.specs.Str.{bytes_eq}
use Rattle.std.proofs.lemmas.Bool.{and_from}
use Rattle.mp_text.specs.declared.layout.Layout.TheVariants.{Commented}
use Rattle.mp_text.specs.Text.{Row, says_nothing}
use Rattle.mp_text.specs.Grammar.{first_failure}
use Rattle.mp_text.specs.Report.{is_token, is_counted}
use Rattle.file_frame.specs.declared.version.Version.{Version}
use Rattle.file_frame.specs.declared.version.Version.TheVariants.{One, Two}
use Rattle.file_frame.specs.Words.{after_word, version_of}
use Rattle.file_frame.specs.Frame.{header_tests, version_stated, number_after, stated_on}
use Rattle.file_frame.specs.Printed.{header_line, section_line}
use Rattle.file_frame.proofs.PrintedLaws.{AreLaws}

-- ---- line 1, in a format whose newest version is 2. A name is equal to itself by `refl` where it is known.

abbrev pub header_row : List ℕ → Version → Row
header_row name version = record { number = 1; tokens = header_line name version }

pub header_names : (name : List ℕ) (version : Version) → bytes_eq name name ≡ true
    → version_of name Two (header_line name version) ≡ Some version
unfolding version_of after_word
header_names name One same = rw same refl
header_names name Two same = rw same refl

pub header_passes : {K : Type 0} (name : List ℕ) (no_header : K) (version : Version) → bytes_eq name name ≡ true
    → first_failure (header_tests name Two no_header (header_row name version)) ≡ None
header_passes name no_header version same = rw (header_names name version same) refl

pub header_is : (name : List ℕ) (version : Version) → bytes_eq name name ≡ true
    → version_stated name Two (header_row name version) ≡ version
header_is name version same = rw (header_names name version same) refl

-- ---- a line that begins a section

pub section_number : AreLaws → (word : List ℕ) (number n : ℕ) → bytes_eq word word ≡ true → n < 2 ^ 64
    → number_after word (record { number = number; tokens = section_line word n }) ≡ Some n
unfolding after_word
section_number laws word number n same small = rw same (laws.value n small)

pub section_is : AreLaws → (word : List ℕ) (number n : ℕ) → bytes_eq word word ≡ true → n < 2 ^ 64
    → stated_on word (record { number = number; tokens = section_line word n }) ≡ n
section_is laws word number n same small = rw (section_number laws word number n same small) refl

-- the line counts, where its word is a token that begins no comment
pub section_counted : AreLaws → (word : List ℕ) (n : ℕ) → is_token word ≡ true → says_nothing Commented (word ∷ decimal n ∷ []) ≡ false
    → n < 2 ^ 64 → is_counted Commented (section_line word n) ≡ true
section_counted laws word n token plain small = and_from _ _ (and_from _ _ token (and_from _ _ (laws.token n small) refl)) (ap not plain)
