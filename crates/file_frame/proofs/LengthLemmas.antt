-- Bounds on the bytes of lines and of texts that are printed.
use Rattle.std.proofs.Common.{◌≡◌, ℕ, ◌+◌, ◌*◌, ◌≤◌, List, [], ◌∷◌, ◌++◌, length, map, ap, subst, ◌∙◌, arith, length-append}
use Rattle.std.specs.Fmt.{decimal}
use Rattle.std.specs.List.{All, join_with_byte}
use Rattle.std.proofs.lemmas.Grind.{flat_map-append}
use Rattle.std.proofs.lemmas.List.{length-map}
use Rattle.std.proofs.lemmas.List.Concat.{length-flat_map}
use Rattle.std.proofs.lemmas.List.Elements.{All-map, All-weaker}
use Rattle.std.proofs.lemmas.List.Sums.{sum_by-le}
use Rattle.mp_text.specs.Report.{line_text, text_of_lines}
use Rattle.file_frame.specs.declared.version.Version.{Version}
use Rattle.file_frame.specs.declared.version.Version.TheVariants.{One, Two}
use Rattle.file_frame.specs.Printed.{header_line, section_line}

-- ---- texts of lines

-- the line has at most this many bytes
abbrev pub IsLineWithin : ℕ → List (List ℕ) → Type 0
IsLineWithin most line = length (line_text line) ≤ most

pub text-within : (most : ℕ) (lines : List (List (List ℕ))) → All (IsLineWithin most) lines
    → length (text_of_lines lines) ≤ length lines * most
text-within most lines within =
    omega (arith, length-flat_map line_text lines, sum_by-le (λ (line : List (List ℕ)). length (line_text line)) most lines within)

-- the same of a line for each element
pub mapped-within : {X : Type 0} (P : X → Type 0) (line : X → List (List ℕ)) (most : ℕ) → ((x : X) → P x → IsLineWithin most (line x))
    → (xs : List X) → All P xs → length (text_of_lines (map line xs)) ≤ length xs * most
mapped-within P line most each xs all =
    let within = All-map (IsLineWithin most) line xs (All-weaker P (λ x. IsLineWithin most (line x)) each xs all) in
    subst (λ (n : ℕ). length (text_of_lines (map line xs)) ≤ n * most) (length-map xs line) (text-within most (map line xs) within)

pub text-append : (one two : List (List (List ℕ)))
    → length (text_of_lines (one ++ two)) ≡ length (text_of_lines one) + length (text_of_lines two)
text-append one two = ap length (flat_map-append line_text one two) ∙ length-append (text_of_lines one) (text_of_lines two)

pub text-cons : (line : List (List ℕ)) (lines : List (List (List ℕ)))
    → length (text_of_lines (line ∷ lines)) ≡ length (line_text line) + length (text_of_lines lines)
text-cons line lines = length-append (line_text line) (text_of_lines lines)

-- ---- lines of tokens

pub last-token : (a : List ℕ) → length (line_text (a ∷ [])) ≡ length a + 1
last-token a = length-append a (10 ∷ [])

pub first-token : (a b : List ℕ) (tokens : List (List ℕ))
    → length (line_text (a ∷ b ∷ tokens)) ≡ length a + 1 + length (line_text (b ∷ tokens))
first-token a b tokens =
    let joined = join_with_byte 32 (b ∷ tokens) in
    omega (arith, length-append (a ++ 32 ∷ joined) (10 ∷ []), length-append a (32 ∷ joined), length-append joined (10 ∷ []))

-- ---- lines of the frame

pub header-within : (name : List ℕ) (version : Version) → IsLineWithin (length name + 3) (header_line name version)
header-within name One = omega (arith, first-token name (49 ∷ []) [], last-token (49 ∷ []))
header-within name Two = omega (arith, first-token name (50 ∷ []) [], last-token (50 ∷ []))

pub section-within : (word : List ℕ) (n digits : ℕ) → length (decimal n) ≤ digits
    → IsLineWithin (length word + digits + 2) (section_line word n)
section-within word n digits short = omega (arith, first-token word (decimal n) [], last-token (decimal n))
