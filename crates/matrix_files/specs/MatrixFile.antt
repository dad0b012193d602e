-- Matrix files: the coordinate format of Matrix Market (Boisvert, Pozo and Remington 1996, NIST), with the field words `double` and
-- `unsigned-integer` besides. What a file reads as, and what it is refused with.
use Rattle.std.specs.Prelude.{◌==◌, ℕ, Bool, false, ◌&&◌, ◌||◌, not, nat_lt, nat_le, is_some, unwrap_or, Option, Some, None, List, [], ◌∷◌}
use Rattle.std.specs.Prelude.{length, map, codes, if◌then◌else◌}
use Rattle.std.specs.Option.{option_and_then, option_map}
use Rattle.std.specs.Char.{to_ascii_lowercase}
use Rattle.std.specs.Str.{bytes_eq}
use Rattle.limits.specs.declared.name.LimitName.TheVariants as limits
use Rattle.limits.specs.Limits.{most_order, most_entries}
use Rattle.mp_text.specs.declared.refusals.Refusal.{Refusal}
use Rattle.mp_text.specs.declared.refusals.Refusal.TheVariants as refusals
use Rattle.mp_text.specs.declared.layout.Layout.TheVariants.{Banner}
use Rattle.mp_text.specs.Text.{Row, number_of, numbers_of}
use Rattle.mp_text.specs.Ahead.{rows_of_bytes, past_of_bytes}
use Rattle.mp_text.specs.Grammar.{Test, test, Format, IsWellFormed, Refuses, fault, fault_at, token_at}
use Rattle.mp_text.specs.Reading.{IsRefusal}
use Rattle.patterns.specs.Pattern.{IsPatternOf}
use Rattle.matrix_files.specs.declared.kind.MatrixKind.{MatrixKind}
use Rattle.matrix_files.specs.declared.kind.MatrixKind.TheVariants as kinds

-- ---- line 1: `%%MatrixMarket matrix coordinate FIELD SYMMETRY`

-- whether a token is this word, without regard to case
unfoldable pub is_word : List ℕ → List ℕ → Bool
is_word word token = bytes_eq (map to_ascii_lowercase token) (map to_ascii_lowercase word)

-- how many values an entry of this field has
abbrev pub values_of_field : List ℕ → Option ℕ
values_of_field token =
    if is_word (codes "pattern") token then Some 0
    else (if is_word (codes "real") token || is_word (codes "double") token || is_word (codes "integer") token
    || is_word (codes "unsigned-integer") token then Some 1
    else (if is_word (codes "complex") token then Some 2
    else None))

abbrev pub is_symmetry : List ℕ → Bool
is_symmetry token =
    is_word (codes "general") token || is_word (codes "symmetric") token || is_word (codes "hermitian") token
    || is_word (codes "skew-symmetric") token

abbrev pub banner_tests : Row → List (Test MatrixKind)
banner_tests row =
    test (nat_le 5 (length row.tokens) && is_word (codes "%%MatrixMarket") (token_at 0 row)) (fault kinds.Banner row)
    ∷ test (is_word (codes "matrix") (token_at 1 row)) (fault kinds.NotMatrix row)
    ∷ test (not (is_word (codes "array") (token_at 2 row))) (fault kinds.ArrayFormat row)
    ∷ test (is_word (codes "coordinate") (token_at 2 row)) (fault kinds.Banner row)
    ∷ test (is_some (values_of_field (token_at 3 row))) (fault kinds.Field row)
    ∷ test (is_symmetry (token_at 4 row)) (fault kinds.Symmetry row)
    ∷ []

abbrev pub values_stated : Row → ℕ
values_stated banner = unwrap_or (values_of_field (token_at 3 banner)) 0

-- ---- the size line: `ROWS COLUMNS ENTRIES`

pub record Size : Type 0 where
  pub rows : ℕ
  pub columns : ℕ
  pub entries : ℕ

-- three tokens, all numbers
abbrev pub three_numbers : List ℕ → Option Size
three_numbers (rows ∷ columns ∷ entries ∷ []) = Some (record { rows = rows; columns = columns; entries = entries })
three_numbers _ = None

unfoldable pub size_stated : List (List ℕ) → Option Size
size_stated tokens = option_and_then three_numbers (numbers_of tokens)

abbrev pub size_of : Row → Size
size_of row = unwrap_or (size_stated row.tokens) (record { rows = 0; columns = 0; entries = 0 })

abbrev pub size_tests : Row → List (Test MatrixKind)
size_tests row =
    test (is_some (size_stated row.tokens) && (not ((size_of row).rows == 0) && not ((size_of row).columns == 0)))
    (fault kinds.SizeLine row)
    ∷ test ((size_of row).rows == (size_of row).columns) (fault kinds.NotSquare row)
    ∷ test (nat_le (size_of row).rows most_order) (refusals.Limit limits.Order)
    ∷ test (nat_le (size_of row).entries most_entries) (refusals.Limit limits.Entries)
    ∷ []

-- ---- an entry: `I J`, and the values of its field

-- two numbers, and as many tokens as there are values
unfoldable pub entry_stated : ℕ → List (List ℕ) → Option (ℕ × ℕ)
entry_stated values (i ∷ j ∷ rest) =
    if length rest == values then option_and_then (λ a. option_map (λ b. (a, b)) (number_of j)) (number_of i) else None
entry_stated values _ = None

abbrev pub pair_of : ℕ → Row → ℕ × ℕ
pair_of values row = unwrap_or (entry_stated values row.tokens) (0, 0)

abbrev pub is_index : ℕ → ℕ → Bool
is_index order i = nat_le 1 i && nat_le i order

-- with the values of an entry, the order, the stated number of entries, and how many lines came before
abbrev pub entry_tests : ℕ → ℕ → ℕ → ℕ → Row → List (Test MatrixKind)
entry_tests values order stated taken row =
    test (nat_lt taken stated) (fault kinds.TooMany row)
    ∷ test (is_some (entry_stated values row.tokens)) (fault kinds.Entry row)
    ∷ test (is_index order (pair_of values row).0 && is_index order (pair_of values row).1) (fault kinds.Index row)
    ∷ []

-- ---- the whole file

abbrev pub matrix_line_tests : List Row → Row → List (Test MatrixKind)
matrix_line_tests [] row = banner_tests row
matrix_line_tests (banner ∷ []) row = size_tests row
matrix_line_tests (banner ∷ size ∷ entries) row =
    entry_tests (values_stated banner) (size_of size).rows (size_of size).entries (length entries) row

abbrev pub matrix_end_tests : List Row → ℕ → List (Test MatrixKind)
matrix_end_tests [] past = test false (fault_at past kinds.Banner) ∷ []
matrix_end_tests (banner ∷ []) past = test false (fault_at past kinds.SizeLine) ∷ []
matrix_end_tests (banner ∷ size ∷ entries) past = test (length entries == (size_of size).entries) (fault_at past kinds.TooFew) ∷ []

abbrev pub matrix_format : Format MatrixKind
matrix_format = record { line_tests = matrix_line_tests; end_tests = matrix_end_tests }

-- the order that the lines state, and the pairs of indices of their entries
abbrev pub order_stated : List Row → ℕ
order_stated (banner ∷ size ∷ entries) = (size_of size).rows
order_stated _ = 0

abbrev pub pairs_stated : List Row → List (ℕ × ℕ)
pairs_stated (banner ∷ size ∷ entries) = map (pair_of (values_stated banner)) entries
pairs_stated _ = []

-- every line passes, and the pattern is that of the order and the pairs stated
pub record ReadsPattern (bytes : List ℕ) (rows : List (List ℕ)) : Type 0 where
  pub form : IsWellFormed matrix_format (rows_of_bytes Banner bytes) (past_of_bytes bytes)
  pub pattern : IsPatternOf (order_stated (rows_of_bytes Banner bytes)) (pairs_stated (rows_of_bytes Banner bytes)) rows

abbrev pub RefusesPattern : List ℕ → Refusal MatrixKind → Type 0
RefusesPattern bytes refusal = Refuses matrix_format (rows_of_bytes Banner bytes) (past_of_bytes bytes) refusal

-- an answer that is no pattern: a refusal of the file, or memory ran out
abbrev pub IsMatrixRefusal : List ℕ → Refusal MatrixKind → Type 0
IsMatrixRefusal bytes refusal = IsRefusal matrix_format (rows_of_bytes Banner bytes) (past_of_bytes bytes) refusal
