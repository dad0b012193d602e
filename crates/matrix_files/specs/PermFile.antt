-- Permutation files: each of 1 to n once, the tokens of all lines in order. What a file reads as, and what it is refused with.
use Rattle.std.specs.Prelude.{◌≡◌, ◌==◌, ℕ, Bool, ◌&&◌, nat_lt, nat_le, is_some, List, [], ◌∷◌, length, map}
use Rattle.lists.specs.Numbers.{from_one}
use Rattle.mp_text.specs.declared.layout.Layout.TheVariants.{Commented}
use Rattle.mp_text.specs.declared.refusals.Refusal.{Refusal}
use Rattle.mp_text.specs.declared.refusals.Refusal.TheVariants as refusals
use Rattle.mp_text.specs.Text.{number_of}
use Rattle.mp_text.specs.Ahead.{rows_of_bytes, past_of_bytes}
use Rattle.mp_text.specs.Grammar.{Test, test, tests_of_all, Format, IsWellFormed, Refuses, fault_at}
use Rattle.matrix_files.specs.OrderFile.{value_of, tokens_of_rows, numbers_stated}
use Rattle.permutations.specs.Perm.{times}
use Rattle.matrix_files.specs.declared.perm_file.PermKind.{PermKind}
use Rattle.matrix_files.specs.declared.perm_file.PermKind.TheVariants as kinds

abbrev pub is_vertex : ℕ → ℕ → Bool
is_vertex n v = nat_le 1 v && nat_le v n

-- the number that a token states, from a base on, counted from 1
abbrev pub counted : ℕ → List ℕ → ℕ
counted base token = from_one base (value_of token)

-- a number, at most n of them, each from 1 to n, none twice, all counted from 1; after these numbers
abbrev pub perm_token_tests : ℕ → ℕ → ℕ → List ℕ → List ℕ → List (Test PermKind)
perm_token_tests base n line earlier token =
    test (is_some (number_of token)) (fault_at line kinds.Number)
    ∷ test (nat_lt (length earlier) n) (fault_at line kinds.Count)
    ∷ test (is_vertex n (counted base token)) (fault_at line kinds.Range)
    ∷ test (times earlier (counted base token) == 0) (fault_at line kinds.Repeated)
    ∷ []

-- at the end, after so many numbers, none is missing
abbrev pub perm_count_tests : ℕ → ℕ → ℕ → List (Test PermKind)
perm_count_tests n taken past = test (nat_le n taken) (fault_at past kinds.Count) ∷ []

-- n numbers, counted from a base, each once
abbrev pub numbering_format : ℕ → ℕ → Format PermKind
numbering_format base n = record {
  line_tests = λ before row.
      tests_of_all (λ earlier token. perm_token_tests base n row.number (map (counted base) earlier) token)
      (tokens_of_rows before) row.tokens;
  end_tests = λ rows past. perm_count_tests n (length (tokens_of_rows rows)) past;
}

abbrev pub perm_format : ℕ → Format PermKind
perm_format n = numbering_format 1 n

-- every token passes, none is missing, and the order is the one stated
pub record ReadsPerm (n : ℕ) (bytes order : List ℕ) : Type 0 where
  pub form : IsWellFormed (perm_format n) (rows_of_bytes Commented bytes) (past_of_bytes bytes)
  pub stated : order ≡ numbers_stated (rows_of_bytes Commented bytes)

abbrev pub RefusesPerm : ℕ → List ℕ → Refusal PermKind → Type 0
RefusesPerm n bytes refusal = Refuses (perm_format n) (rows_of_bytes Commented bytes) (past_of_bytes bytes) refusal

-- an answer that is no permutation: a refusal of the file, which is never a limit, or memory ran out
abbrev pub IsPermRefusal : ℕ → List ℕ → Refusal PermKind → Type 0
IsPermRefusal n bytes refusals.NoMemory = Unit {0}
IsPermRefusal n bytes (refusals.Format f) = RefusesPerm n bytes (refusals.Format f)
IsPermRefusal n bytes (refusals.Limit l) = ⊥
