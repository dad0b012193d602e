-- Of a permutation file, and of numbers that count from a base: what is read is a permutation, and no refusal is a limit.
use Rattle.std.proofs.Common.{◌≡◌, ◌≢◌, ℕ, Bool, true, false, ltb, leb, eqb, is_some, List, [], ◌∷◌, ◌++◌, length}
use Rattle.std.proofs.Common.{map, Some, None, refl, sym, subst, ◌∙◌, arith}
use Rattle.std.proofs.lemmas.Bool.{and_parts, leb-true, eqb-true}
use Rattle.std.proofs.lemmas.List.{map_push, length-map}
use Rattle.limits.specs.declared.name.LimitName.{LimitName}
use Rattle.mp_text.specs.declared.layout.Layout.TheVariants.{Commented}
use Rattle.mp_text.specs.declared.refusals.Refusal.{Refusal}
use Rattle.mp_text.specs.declared.refusals.Refusal.TheVariants as refusals
use Rattle.mp_text.specs.Text.{Row, number_of}
use Rattle.mp_text.specs.Ahead.{rows_of_bytes, past_of_bytes}
use Rattle.mp_text.specs.Grammar.{Test, test, first_failure, ArePassed, fault_at}
use Rattle.mp_text.specs.Reading.{IsRefusal}
use Rattle.matrix_files.specs.OrderFile.{value_of, tokens_of_rows}
use Rattle.matrix_files.proofs.FileLemmas.{passes}
use Rattle.matrix_files.proofs.TokenLemmas.{rows_keep, no_limit}
use Rattle.permutations.specs.Perm.{IsPart, IsPerm, IsVertex, times}
use Rattle.matrix_files.specs.PermFile.{counted, perm_token_tests, numbering_format, is_vertex, ReadsPerm, IsPermRefusal}
use Rattle.matrix_files.specs.OrderReader.{ReadsNumbering, IsFormatRefusal}
use Rattle.matrix_files.specs.declared.perm_file.PermKind.{PermKind}
use Rattle.matrix_files.specs.declared.perm_file.PermKind.TheVariants as kinds
use Rattle.permutations.proofs.PermLemmas.{part-none, part-push, length-part, perm_from_part}

-- ---- what passes is a part of a permutation

token_passed : (base n line : ℕ) (numbers token : List ℕ) → first_failure (perm_token_tests base n line numbers token) ≡ None
    → IsVertex n (counted base token) × (times numbers (counted base token) ≡ 0)
token_passed base n line numbers token none =
    let one = passes _ _ _ none in
    let two = passes _ _ _ one.1 in
    let three = passes _ _ _ two.1 in
    let four = passes _ _ _ three.1 in
    let within = and_parts _ _ three.0 in
    ((leb-true _ _ within.0, leb-true _ _ within.1), eqb-true _ _ four.0)

-- the tests of tokens, each after those before it
abbrev token_tests : ℕ → ℕ → ℕ → List (List ℕ) → List ℕ → List (Test PermKind)
token_tests base n line earlier token = perm_token_tests base n line (map (counted base) earlier) token

-- a token that passes is one number more
pub part_more : (base n line : ℕ) (numbers token : List ℕ) → IsPart n numbers
    → first_failure (perm_token_tests base n line numbers token) ≡ None → IsPart n (numbers ++ counted base token ∷ [])
part_more base n line numbers token part none =
    let passed = token_passed base n line numbers token none in
    part-push n numbers (counted base token) part passed.0 passed.1

part-rows : (base n : ℕ) (rows : List Row) → ArePassed (numbering_format base n) rows → IsPart n (map (counted base) (tokens_of_rows rows))
part-rows base n rows passed = rows_keep (token_tests base n) (λ (ts : List (List ℕ)). IsPart n (map (counted base) ts))
    (λ line earlier token part none.
    subst (IsPart n) (sym (map_push (counted base) earlier token)) (part_more base n line (map (counted base) earlier) token part none))
    rows [] rows refl passed (part-none n)

pub numbering_is_perm : (base n : ℕ) (bytes numbers : List ℕ) → ReadsNumbering base n bytes numbers → IsPerm n numbers
numbering_is_perm base n bytes numbers reads =
    let rows = rows_of_bytes Commented bytes in
    let stated = map (counted base) (tokens_of_rows rows) in
    let part = part-rows base n rows reads.form.lines in
    let most = length-part n stated part in
    let least =
    leb-true _ _ (passes (leb n (length (tokens_of_rows rows))) None (fault_at (past_of_bytes bytes) kinds.Count) reads.form.end).0 in
    let long = length-map (tokens_of_rows rows) (counted base) in
    rw reads.stated (perm_from_part n stated part (omega arith))

-- ---- numbers from 1

counted_one : (tokens : List (List ℕ)) → map (counted 1) tokens ≡ map value_of tokens
counted_one [] = refl
counted_one (token ∷ tokens) = let here : counted 1 token ≡ value_of token = omega arith in rw (here, counted_one tokens) refl

pub reads_perm : (n : ℕ) (bytes order : List ℕ) → ReadsNumbering 1 n bytes order → ReadsPerm n bytes order
reads_perm n bytes order reads =
    record { form = reads.form; stated = reads.stated ∙ counted_one (tokens_of_rows (rows_of_bytes Commented bytes)) }

pub perm_from_read : (n : ℕ) (bytes order : List ℕ) → ReadsPerm n bytes order → IsPerm n order
perm_from_read n bytes order reads = numbering_is_perm 1 n bytes order
    (record { form = reads.form; stated = reads.stated ∙ sym (counted_one (tokens_of_rows (rows_of_bytes Commented bytes))) })

pub perm_refused : (n : ℕ) (bytes : List ℕ) (r : Refusal PermKind)
    → IsFormatRefusal (numbering_format 1 n) bytes r → IsPermRefusal n bytes r
perm_refused n bytes refusals.NoMemory refused = tt
perm_refused n bytes (refusals.Format f) refused = refused
perm_refused n bytes (refusals.Limit l) refused = refused

-- ---- no limit

no_limit_here : (l : LimitName) (line : ℕ) (a b c d : Bool)
    → first_failure (test a (fault_at line kinds.Number) ∷ test b (fault_at line kinds.Count)
    ∷ test c (fault_at line kinds.Range) ∷ test d (fault_at line kinds.Repeated) ∷ [])
    ≢ Some (refusals.Limit l)
no_limit_here l line true true true true e = cc
no_limit_here l line true true true false e = cc
no_limit_here l line true true false d e = cc
no_limit_here l line true false c d e = cc
no_limit_here l line false b c d e = cc

pub no_token_limit : (l : LimitName) (base n line : ℕ) (numbers token : List ℕ)
    → first_failure (perm_token_tests base n line numbers token) ≢ Some (refusals.Limit l)
no_token_limit l base n line numbers token e = no_limit_here l line (is_some (number_of token)) (ltb (length numbers) n)
    (is_vertex n (counted base token)) (eqb (times numbers (counted base token)) 0) e

no_limit_last : (l : LimitName) (line : ℕ) (a : Bool) → first_failure (test a (fault_at line kinds.Count) ∷ []) ≢ Some (refusals.Limit l)
no_limit_last l line true e = cc
no_limit_last l line false e = cc

pub numbering_refusal : (base n : ℕ) (bytes : List ℕ) (r : Refusal PermKind)
    → IsRefusal (numbering_format base n) (rows_of_bytes Commented bytes) (past_of_bytes bytes) r
    → IsFormatRefusal (numbering_format base n) bytes r
numbering_refusal base n bytes r = no_limit (numbering_format base n) (token_tests base n) bytes (λ before row. refl)
    (λ l line earlier token. no_token_limit l base n line (map (counted base) earlier) token)
    (λ l. no_limit_last l (past_of_bytes bytes) _) r
