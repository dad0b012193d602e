-- The comments with the names of tasks, line by line.
use Rattle.std.proofs.Common.{◌≡◌, ◌∙◌, ℕ, ◌+◌, ◌*◌, ◌<◌, ◌≤◌, ◌^◌, true, List, [], ◌∷◌, ◌++◌}
use Rattle.std.proofs.Common.{length, map, take, get_or, refl, sym, ap, arith, length-append}
use Rattle.std.specs.Prelude.{codes}
use Rattle.std.specs.Bool.{IsTrue}
use Rattle.std.specs.Fmt.{decimal}
use Rattle.std.specs.List.{All, enumerate_from, join_with_byte, list_all}
use Rattle.std.proofs.lemmas.Bool.{and_from}
use Rattle.std.proofs.lemmas.List.{length-map, take_all, take_more, map-append}
use Rattle.std.proofs.lemmas.List.Concat.{length-flat_map}
use Rattle.std.proofs.lemmas.List.Elements.{All-nil, All-cons, All-head, All-tail}
use Rattle.std.proofs.lemmas.List.FromFn.{length-enumerate_from, get_or-enumerate_from}
use Rattle.std.proofs.lemmas.List.Sums.{sum_by-le}
use Rattle.limits.specs.Limits.{most_bytes, most_tasks}
use Rattle.mp_text.specs.Comments.{is_comment_line}
use Rattle.mp_text.specs.Report.{is_token, line_text, text_of_lines}
use Rattle.workflow_files.specs.WorkflowText.{workflow_text}
use Rattle.sp_terms.specs.declared.position.Position.{Position}
use Rattle.workflow_files.proofs.LengthLemmas.{small-decimal}
use Rattle.workflow_files.specs.NamedText.{name_line, name_lines, named_text}

-- ---- as they are printed

-- of the names before a place
abbrev pub lines_before : List ℕ → ℕ → List (List (List ℕ))
lines_before names i = map name_line (take i (enumerate_from 1 names))

pub lines_of_all : (names : List ℕ) → lines_before names (length names) ≡ name_lines names
lines_of_all names = ap (map name_line) (take_all (length names) (enumerate_from 1 names) (omega (arith, length-enumerate_from 1 names)))

one_more : (names : List ℕ) (i : ℕ) → i < length names
    → lines_before names (i + 1) ≡ lines_before names i ++ name_line (i + 1, get_or names i 0) ∷ []
one_more names i h =
    let all = enumerate_from 1 names in
    let here : get_or all i (0, 0) ≡ (i + 1, get_or names i 0) =
    get_or-enumerate_from 1 names i (0, 0) h ∙ ap (λ (n : ℕ). (n, get_or names i 0)) (omega arith) in
    ap (map name_line) (take_more all i (0, 0) (omega (arith, h, length-enumerate_from 1 names)))
    ∙ map-append name_line (take i all) (get_or all i (0, 0) ∷ [])
    ∙ ap (λ (p : ℕ × ℕ). lines_before names i ++ name_line p ∷ []) here

pub printed : ((text : List ℕ) (lines : List (List (List ℕ))) (line : List (List ℕ))
    → (text ++ text_of_lines lines) ++ line_text line ≡ text ++ text_of_lines (lines ++ line ∷ []))
    → (names : List ℕ) (i : ℕ) → i < length names → (start before after : List ℕ)
    → before ≡ start ++ text_of_lines (lines_before names i) → after ≡ before ++ line_text (name_line (i + 1, get_or names i 0))
    → after ≡ start ++ text_of_lines (lines_before names (i + 1))
printed more names i h start before after was is =
    let line = name_line (i + 1, get_or names i 0) in
    is ∙ ap (λ (t : List ℕ). t ++ line_text line) was ∙ more start (lines_before names i) line
    ∙ ap (λ (ls : List (List (List ℕ))). start ++ text_of_lines ls) (sym (one_more names i h))

-- ---- as they are read

abbrev pub IsSmall : ℕ → Type 0
IsSmall v = v < 2 ^ 64

-- numbers of tasks are small
pub names-small : (names : List ℕ) → All (λ (v : ℕ). v ≤ most_tasks) names → All IsSmall names
names-small names within = λ i d lt. let h : get_or names i d ≤ most_tasks = within i d lt in omega (arith, h)

-- each begins a comment
pub are-comments : ((n : ℕ) → n < 2 ^ 64 → IsTrue (is_token (decimal n)))
    → (k : ℕ) (names : List ℕ) → k + length names < 2 ^ 64 → All IsSmall names
    → list_all is_comment_line (map name_line (enumerate_from k names)) ≡ true
are-comments token k [] few small = refl
are-comments token k (v ∷ names) few small =
    let here : is_comment_line (codes "#" ∷ decimal k ∷ decimal v ∷ []) ≡ true =
    rw (token k (omega arith), token v (All-head IsSmall v names small)) refl in
    and_from _ _ here (are-comments token (k + 1) names (omega arith) (All-tail IsSmall v names small))

pub named-comments : ((n : ℕ) → n < 2 ^ 64 → IsTrue (is_token (decimal n)))
    → (names : List ℕ) → length names ≤ most_tasks → All IsSmall names
    → IsTrue (list_all is_comment_line (name_lines names))
named-comments token names few small = are-comments token 1 names (omega (arith, few)) small

-- ---- how long they are

-- the line has at most 50 bytes
abbrev IsShort : List (List ℕ) → Type 0
IsShort line = length (line_text line) ≤ 50

name-short : (k v : ℕ) → IsSmall k → IsSmall v → IsShort (name_line (k, v))
name-short k v low high =
    let last = length-append (decimal v) (10 ∷ []) in
    let joined = join_with_byte 32 (decimal k ∷ decimal v ∷ []) in
    omega (
      arith,
      length-append (codes "#" ++ 32 ∷ joined) (10 ∷ []),
      length-append (codes "#") (32 ∷ joined),
      length-append (decimal k) (32 ∷ decimal v),
      small-decimal k low,
      small-decimal v high,
    )

names-short : (k : ℕ) (names : List ℕ) → k + length names < 2 ^ 64
    → All IsSmall names → All IsShort (map name_line (enumerate_from k names))
names-short k [] few small = All-nil IsShort
names-short k (v ∷ names) few small =
    All-cons IsShort (name_line (k, v)) (map name_line (enumerate_from (k + 1) names))
    (name-short k v (omega arith) (All-head IsSmall v names small))
    (names-short (k + 1) names (omega arith) (All-tail IsSmall v names small))

pub named-length : (positions : List Position) (names : List ℕ) → length names ≤ most_tasks → All IsSmall names
    → length (workflow_text positions) + 50 * most_tasks ≤ most_bytes → length (named_text positions names) ≤ most_bytes
named-length positions names few small room =
    let lines = name_lines names in
    omega (
      arith,
      length-append (workflow_text positions) (text_of_lines lines),
      length-flat_map line_text lines,
      sum_by-le (λ (line : List (List ℕ)). length (line_text line)) 50 lines (names-short 1 names (omega (arith, few)) small),
      length-map (enumerate_from 1 names) name_line,
      length-enumerate_from 1 names,
      few,
      room,
    )
