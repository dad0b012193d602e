-- A printed order, a vertex on a line, is read as it was, and its text is never too long for a reader of files.
use Rattle.std.proofs.Common.{◌≡◌, ◌∙◌, ℕ, ◌+◌, ◌*◌, ◌^◌, ◌<◌, ◌≤◌, Bool, true, eqb, leb, ltb, List, [], ◌∷◌, ◌++◌}
use Rattle.std.proofs.Common.{Some, None, length, map, get_or, is_some, unwrap_or, refl, sym, ap, ap₂, subst, arith, Option}
use Rattle.std.specs.Fmt.{decimal}
use Rattle.std.specs.List.{All, list_all}
use Rattle.std.proofs.lemmas.Bool.{and_from, le-leb, lt-ltb, eq-eqb}
use Rattle.std.proofs.lemmas.Fmt.{length-decimal-le}
use Rattle.std.proofs.lemmas.List.{length-map, length-append, get_or_append_left}
use Rattle.std.proofs.Math.Seq.{take-append_seam, get_or-append_seam}
use Rattle.std.proofs.lemmas.List.Elements.{All-tail}
use Rattle.lists.specs.Numbers.{from_one}
use Rattle.limits.specs.Limits.{most_order, most_bytes}
use Rattle.mp_text.specs.declared.layout.Layout.{Layout}
use Rattle.mp_text.specs.declared.layout.Layout.TheVariants.{Commented}
use Rattle.mp_text.specs.Text.{Row, number_of}
use Rattle.mp_text.specs.Ahead.{rows_of_bytes, past_of_bytes}
use Rattle.mp_text.specs.declared.refusals.Refusal.{Refusal}
use Rattle.mp_text.specs.Grammar.{test, first_failure, ArePassed}
use Rattle.mp_text.specs.Report.{is_token, is_counted, line_text, text_of_lines, numbered_from}
use Rattle.permutations.specs.Perm.{IsPerm, IsVertex, times}
use Rattle.permutations.proofs.PermLemmas.{fresh_at}
use Rattle.matrix_files.specs.OrderFile.{value_of, tokens_of_rows}
use Rattle.matrix_files.specs.PermFile.{counted, perm_token_tests, perm_format, is_vertex, ReadsPerm}

-- a vertex on a line
abbrev pub vertex_line : ℕ → List (List ℕ)
vertex_line v = decimal v ∷ []

abbrev vertex_rows : ℕ → List ℕ → List Row
vertex_rows n order = numbered_from n (map vertex_line order)

-- ---- the rows

tokens_are : (n : ℕ) (order : List ℕ) → tokens_of_rows (vertex_rows n order) ≡ map decimal order
tokens_are n [] = refl
tokens_are n (v ∷ order) = ap (λ (ts : List (List ℕ)). decimal v ∷ ts) (tokens_are (n + 1) order)

-- a split of the rows at one of them is a split of the order
record IsOrderSplit (order : List ℕ) (before : List Row) (row : Row) : Type 0 where
  first : List ℕ
  vertex : ℕ
  rest : List ℕ
  order_is : order ≡ first ++ vertex ∷ rest
  tokens : row.tokens ≡ vertex_line vertex
  stated : tokens_of_rows before ≡ map decimal first

order_split : (n : ℕ) (order : List ℕ) (before : List Row) (row : Row) (after : List Row)
    → vertex_rows n order ≡ before ++ row ∷ after → IsOrderSplit order before row
order_split n [] [] row after e = absurd cc
order_split n [] (b ∷ before) row after e = absurd cc
order_split n (v ∷ order) [] row after e =
    let here : record { number = n; tokens = vertex_line v } ≡ row = cc in
    record {
      first = [];
      vertex = v;
      rest = order;
      order_is = refl;
      tokens = sym (ap (λ (r : Row). r.tokens) here);
      stated = refl;
    }
order_split n (v ∷ order) (b ∷ before) row after e =
    let here : record { number = n; tokens = vertex_line v } ≡ b = cc in
    let tail : vertex_rows (n + 1) order ≡ before ++ row ∷ after = cc in
    let more = order_split (n + 1) order before row after tail in
    record {
      first = v ∷ more.first;
      vertex = more.vertex;
      rest = more.rest;
      order_is = ap (λ (vs : List ℕ). v ∷ vs) more.order_is;
      tokens = more.tokens;
      stated = ap₂ (λ (r : Row) (ts : List (List ℕ)). r.tokens ++ ts) (sym here) more.stated;
    }

-- ---- the tests

four_pass : {K : Type 0} (one two three four : Refusal K) (a b c d : Bool) → a ≡ true → b ≡ true → c ≡ true → d ≡ true
    → first_failure (test a one ∷ test b two ∷ test c three ∷ test d four ∷ []) ≡ None
four_pass one two three four a b c d ea eb ec ed = rw (ea, eb, ec, ed) refl

one_passes : {K : Type 0} (one : Refusal K) (a : Bool) → a ≡ true → first_failure (test a one ∷ []) ≡ None
one_passes one a ea = rw ea refl

from_one_one : (v : ℕ) → from_one 1 v ≡ v
from_one_one v = omega arith

-- the vertices before one of a permutation
module _ (n : ℕ) (first : List ℕ) (v : ℕ) (rest : List ℕ) (perm : IsPerm n (first ++ v ∷ rest)) where
  here : get_or (first ++ v ∷ rest) (length first) 0 ≡ v
  here = get_or-append_seam first v rest 0

  inside : length first < length (first ++ v ∷ rest)
  inside = omega (arith, length-append first (v ∷ rest))

  is_vertex_here : IsVertex n v
  is_vertex_here = subst (IsVertex n) here (perm.vertices (length first) 0 inside)

  fits : length first < n
  fits = omega (arith, inside, perm.len)

  fresh : times first v ≡ 0
  fresh = coe 0 1 (i. times (take-append_seam first (v ∷ rest) i) (here i) ≡ 0)
      (fresh_at n (first ++ v ∷ rest) perm (length first) fits)

  earlier : All (IsVertex n) first
  earlier = λ i d lt.
      subst (IsVertex n) (get_or_append_left first (v ∷ rest) d i lt)
      (perm.vertices i d (omega (arith, lt, inside)))

-- ---- the file

module _ (value : (n : ℕ) → n < 2 ^ 64 → number_of (decimal n) ≡ Some n)
    (begins : (layout : Layout) (n : ℕ) (tokens : List (List ℕ)) → n < 2 ^ 64 → list_all is_token tokens ≡ true
    → is_counted layout (decimal n ∷ tokens) ≡ true)
    (rows_are : (layout : Layout) (lines : List (List (List ℕ))) → list_all (is_counted layout) lines ≡ true
    → rows_of_bytes layout (text_of_lines lines) ≡ numbered_from 1 lines) where
  values_are : (n : ℕ) (order : List ℕ) → n < 2 ^ 64 → All (IsVertex n) order → map value_of (map decimal order) ≡ order
  values_are n [] small vertices = refl
  values_are n (v ∷ order) small vertices =
      let within = (vertices 0 0 (omega arith)).1 in
      rw (value v (omega arith), values_are n order small (All-tail (IsVertex n) v order vertices)) refl

  counted_are : (n : ℕ) (order : List ℕ) → n < 2 ^ 64 → All (IsVertex n) order → map (counted 1) (map decimal order) ≡ order
  counted_are n [] small vertices = refl
  counted_are n (v ∷ order) small vertices =
      let within = (vertices 0 0 (omega arith)).1 in
      rw (value v (omega arith), counted_are n order small (All-tail (IsVertex n) v order vertices))
      (ap (λ (x : ℕ). x ∷ order) (from_one_one v))

  all_counted : (n : ℕ) (order : List ℕ) → n < 2 ^ 64 → All (IsVertex n) order
      → list_all (is_counted Commented) (map vertex_line order) ≡ true
  all_counted n [] small vertices = refl
  all_counted n (v ∷ order) small vertices =
      let within = (vertices 0 0 (omega arith)).1 in
      and_from (is_counted Commented (vertex_line v)) (list_all (is_counted Commented) (map vertex_line order))
      (begins Commented v [] (omega arith) refl) (all_counted n order small (All-tail (IsVertex n) v order vertices))

  token_passes : (n line : ℕ) (first : List ℕ) (v : ℕ) → n < 2 ^ 64 → IsVertex n v → length first < n → times first v ≡ 0
      → first_failure (perm_token_tests 1 n line first (decimal v)) ≡ None
  token_passes n line first v small is few none =
      let high = is.1 in
      let stated : number_of (decimal v) ≡ Some v = value v (omega arith) in
      let back : counted 1 (decimal v) ≡ v =
      ap (λ (x : Option ℕ). from_one 1 (unwrap_or x 0)) stated ∙ from_one_one v in
      four_pass _ _ _ _ (is_some (number_of (decimal v))) (ltb (length first) n) (is_vertex n (counted 1 (decimal v)))
      (eqb (times first (counted 1 (decimal v))) 0) (ap is_some stated) (lt-ltb (length first) n few)
      (ap (is_vertex n) back ∙ and_from (leb 1 v) (leb v n) (le-leb 1 v is.0) (le-leb v n high))
      (eq-eqb (times first (counted 1 (decimal v))) 0 (ap (times first) back ∙ none))

  lines_pass : (n : ℕ) (order : List ℕ) → n < 2 ^ 64 → IsPerm n order → ArePassed (perm_format n) (vertex_rows 1 order)
  lines_pass n order small perm before after row split =
      let s = order_split 1 order before row after split in
      let whole = subst (IsPerm n) s.order_is perm in
      let numbers = counted_are n s.first small (earlier n s.first s.vertex s.rest whole) in
      let read : map (counted 1) (tokens_of_rows before) ≡ s.first = ap (map (counted 1)) s.stated ∙ numbers in
      let passed = token_passes n row.number s.first s.vertex small (is_vertex_here n s.first s.vertex s.rest whole)
      (fits n s.first s.vertex s.rest whole) (fresh n s.first s.vertex s.rest whole) in
      rw (s.tokens, read) passed

  pub perm_reads : (n : ℕ) (order : List ℕ) → n ≤ most_order → IsPerm n order → ReadsPerm n (text_of_lines (map vertex_line order)) order
  perm_reads n order few perm =
      let small : n < 2 ^ 64 = omega (arith, few) in
      let lines = map vertex_line order in
      let rows = rows_of_bytes Commented (text_of_lines lines) in
      let past = past_of_bytes (text_of_lines lines) in
      let is : rows ≡ vertex_rows 1 order = rows_are Commented lines (all_counted n order small perm.vertices) in
      let tokens : tokens_of_rows rows ≡ map decimal order = ap tokens_of_rows is ∙ tokens_are 1 order in
      let many : length (tokens_of_rows rows) ≡ n = ap length tokens ∙ length-map order decimal ∙ perm.len in
      record {
        form = record {
          lines = subst (ArePassed (perm_format n)) (sym is) (lines_pass n order small perm);
          end = one_passes _ (leb n (length (tokens_of_rows rows))) (le-leb n (length (tokens_of_rows rows)) (omega (arith, many)));
        };
        stated = sym (ap (map value_of) tokens ∙ values_are n order small perm.vertices);
      }

-- ---- its length

pub perm_length : (n : ℕ) (order : List ℕ) → n ≤ most_order → All (IsVertex n) order
    → length (text_of_lines (map vertex_line order)) ≤ 8 * length order
perm_length n [] few vertices = omega arith
perm_length n (v ∷ order) few vertices =
    let high = (vertices 0 0 (omega arith)).1 in
    let digits = length-decimal-le 7 v (omega arith) (omega arith) (omega arith) in
    omega (
      arith,
      length-append (line_text (vertex_line v)) (text_of_lines (map vertex_line order)),
      length-append (decimal v) (10 ∷ []),
      digits,
      perm_length n order few (All-tail (IsVertex n) v order vertices),
    )

pub perm_short : (n : ℕ) (order : List ℕ) → n ≤ most_order → IsPerm n order → length (text_of_lines (map vertex_line order)) ≤ most_bytes
perm_short n order few perm = omega (arith, perm_length n order few perm.vertices, perm.len, few)
