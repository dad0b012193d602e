-- How a report grows, and what is read of it.
use Rattle.std.proofs.Common.{◌≡◌, ℕ, suc, ◌+◌, ◌-◌, ◌≤◌, ◌<◌, ◌^◌, Bool, true, false, not, nat_le, ltb, List}
use Rattle.std.proofs.Common.{[], ◌∷◌, ◌++◌, length, map, take, get_or, All, if◌then◌else◌, refl, sym, ap, ◌∙◌}
use Rattle.std.proofs.Common.{arith, rules, append_assoc, append-nil, Some, ℤ, pos, negsuc, eqb, leb}
use Rattle.std.proofs.lemmas.Bool.{and_parts, and_from, not-true, or_parts, or_from, lt-ltb, leb-true, le-leb, ne_eqb, and_right}
use Rattle.std.proofs.lemmas.List.Folds.{list_all-append}
use Rattle.std.proofs.lemmas.List.Splits.{slice_split-cons_no}
use Rattle.std.proofs.lemmas.Grind.{flat_map-append}
use Rattle.std.proofs.lemmas.List.{flat_map_more, take_more, take_all, take-append-le, length-take, map-append}
use Rattle.std.specs.List.{list_all, join_with_byte, filter, slice_split, onto_first}
use Rattle.std.specs.Fmt.{decimal, signed_decimal}
use Rattle.std.specs.Int.{w64}
use Rattle.std.specs.Int.RustNames.{FitsSigned}
use Rattle.std.specs.Option.{option_and_then}
use Rattle.std.proofs.lemmas.Fmt.{digits_decimal, digits_value-decimal, decimal_nonempty}
use Rattle.std.proofs.lemmas.Str.Parse.{IsNumeralModel, numerals_by_fold}
use Rattle.mp_text.specs.declared.layout.Layout.{Layout}
use Rattle.mp_text.specs.declared.reports.Token.{Token}
use Rattle.mp_text.specs.declared.layout.Layout.TheVariants.{Commented, Banner}
use Rattle.mp_text.specs.Text.{is_blank, is_feed, is_filled, is_passed, is_banner, says_nothing, onto_line}
use Rattle.mp_text.specs.Text.{lines_of, tokens_of, Row, rows_from, is_digit, value_from, number_from, number_of}
use Rattle.mp_text.specs.Text.{numbers_of, is_comment, positive_of, negative_of, signed_of}
use Rattle.mp_text.specs.Ahead.{rows_of_bytes, past_of_bytes}
use Rattle.mp_text.specs.Comments.{is_comment_line}
use Rattle.mp_text.specs.Report.{token_text, last_or, is_line_start, with_token, with_tokens, line_text}
use Rattle.mp_text.specs.Report.{text_of_lines, is_plain, is_token, is_counted, numbered_from}
use Rattle.mp_text.proofs.TextLemmas.{lines_of-yes, lines_of-no, lines_of-nil, number_of-filled}

-- ---- the last byte

-- the last byte is the one at the last index
pub last_or-value : (b : ℕ) (text : List ℕ) (d : ℕ) → 1 ≤ length text → last_or b text ≡ get_or text (length text - 1) d
last_or-value b [] d filled = absurd (omega arith)
last_or-value b (c ∷ []) d filled = refl
last_or-value b (c ∷ e ∷ text) d filled =
    let here : suc (suc (length text)) - 1 ≡ suc (length text) = omega arith in
    let there : suc (length text) - 1 ≡ length text = omega arith in
    rw here (rw there at (last_or-value c (e ∷ text) d (omega arith)))

pub last_or-append : (b : ℕ) (text : List ℕ) (c : ℕ) (more : List ℕ) → last_or b (text ++ c ∷ more) ≡ last_or c more
last_or-append b [] c more = refl
last_or-append b (d ∷ text) c more = last_or-append d text c more

not_feed : (b : ℕ) → is_plain b ≡ true → is_feed b ≡ false
not_feed b plain = (or_parts (is_blank b) (is_feed b) (not-true _ plain)).1

not_blank : (b : ℕ) → is_plain b ≡ true → is_blank b ≡ false
not_blank b plain = (or_parts (is_blank b) (is_feed b) (not-true _ plain)).0

-- a text that ends with plain bytes ends with no feed
last_plain : (b : ℕ) (bytes : List ℕ) → is_feed b ≡ false → list_all is_plain bytes ≡ true → is_feed (last_or b bytes) ≡ false
last_plain b [] before plain = before
last_plain b (c ∷ bytes) before plain = let parts = and_parts (is_plain c) (list_all is_plain bytes) plain in
    last_plain c bytes (not_feed c parts.0) parts.1

-- a text that ends with a token is at no line start
in_line : (text token : List ℕ) → is_token token ≡ true → is_line_start (text ++ token) ≡ false
in_line text [] token = cc
in_line text (b ∷ bytes) token =
    let parts = and_parts (is_plain b) (list_all is_plain bytes) token in
    ap is_feed (last_or-append 10 text b bytes) ∙ last_plain b bytes (not_feed b parts.0) parts.1

in_line_after_blank : (text token : List ℕ) → is_token token ≡ true → is_line_start (text ++ 32 ∷ token) ≡ false
in_line_after_blank text [] token = cc
in_line_after_blank text (b ∷ bytes) token =
    let parts = and_parts (is_plain b) (list_all is_plain bytes) token in
    ap is_feed (last_or-append 10 text 32 (b ∷ bytes)) ∙ last_plain b bytes (not_feed b parts.0) parts.1

-- ---- tokens appended one by one

-- within a line
with_tokens-within : (text token : List ℕ) (tokens : List (List ℕ)) → is_line_start text ≡ false → list_all is_token (token ∷ tokens) ≡ true
    → with_tokens text (token ∷ tokens) ≡ text ++ 32 ∷ join_with_byte 32 (token ∷ tokens)
with_tokens-within text token [] within are = rw within refl
with_tokens-within text token (next ∷ tokens) within are =
    let parts = and_parts (is_token token) (list_all is_token (next ∷ tokens)) are in
    rw within (with_tokens-within (text ++ 32 ∷ token) next tokens (in_line_after_blank text token parts.0) parts.1
    ∙ append_assoc text (32 ∷ token) (32 ∷ join_with_byte 32 (next ∷ tokens)))

-- from the start of a line on
with_tokens-start : (text : List ℕ) (tokens : List (List ℕ)) → is_line_start text ≡ true
    → list_all is_token tokens ≡ true → with_tokens text tokens ≡ text ++ join_with_byte 32 tokens
with_tokens-start text [] start are = sym (append-nil text)
with_tokens-start text (token ∷ []) start are = rw start refl
with_tokens-start text (token ∷ next ∷ tokens) start are =
    let parts = and_parts (is_token token) (list_all is_token (next ∷ tokens)) are in
    rw start (with_tokens-within (text ++ token) next tokens (in_line text token parts.0) parts.1
    ∙ append_assoc text token (32 ∷ join_with_byte 32 (next ∷ tokens)))

pub with_tokens-line : (text : List ℕ) (tokens : List (List ℕ)) → is_line_start text ≡ true
    → list_all is_token tokens ≡ true → with_tokens text tokens ++ 10 ∷ [] ≡ text ++ line_text tokens
with_tokens-line text tokens start are =
    ap (λ (t : List ℕ). t ++ 10 ∷ []) (with_tokens-start text tokens start are) ∙ append_assoc text (join_with_byte 32 tokens) (10 ∷ [])

pub is_line_start-line : (text : List ℕ) (tokens : List (List ℕ)) → is_line_start (text ++ line_text tokens) ≡ true
is_line_start-line text tokens =
    rw (← append_assoc text (join_with_byte 32 tokens) (10 ∷ [])) (ap is_feed (last_or-append 10 (text ++ join_with_byte 32 tokens) 10 []))

pub is_line_start-lines : (text : List ℕ) (lines : List (List (List ℕ)))
    → is_line_start text ≡ true → is_line_start (text ++ text_of_lines lines) ≡ true
is_line_start-lines text [] start = rw (append-nil text) start
is_line_start-lines text (line ∷ lines) start =
    rw (← append_assoc text (line_text line) (text_of_lines lines))
    (is_line_start-lines (text ++ line_text line) lines (is_line_start-line text line))

pub text_of_lines-push : (text : List ℕ) (lines : List (List (List ℕ))) (line : List (List ℕ))
    → (text ++ text_of_lines lines) ++ line_text line ≡ text ++ text_of_lines (lines ++ line ∷ [])
text_of_lines-push text lines line = flat_map_more line_text text lines line

pub text_of_lines-append : (xs ys : List (List (List ℕ))) → text_of_lines (xs ++ ys) ≡ text_of_lines xs ++ text_of_lines ys
text_of_lines-append xs ys = flat_map-append line_text xs ys

-- ---- a line that is printed, or a part of it

pub with_tokens-push : (text : List ℕ) (tokens : List (List ℕ)) (token : List ℕ)
    → with_tokens text (tokens ++ token ∷ []) ≡ with_token (with_tokens text tokens) token
with_tokens-push text [] token = refl
with_tokens-push text (first ∷ tokens) token = with_tokens-push (with_token text first) tokens token

texts-more : (tokens : List Token) (i : ℕ) (d : Token) → i < length tokens
    → map token_text (take (i + 1) tokens) ≡ map token_text (take i tokens) ++ token_text (get_or tokens i d) ∷ []
texts-more tokens i d within =
    ap (map token_text) (take_more tokens i d within) ∙ map-append token_text (take i tokens) (get_or tokens i d ∷ [])

-- a loop appends one token more
module _ (tokens : List Token) (i : ℕ) (d : Token) (within : i < length tokens) where
  pub text-more : (old text new : List ℕ) → text ≡ with_tokens old (map token_text (take i tokens))
      → new ≡ with_token text (token_text (get_or tokens i d)) → new ≡ with_tokens old (map token_text (take (i + 1) tokens))
  text-more old text new before one =
      one ∙ ap (λ (t : List ℕ). with_token t (token_text (get_or tokens i d))) before
      ∙ sym (ap (with_tokens old) (texts-more tokens i d within)
      ∙ with_tokens-push old (map token_text (take i tokens)) (token_text (get_or tokens i d)))

  pub tokens-more : list_all is_token (map token_text (take i tokens)) ≡ true
      → is_token (token_text (get_or tokens i d)) ≡ true → list_all is_token (map token_text (take (i + 1) tokens)) ≡ true
  tokens-more before one =
      rw (texts-more tokens i d within)
      (list_all-append is_token (map token_text (take i tokens)) (token_text (get_or tokens i d) ∷ [])
      ∙ and_from _ _ before (and_from _ _ one refl))

-- a text begins with what stood there
abbrev pub Begins : List ℕ → List ℕ → Type 0
Begins old new = take (length old) new ≡ old

begins-first : (text : List ℕ) → Begins text text
begins-first text = take_all (length text) text (omega arith)

begins-append : (old new more : List ℕ) → Begins old new → Begins old (new ++ more)
begins-append old new more begins =
    let within : length old ≤ length new = omega (arith, ap length begins, length-take (length old) new) in
    take-append-le (length old) new more within ∙ begins

begins-token : (old new token : List ℕ) → Begins old new → Begins old (with_token new token)
begins-token old new token begins =
    elim (is_line_start new) as (λ b. Begins old (if b then new ++ token else new ++ 32 ∷ token)) [
      | true ↦ begins-append old new token begins
      | false ↦ begins-append old new (32 ∷ token) begins
    ]

begins-tokens : (old new : List ℕ) (tokens : List (List ℕ)) → Begins old new → Begins old (with_tokens new tokens)
begins-tokens old new [] begins = begins
begins-tokens old new (token ∷ tokens) begins = begins-tokens old (with_token new token) tokens (begins-token old new token begins)

pub stopped : (old new : List ℕ) (tokens : List (List ℕ)) → new ≡ with_tokens old tokens → Begins old new
stopped old new tokens is = ap (take (length old)) is ∙ begins-tokens old old tokens (begins-first old)

-- ---- what is read of printed lines

all_parts : {X : Type 0} (p : X → Bool) (x : X) (xs : List X) → list_all p (x ∷ xs) ≡ true → (p x ≡ true) × (list_all p xs ≡ true)
all_parts p x xs all = and_parts (p x) (list_all p xs) all

abbrev is_kept : ℕ → Bool
is_kept b = not (is_feed b)

-- a line with no feed, up to the feed
lines_of-fed : (line rest : List ℕ) → list_all is_kept line ≡ true → lines_of (line ++ 10 ∷ rest) ≡ line ∷ lines_of rest
lines_of-fed [] rest kept = lines_of-yes 10 rest refl
lines_of-fed (b ∷ line) rest kept =
    let parts = all_parts is_kept b line kept in
    lines_of-no b (line ++ 10 ∷ rest) (not-true _ parts.0) ∙ ap (onto_line b) (lines_of-fed line rest parts.1)

plain_kept : (bytes : List ℕ) → list_all is_plain bytes ≡ true → list_all is_kept bytes ≡ true
plain_kept [] plain = refl
plain_kept (b ∷ bytes) plain =
    let parts = all_parts is_plain b bytes plain in
    and_from _ _ (ap not (not_feed b parts.0)) (plain_kept bytes parts.1)

token_plain : (token : List ℕ) → is_token token ≡ true → list_all is_plain token ≡ true
token_plain token is = (and_parts (is_filled token) (list_all is_plain token) is).1

joined_kept : (tokens : List (List ℕ)) → list_all is_token tokens ≡ true → list_all is_kept (join_with_byte 32 tokens) ≡ true
joined_kept [] are = refl
joined_kept (token ∷ []) are = plain_kept token (token_plain token (all_parts is_token token [] are).0)
joined_kept (token ∷ next ∷ tokens) are =
    let parts = all_parts is_token token (next ∷ tokens) are in
    list_all-append is_kept token (32 ∷ join_with_byte 32 (next ∷ tokens))
    ∙ and_from _ _ (plain_kept token (token_plain token parts.0)) (joined_kept (next ∷ tokens) parts.1)

-- plain bytes are one part, up to a blank or the end
split_plain : (bytes : List ℕ) → list_all is_plain bytes ≡ true → slice_split is_blank bytes ≡ bytes ∷ []
split_plain [] plain = refl
split_plain (b ∷ bytes) plain =
    let parts = all_parts is_plain b bytes plain in
    slice_split-cons_no is_blank b bytes (not_blank b parts.0) ∙ ap (onto_first b) (split_plain bytes parts.1)

split_blank : (bytes rest : List ℕ) → list_all is_plain bytes ≡ true
    → slice_split is_blank (bytes ++ 32 ∷ rest) ≡ bytes ∷ slice_split is_blank rest
split_blank [] rest plain = refl
split_blank (b ∷ bytes) rest plain =
    let parts = all_parts is_plain b bytes plain in
    slice_split-cons_no is_blank b (bytes ++ 32 ∷ rest) (not_blank b parts.0) ∙ ap (onto_first b) (split_blank bytes rest parts.1)

split_joined : (token : List ℕ) (tokens : List (List ℕ)) → list_all is_token (token ∷ tokens) ≡ true
    → slice_split is_blank (join_with_byte 32 (token ∷ tokens)) ≡ token ∷ tokens
split_joined token [] are = split_plain token (token_plain token (all_parts is_token token [] are).0)
split_joined token (next ∷ tokens) are =
    let parts = all_parts is_token token (next ∷ tokens) are in
    split_blank token (join_with_byte 32 (next ∷ tokens)) (token_plain token parts.0)
    ∙ ap (λ (ts : List (List ℕ)). token ∷ ts) (split_joined next tokens parts.1)

filled_kept : (tokens : List (List ℕ)) → list_all is_token tokens ≡ true → filter is_filled tokens ≡ tokens
filled_kept [] are = refl
filled_kept (token ∷ tokens) are =
    let parts = all_parts is_token token tokens are in
    rw ((and_parts (is_filled token) (list_all is_plain token) parts.0).0)
    (ap (λ (ts : List (List ℕ)). token ∷ ts) (filled_kept tokens parts.1))

pub tokens_of-joined : (tokens : List (List ℕ)) → list_all is_token tokens ≡ true → tokens_of (join_with_byte 32 tokens) ≡ tokens
unfolding tokens_of
tokens_of-joined [] are = refl
tokens_of-joined (token ∷ tokens) are = ap (filter is_filled) (split_joined token tokens are) ∙ filled_kept (token ∷ tokens) are

lines_of-printed : (line : List (List ℕ)) (lines : List (List (List ℕ))) → list_all is_token line ≡ true
    → lines_of (text_of_lines (line ∷ lines)) ≡ join_with_byte 32 line ∷ lines_of (text_of_lines lines)
lines_of-printed line lines are =
    ap lines_of (append_assoc (join_with_byte 32 line) (10 ∷ []) (text_of_lines lines))
    ∙ lines_of-fed (join_with_byte 32 line) (text_of_lines lines) (joined_kept line are)

pub rows_from-printed : (layout : Layout) (n : ℕ) (lines : List (List (List ℕ)))
    → list_all (is_counted layout) lines ≡ true → rows_from layout n (lines_of (text_of_lines lines)) ≡ numbered_from n lines
unfolding rows_from
rows_from-printed layout n [] counted = rw lines_of-nil refl
rows_from-printed layout n (line ∷ lines) counted =
    let parts = all_parts (is_counted layout) line lines counted in
    let here = and_parts (list_all is_token line) (not (says_nothing layout line)) parts.0 in
    let kept : is_passed layout n line ≡ false = and_right (not (is_banner layout n)) _ (not-true _ here.1) in
    rw (lines_of-printed line lines here.0, tokens_of-joined line here.0, kept)
    (ap (λ (rows : List Row). record { number = n; tokens = line } ∷ rows) (rows_from-printed layout (n + 1) lines parts.1))

-- lines of comments alone
rows_from-comments : (n : ℕ) (comments : List (List (List ℕ))) → list_all is_comment_line comments ≡ true
    → rows_from Commented n (lines_of (text_of_lines comments)) ≡ []
unfolding rows_from
rows_from-comments n [] are = rw lines_of-nil refl
rows_from-comments n (line ∷ comments) are =
    let parts = all_parts is_comment_line line comments are in
    let here = and_parts (list_all is_token line) (says_nothing Commented line) parts.0 in
    let passed : is_passed Commented n line ≡ true = here.1 in
    rw (lines_of-printed line comments here.0, tokens_of-joined line here.0, passed) (rows_from-comments (n + 1) comments parts.1)

-- and after others
rows_from-commented : (n : ℕ) (lines comments : List (List (List ℕ)))
    → list_all (is_counted Commented) lines ≡ true → list_all is_comment_line comments ≡ true
    → rows_from Commented n (lines_of (text_of_lines (lines ++ comments))) ≡ numbered_from n lines
unfolding rows_from
rows_from-commented n [] comments counted are = rows_from-comments n comments are
rows_from-commented n (line ∷ lines) comments counted are =
    let parts = all_parts (is_counted Commented) line lines counted in
    let here = and_parts (list_all is_token line) (not (says_nothing Commented line)) parts.0 in
    let kept : is_passed Commented n line ≡ false = not-true _ here.1 in
    rw (lines_of-printed line (lines ++ comments) here.0, tokens_of-joined line here.0, kept)
    (ap (λ (rows : List Row). record { number = n; tokens = line } ∷ rows) (rows_from-commented (n + 1) lines comments parts.1 are))

pub rows_of_bytes-commented : (lines comments : List (List (List ℕ)))
    → list_all (is_counted Commented) lines ≡ true → list_all is_comment_line comments ≡ true
    → rows_of_bytes Commented (text_of_lines (lines ++ comments)) ≡ numbered_from 1 lines
rows_of_bytes-commented lines comments counted are = rows_from-commented 1 lines comments counted are

pub length-lines_of-printed : (lines : List (List (List ℕ)))
    → list_all (list_all is_token) lines ≡ true → length (lines_of (text_of_lines lines)) ≡ length lines
length-lines_of-printed [] are = ap length lines_of-nil
length-lines_of-printed (line ∷ lines) are =
    let parts = all_parts (list_all is_token) line lines are in
    ap length (lines_of-printed line lines parts.0) ∙ ap suc (length-lines_of-printed lines parts.1)

counted_tokens : (layout : Layout) (lines : List (List (List ℕ)))
    → list_all (is_counted layout) lines ≡ true → list_all (list_all is_token) lines ≡ true
counted_tokens layout [] counted = refl
counted_tokens layout (line ∷ lines) counted =
    let parts = all_parts (is_counted layout) line lines counted in
    and_from _ _ (and_parts (list_all is_token line) (not (says_nothing layout line)) parts.0).0 (counted_tokens layout lines parts.1)

pub numbered_from-append : (n : ℕ) (xs ys : List (List (List ℕ)))
    → numbered_from n (xs ++ ys) ≡ numbered_from n xs ++ numbered_from (n + length xs) ys
numbered_from-append n [] ys = let same : n ≡ n + 0 = omega arith in ap (λ (m : ℕ). numbered_from m ys) same
numbered_from-append n (x ∷ xs) ys =
    let same : n + 1 + length xs ≡ n + suc (length xs) = omega arith in
    ap (λ (rows : List Row). record { number = n; tokens = x } ∷ rows)
    (numbered_from-append (n + 1) xs ys ∙ ap (λ (m : ℕ). numbered_from (n + 1) xs ++ numbered_from m ys) same)

pub length-numbered_from : (n : ℕ) (lines : List (List (List ℕ))) → length (numbered_from n lines) ≡ length lines
length-numbered_from n [] = refl
length-numbered_from n (line ∷ lines) = ap suc (length-numbered_from (n + 1) lines)

pub rows_of_bytes-printed : (layout : Layout) (lines : List (List (List ℕ)))
    → list_all (is_counted layout) lines ≡ true → rows_of_bytes layout (text_of_lines lines) ≡ numbered_from 1 lines
rows_of_bytes-printed layout lines counted = rows_from-printed layout 1 lines counted

pub past_of_bytes-printed : (layout : Layout) (lines : List (List (List ℕ)))
    → list_all (is_counted layout) lines ≡ true → past_of_bytes (text_of_lines lines) ≡ length lines + 1
past_of_bytes-printed layout lines counted = let e = length-lines_of-printed lines (counted_tokens layout lines counted) in omega arith

-- ---- numbers

own_digits : IsNumeralModel (λ ds. list_all is_digit ds ≡ true) (value_from 0)
own_digits = numerals_by_fold _ (search rules) value_from (search rules)

number_from-fits : (bs : List ℕ) (n : ℕ) → list_all is_digit bs ≡ true → value_from 0 bs ≡ n → n < 2 ^ 64 → number_from 0 bs ≡ Some n
unfolding number_from
number_from-fits bs n digits value fits = let t : ltb n (2 ^ 64) ≡ true = lt-ltb _ _ fits in rw (digits, value, t) refl

filled : (bytes : List ℕ) → 0 < length bytes → is_filled bytes ≡ true
filled [] some = absurd (omega arith)
filled (b ∷ bytes) some = refl

digit_low : (b : ℕ) → is_digit b ≡ true → 48 ≤ b
digit_low b digit = leb-true 48 b (and_parts (nat_le 48 b) (nat_le b 57) digit).0

-- digits begin no comment
no_comment : (layout : Layout) (bs : List ℕ) → list_all is_digit bs ≡ true → is_comment layout bs ≡ false
no_comment layout [] digits = refl
no_comment Commented (b ∷ bs) digits =
    let low = digit_low b (all_parts is_digit b bs digits).0 in
    or_from _ _ (ne_eqb b 37 (λ e. omega arith)) (ne_eqb b 35 (λ e. omega arith))
no_comment Banner (b ∷ bs) digits = let low = digit_low b (all_parts is_digit b bs digits).0 in ne_eqb b 37 (λ e. omega arith)

-- a digit parts neither tokens nor lines
digit_plain : (b : ℕ) → is_digit b ≡ true → is_plain b ≡ true
digit_plain b digit =
    let low = digit_low b digit in
    let blank : is_blank b ≡ false =
    or_from _ _ (or_from _ _ (ne_eqb b 32 (λ e. omega arith)) (ne_eqb b 9 (λ e. omega arith))) (ne_eqb b 13 (λ e. omega arith)) in
    ap not (or_from _ _ blank (ne_eqb b 10 (λ e. omega arith)))

pub number_of-decimal : (n : ℕ) → n < 2 ^ 64 → number_of (decimal n) ≡ Some n
number_of-decimal n fits =
    number_of-filled (decimal n) (decimal_nonempty n fits)
    ∙ number_from-fits (decimal n) n (digits_decimal own_digits n fits) (digits_value-decimal own_digits n fits) fits

digits_plain : (bytes : List ℕ) → list_all is_digit bytes ≡ true → list_all is_plain bytes ≡ true
digits_plain [] digits = refl
digits_plain (b ∷ bytes) digits =
    let parts = all_parts is_digit b bytes digits in
    and_from _ _ (digit_plain b parts.0) (digits_plain bytes parts.1)

pub is_token-decimal : (n : ℕ) → n < 2 ^ 64 → is_token (decimal n) ≡ true
is_token-decimal n fits =
    and_from _ _ (filled (decimal n) (decimal_nonempty n fits)) (digits_plain (decimal n) (digits_decimal own_digits n fits))

pub is_counted-decimal : (layout : Layout) (n : ℕ) (tokens : List (List ℕ)) → n < 2 ^ 64
    → list_all is_token tokens ≡ true → is_counted layout (decimal n ∷ tokens) ≡ true
is_counted-decimal layout n tokens fits are =
    and_from _ _ (and_from _ _ (is_token-decimal n fits) are) (ap not (no_comment layout (decimal n) (digits_decimal own_digits n fits)))

pub numbers_of-decimals : (ns : List ℕ) → All (λ n. n < 2 ^ 64) ns → numbers_of (map decimal ns) ≡ Some ns
unfolding numbers_of
numbers_of-decimals [] fit = refl
numbers_of-decimals (n ∷ ns) fit =
    let first : n < 2 ^ 64 = fit 0 0 (omega arith) in
    rw (number_of-decimal n first, numbers_of-decimals ns (λ k d lt. fit (suc k) d (omega arith))) refl

-- ---- signed numbers

signed_of-digits : (bs : List ℕ) → list_all is_digit bs ≡ true → 0 < length bs → signed_of bs ≡ option_and_then positive_of (number_of bs)
unfolding signed_of
signed_of-digits [] digits some = absurd (omega arith)
signed_of-digits (b ∷ bs) digits some = let other : eqb b 45 ≡ false =
    ne_eqb b 45 (λ e. let low = digit_low b (all_parts is_digit b bs digits).0 in omega arith) in
    rw other refl

pub signed_of-signed_decimal : (z : ℤ) → FitsSigned w64 z → signed_of (signed_decimal z) ≡ Some z
unfolding signed_of
signed_of-signed_decimal (pos n) fits =
    let small : n < 2 ^ 63 = fits.sfits in
    let wide : n < 2 ^ 64 = omega arith in
    let test : ltb n (2 ^ 63) ≡ true = lt-ltb n (2 ^ 63) small in
    signed_of-digits (decimal n) (digits_decimal own_digits n wide) (decimal_nonempty n wide)
    ∙ ap (option_and_then positive_of) (number_of-decimal n wide) ∙ rw test refl
signed_of-signed_decimal (negsuc n) fits =
    let small : n < 2 ^ 63 = fits.sfits in
    let wide : suc n < 2 ^ 64 = omega arith in
    let test : leb (suc n) (2 ^ 63) ≡ true = le-leb (suc n) (2 ^ 63) (omega arith) in
    ap (option_and_then negative_of) (number_of-decimal (suc n) wide) ∙ rw test refl

pub is_token-signed_decimal : (z : ℤ) → FitsSigned w64 z → is_token (signed_decimal z) ≡ true
is_token-signed_decimal (pos n) fits = let small : n < 2 ^ 63 = fits.sfits in is_token-decimal n (omega arith)
is_token-signed_decimal (negsuc n) fits =
    let small : n < 2 ^ 63 = fits.sfits in
    token_plain (decimal (suc n)) (is_token-decimal (suc n) (omega arith))
