-- What the readers of order files and of permutation files do with a line, and with the end, is what the tests of their formats say.
use Rattle.std.proofs.Common.{◌≡◌, ℕ, ◌+◌, ◌≤◌, Bool, true, false, cond, eqb, leb, List, [], ◌∷◌, ◌++◌, length, map, take, refl}
use Rattle.std.proofs.Common.{Result, Ok, Err, None, sym, ap, subst, ◌∙◌, arith, length-append}
use Rattle.std.specs.Prelude.{codes}
use Rattle.std.specs.Cmp.Lexicographic.{pointwise}
use Rattle.std.specs.Str.{bytes_eq}
use Rattle.std.proofs.Math.Seq.{take-append_seam}
use Rattle.std.proofs.lemmas.Bool.{and_parts, eqb-true, eq-eqb, ne_eqb, ltb-true, le-leb, lt-leb}
use Rattle.std.proofs.lemmas.List.{map_push, map-append, length-map, length_push, append-nil, take_all}
use Rattle.std.proofs.lemmas.Grind.{flat_map-append}
use Rattle.mp_text.specs.declared.refusals.Refusal.{Refusal}
use Rattle.mp_text.specs.Text.{Row}
use Rattle.mp_text.specs.Grammar.{Test, test, tests_of_all, first_failure, ArePassed, fault, fault_at}
use Rattle.mp_text.specs.Reading.{tested, steps_of_all, Follows}
use Rattle.mp_text.specs.ReadingLaws.{Follows-weaker, tested-follows, Follows-steps_of_all}
use Rattle.file_frame.specs.Frame.{is_end}
use Rattle.matrix_files.specs.OrderFile.{value_of, tokens_of_rows, numbers_stated, order_token_tests, plain_tests, peak_tests, count_on}
use Rattle.matrix_files.specs.OrderFile.{count_tests, listed_tests, list_tests, report_tests, is_ended, numbers_listed, is_report}
use Rattle.matrix_files.specs.OrderFile.{order_format, tasks_stated}
use Rattle.matrix_files.specs.PermFile.{counted, perm_token_tests, perm_count_tests, numbering_format}
use Rattle.matrix_files.specs.OrderReader.{OrderState, with_task, number_step, listed_step, numbers_step, start_step, list_step}
use Rattle.matrix_files.specs.OrderReader.{staged_order, order_step, may_end, order_end, staged_took, took_order}
use Rattle.permutations.specs.Perm.{PermState}
use Rattle.matrix_files.specs.OrderReader.{vertex_step, perm_step, perm_end, took_perm}
use Rattle.matrix_files.specs.declared.order_file.OrderFileKind.{OrderFileKind}
use Rattle.matrix_files.specs.declared.order_file.OrderFileKind.TheVariants.{Count, NoEnd}
use Rattle.matrix_files.specs.declared.stage.OrderStage.{OrderStage}
use Rattle.matrix_files.specs.declared.stage.OrderStage.TheVariants as stages
use Rattle.matrix_files.proofs.FileLemmas.{passes}

-- ---- lines whose tokens are taken one after another

pub tokens-push : (rows : List Row) (row : Row) → tokens_of_rows (rows ++ row ∷ []) ≡ tokens_of_rows rows ++ row.tokens
tokens-push rows row = flat_map-append (λ (r : Row). r.tokens) rows (row ∷ [])
    ∙ ap (λ (ts : List (List ℕ)). tokens_of_rows rows ++ ts) (append-nil row.tokens)

pub tokens_follow : {K S : Type 0} (tests : List (List ℕ) → List ℕ → List (Test K))
    (P : S → List (List ℕ) → Type 0) (step : S → List ℕ → Result S (Refusal K))
    → ((s : S) (before : List (List ℕ)) (token : List ℕ) → P s before
    → Follows (tests before token) (λ next. P next (before ++ token ∷ [])) (step s token))
    → (s : S) (before : List Row) (row : Row) → P s (tokens_of_rows before)
    → Follows (tests_of_all tests (tokens_of_rows before) row.tokens)
    (λ next. P next (tokens_of_rows (before ++ row ∷ []))) (steps_of_all step s row.tokens)
tokens_follow tests P step each s before row here =
    rw (tokens-push before row) (Follows-steps_of_all tests P step each s (tokens_of_rows before) row.tokens here)

-- ---- what is chosen, and what is tested

-- where a test chooses both the tests and the step
either : {K S : Type 0} (b : Bool) (xs ys : List (Test K)) (P : S → Type 0) (u v : Result S (Refusal K))
    → (b ≡ true → Follows xs P u) → (b ≡ false → Follows ys P v) → Follows (cond b xs ys) P (cond b u v)
either true xs ys P u v first second = first refl
either false xs ys P u v first second = second refl

chosen : {K S : Type 0} (b : Bool) (xs ys : List (Test K)) (P : S → Type 0) (u : Result S (Refusal K))
    → b ≡ true → Follows xs P u → Follows (cond b xs ys) P u
chosen true xs ys P u is here = here
chosen false xs ys P u is here = absurd cc

other : {K S : Type 0} (b : Bool) (xs ys : List (Test K)) (P : S → Type 0) (u : Result S (Refusal K))
    → b ≡ false → Follows ys P u → Follows (cond b xs ys) P u
other true xs ys P u is here = absurd cc
other false xs ys P u is here = here

same_tests : {K S : Type 0} (xs ys : List (Test K)) (v : S) (P : S → Type 0) → ys ≡ xs → (first_failure xs ≡ None → P v)
    → Follows xs P (tested ys v)
same_tests xs ys v P same here = subst (λ ts. Follows xs P (tested ts v)) (sym same) (tested-follows xs v P here)

-- ---- order files: tokens

-- the reader of numbers alone stands after these tokens
abbrev IsPlainAfter : OrderState → List (List ℕ) → Type 0
IsPlainAfter s tokens = (s.numbers ≡ map value_of tokens) × (s.stage ≡ stages.Plain)

more_numbers : (s : OrderState) (before : List (List ℕ)) (token : List ℕ) → s.numbers ≡ map value_of before
    → s.numbers ++ value_of token ∷ [] ≡ map value_of (before ++ token ∷ [])
more_numbers s before token are = ap (λ (ns : List ℕ). ns ++ value_of token ∷ []) are ∙ sym (map_push value_of before token)

as_long : (s : OrderState) (before : List (List ℕ)) → s.numbers ≡ map value_of before → length s.numbers ≡ length before
as_long s before are = ap length are ∙ length-map before value_of

number_follows : (line : ℕ) (s : OrderState) (before : List (List ℕ)) (token : List ℕ) → IsPlainAfter s before →
    Follows (order_token_tests line (length before) token) (λ next. IsPlainAfter next (before ++ token ∷ [])) (number_step line s token)
unfolding number_step
number_follows line s before token after =
    same_tests (order_token_tests line (length before) token) (order_token_tests line (length s.numbers) token) (with_task s token)
    (λ next. IsPlainAfter next (before ++ token ∷ []))
    (ap (λ (taken : ℕ). order_token_tests line taken token) (as_long s before after.0))
    (λ _. (more_numbers s before token after.0, after.1))

plain_follows : (s : OrderState) (before : List Row) (row : Row) → IsPlainAfter s (tokens_of_rows before) →
    Follows (plain_tests before row) (λ next. IsPlainAfter next (tokens_of_rows (before ++ row ∷ []))) (numbers_step s row)
plain_follows s before row after = tokens_follow (λ earlier token. order_token_tests row.number (length earlier) token) IsPlainAfter
    (number_step row.number) (number_follows row.number) s before row after

-- the reader of the numbers of a report stands after these tokens
abbrev IsListedAfter : ℕ → OrderState → List (List ℕ) → Type 0
IsListedAfter count s tokens =
    (s.numbers ≡ map value_of tokens) × (s.stage ≡ stages.Listed) × (s.count ≡ count) × (length s.numbers ≤ count)

listed_follows : (count line : ℕ) (s : OrderState) (before : List (List ℕ)) (token : List ℕ) → IsListedAfter count s before →
    Follows (listed_tests count line (length before) token)
    (λ next. IsListedAfter count next (before ++ token ∷ [])) (listed_step line s token)
unfolding listed_step
listed_follows count line s before token after =
    let long = as_long s before after.0 in
    same_tests (listed_tests count line (length before) token) (listed_tests s.count line (length s.numbers) token) (with_task s token)
    (λ next. IsListedAfter count next (before ++ token ∷ []))
    (ap (λ (most : ℕ). listed_tests most line (length s.numbers) token) after.2
    ∙ ap (λ (taken : ℕ). listed_tests count line taken token) long)
    (λ none.
    let room = ltb-true (length before) count (passes _ _ _ none).0 in
    let more = length_push s.numbers (value_of token) in
    (more_numbers s before token after.0, after.1, after.2, omega (arith, room, more, long)))

-- ---- order files: lines

-- the reader stands after these lines, and its format is as before
abbrev Stands : List Row → OrderState → Type 0
Stands rows next = took_order next rows × (order_format ≡ order_format)

stands : (rows : List Row) (s : OrderState) (stage : OrderStage) → s.stage ≡ stage → staged_took stage s rows → Stands rows s
stands rows s stage is took = (subst (λ (st : OrderStage). staged_took st s rows) (sym is) took, refl)

plain_stands : (next : OrderState) (first : Row) (more : List Row) → is_report (first ∷ []) ≡ false
    → IsPlainAfter next (tokens_of_rows (first ∷ more)) → Stands (first ∷ more) next
plain_stands next first more plain after =
    stands (first ∷ more) next stages.Plain after.1
    (record { first = first; more = more; rows_are = refl; plain = plain; numbers = after.0 })

start_line : (s : OrderState) (row : Row) → s.numbers ≡ [] →
    Follows (order_format.line_tests [] row) (Stands (row ∷ [])) (start_step s row)
start_line s row none =
    either (is_report (row ∷ [])) (report_tests [] row) (plain_tests [] row) (Stands (row ∷ [])) _ _
    (λ begins. tested-follows (peak_tests row) (record s { stage = stages.Count }) (Stands (row ∷ []))
    (λ _. (record { peak = row; rows_are = refl; report = begins; numbers = none }, refl)))
    (λ plain. Follows-weaker (plain_tests [] row) (λ next. IsPlainAfter next (tokens_of_rows (row ∷ []))) (Stands (row ∷ [])) _
    (λ next after. plain_stands next row [] plain after) (plain_follows (record s { stage = stages.Plain }) [] row (none, refl)))

plain_line : (s : OrderState) (first : Row) (more : List Row) (row : Row) → is_report (first ∷ []) ≡ false
    → IsPlainAfter s (tokens_of_rows (first ∷ more)) →
    Follows (order_format.line_tests (first ∷ more) row) (Stands (first ∷ more ++ row ∷ [])) (numbers_step s row)
plain_line s first more row plain after =
    other (is_report (first ∷ [])) (report_tests (first ∷ more) row) (plain_tests (first ∷ more) row)
    (Stands (first ∷ more ++ row ∷ [])) _ plain
    (Follows-weaker (plain_tests (first ∷ more) row) (λ next. IsPlainAfter next (tokens_of_rows (first ∷ more ++ row ∷ [])))
    (Stands (first ∷ more ++ row ∷ [])) _
    (λ next here. plain_stands next first (more ++ row ∷ []) plain here) (plain_follows s (first ∷ more) row after))

count_line : (s : OrderState) (peak row : Row) → is_report (peak ∷ []) ≡ true → s.numbers ≡ [] →
    Follows (order_format.line_tests (peak ∷ []) row) (Stands (peak ∷ row ∷ [])) (staged_order stages.Count s row)
count_line s peak row begins none =
    chosen (is_report (peak ∷ [])) (report_tests (peak ∷ []) row) (plain_tests (peak ∷ []) row) (Stands (peak ∷ row ∷ [])) _ begins
    (tested-follows (count_tests row) (record s { stage = stages.Listed; count = count_on row }) (Stands (peak ∷ row ∷ []))
    (λ _. (
      record {
        peak = peak;
        order = row;
        body = [];
        rows_are = refl;
        report = begins;
        count = refl;
        numbers = none;
        few = omega (arith, ap length none);
      },
      refl,
    )))

-- a line `end` is one token
one_word : (tokens : List (List ℕ)) (word : List ℕ) → pointwise bytes_eq tokens (word ∷ []) ≡ true → length tokens ≡ 1
one_word [] word is = absurd cc
one_word (token ∷ []) word is = refl
one_word (token ∷ second ∷ tokens) word is = absurd (let both = and_parts (bytes_eq token word) _ is in let none = both.1 in cc)

-- a report up to its numbers, and the reader that took it
module _ (s : OrderState) (peak order : Row) (body : List Row) (row : Row) (begins : is_report (peak ∷ []) ≡ true)
    (count_is : s.count ≡ count_on order) where
  abbrev rows : List Row
  rows = peak ∷ order ∷ body

  abbrev rows_after : List Row
  rows_after = peak ∷ order ∷ body ++ row ∷ []

  listed_stands : (next : OrderState) → IsListedAfter (count_on order) next (tokens_of_rows (body ++ row ∷ [])) → Stands rows_after next
  listed_stands next after = stands rows_after next stages.Listed after.1 (record {
    peak = peak;
    order = order;
    body = body ++ row ∷ [];
    rows_are = refl;
    report = begins;
    count = after.2;
    numbers = after.0;
    few = omega (arith, after.2, after.3);
  })

  end_stands : s.numbers ≡ map value_of (tokens_of_rows body) → is_end row ≡ true
      → length (tokens_of_rows body) ≡ count_on order → Stands rows_after (record s { stage = stages.Ended })
  end_stands numbers end whole =
      let one = one_word row.tokens (codes "end") end in
      let tokens = tokens-push body row in
      let split : map value_of (tokens_of_rows (body ++ row ∷ [])) ≡ s.numbers ++ map value_of row.tokens =
      ap (map value_of) tokens ∙ map-append value_of (tokens_of_rows body) row.tokens
      ∙ ap (λ (ns : List ℕ). ns ++ map value_of row.tokens) (sym numbers) in
      let full : s.count ≡ length s.numbers = count_is ∙ sym whole ∙ sym (as_long s (tokens_of_rows body) numbers) in (
        record {
          peak = peak;
          order = order;
          body = body ++ row ∷ [];
          rows_are = refl;
          report = begins;
          count = count_is;
          numbers = sym (ap (take s.count) split ∙ ap (λ (k : ℕ). take k (s.numbers ++ map value_of row.tokens)) full
              ∙ take-append_seam s.numbers (map value_of row.tokens));
          long = omega (arith, ap length tokens, length-append (tokens_of_rows body) row.tokens, one, whole, count_is);
        },
        refl,
      )

  list_line : s.stage ≡ stages.Listed → s.numbers ≡ map value_of (tokens_of_rows body) → length s.numbers ≤ s.count
      → Follows (order_format.line_tests rows row) (Stands rows_after) (list_step s row)
  list_line stage numbers few =
      let count = count_on order in
      let taken = tokens_of_rows body in
      let long = as_long s taken numbers in
      let ends : List (Test OrderFileKind) = test (eqb (length taken) count) (fault Count row) ∷ [] in
      let more : List (Test OrderFileKind) =
      tests_of_all (λ earlier token. listed_tests count row.number (length earlier) token) taken row.tokens in
      chosen (is_report (peak ∷ [])) (report_tests rows row) (plain_tests rows row) (Stands rows_after) _ begins
      (chosen (leb (length taken) count) (list_tests count body row) _ (Stands rows_after) _
      (le-leb (length taken) count (omega (arith, few, long, count_is)))
      (either (is_end row) ends more (Stands rows_after) _ _
      (λ end. same_tests ends (test (eqb (length s.numbers) s.count) (fault Count row) ∷ []) (record s { stage = stages.Ended })
      (Stands rows_after) (ap (λ (k : ℕ). test (eqb k s.count) (fault Count row) ∷ []) long
      ∙ ap (λ (k : ℕ). test (eqb (length taken) k) (fault Count row) ∷ []) count_is)
      (λ none. end_stands numbers end (eqb-true (length taken) count (passes _ _ _ none).0)))
      (λ _. Follows-weaker more (λ next. IsListedAfter count next (tokens_of_rows (body ++ row ∷ []))) (Stands rows_after) _ listed_stands
      (tokens_follow (λ earlier token. listed_tests count row.number (length earlier) token) (IsListedAfter count)
      (listed_step row.number) (listed_follows count row.number) s body row
      (numbers, stage, count_is, omega (arith, few, count_is))))))

  ended_line : length (tokens_of_rows body) ≡ s.count + 1
      → Follows (order_format.line_tests rows row) (Stands rows_after) (staged_order stages.Ended s row)
  ended_line long =
      let count = count_on order in
      let taken = tokens_of_rows body in
      let further : List (Test OrderFileKind) = test false (fault Count row) ∷ [] in
      let step : Result OrderState (Refusal OrderFileKind) = Err (fault Count row) in
      chosen (is_report (peak ∷ [])) (report_tests rows row) (plain_tests rows row) (Stands rows_after) step begins
      (other (leb (length taken) count) (list_tests count body row) further (Stands rows_after) step
      (lt-leb (length taken) count (omega (arith, long, count_is))) refl)

-- a line after lines that the reader took
staged_follows : (stage : OrderStage) (s : OrderState) (before : List Row) (row : Row) → s.stage ≡ stage → staged_took stage s before →
    Follows (order_format.line_tests before row) (Stands (before ++ row ∷ [])) (staged_order stage s row)
staged_follows stages.Start s before row is t =
    subst (λ (rows : List Row). Follows (order_format.line_tests rows row) (Stands (rows ++ row ∷ [])) (start_step s row)) (sym t.0)
    (start_line s row t.1)
staged_follows stages.Plain s before row is t =
    subst (λ (rows : List Row). Follows (order_format.line_tests rows row) (Stands (rows ++ row ∷ [])) (numbers_step s row))
    (sym t.rows_are)
    (plain_line s t.first t.more row t.plain (t.numbers ∙ ap (λ (rows : List Row). map value_of (tokens_of_rows rows)) t.rows_are, is))
staged_follows stages.Count s before row is t =
    subst (λ (rows : List Row). Follows (order_format.line_tests rows row) (Stands (rows ++ row ∷ [])) (staged_order stages.Count s row))
    (sym t.rows_are) (count_line s t.peak row t.report t.numbers)
staged_follows stages.Listed s before row is t =
    subst (λ (rows : List Row). Follows (order_format.line_tests rows row) (Stands (rows ++ row ∷ [])) (list_step s row)) (sym t.rows_are)
    (list_line s t.peak t.order t.body row t.report t.count is t.numbers t.few)
staged_follows stages.Ended s before row is t =
    subst (λ (rows : List Row). Follows (order_format.line_tests rows row) (Stands (rows ++ row ∷ [])) (staged_order stages.Ended s row))
    (sym t.rows_are) (ended_line s t.peak t.order t.body row t.report t.count t.long)

pub order_follows : (s : OrderState) (before : List Row) (row : Row) → took_order s before → ArePassed order_format before →
    Follows (order_format.line_tests before row)
    (λ next. took_order next (before ++ row ∷ []) × (order_format ≡ order_format)) (order_step s row)
unfolding order_step
order_follows s before row taken passed = staged_follows s.stage s before row refl taken

-- ---- order files: the end

-- the tests of the end, of lines that begin with this one
abbrev last_tests : Row → List Row → ℕ → List (Test OrderFileKind)
last_tests first rows past = test (is_ended (first ∷ rows)) (fault_at past NoEnd) ∷ []

staged_end : (stage : OrderStage) (s : OrderState) (rows : List Row) (past : ℕ) → took_order s rows → staged_took stage s rows →
    Follows (order_format.end_tests rows past) (λ next. took_order next rows) (cond (may_end stage) (Ok s) (Err (fault_at past NoEnd)))
staged_end stages.Start s rows past here t = (ap (λ (rs : List Row). first_failure (order_format.end_tests rs past)) t.0, here)
staged_end stages.Plain s rows past here t = (
  ap (λ (rs : List Row). first_failure (order_format.end_tests rs past)) t.rows_are
      ∙ ap (λ (b : Bool). first_failure (cond b (last_tests t.first t.more past) [])) t.plain,
  here,
)
staged_end stages.Count s rows past here t =
    ap (λ (rs : List Row). first_failure (order_format.end_tests rs past)) t.rows_are
    ∙ ap (λ (b : Bool). first_failure (cond b (last_tests t.peak [] past) [])) t.report
staged_end stages.Listed s rows past here t =
    let short : eqb (length (tokens_of_rows t.body)) (count_on t.order + 1) ≡ false =
    ne_eqb _ _ (λ e. absurd (omega (arith, e, as_long s (tokens_of_rows t.body) t.numbers, t.few, t.count))) in
    ap (λ (rs : List Row). first_failure (order_format.end_tests rs past)) t.rows_are
    ∙ ap (λ (b : Bool). first_failure (cond b (last_tests t.peak (t.order ∷ t.body) past) [])) t.report
    ∙ ap (λ (b : Bool). first_failure (test b (fault_at past NoEnd) ∷ [])) short
staged_end stages.Ended s rows past here t =
    let whole : eqb (length (tokens_of_rows t.body)) (count_on t.order + 1) ≡ true = eq-eqb _ _ (omega (arith, t.long, t.count)) in (
      ap (λ (rs : List Row). first_failure (order_format.end_tests rs past)) t.rows_are
          ∙ ap (λ (b : Bool). first_failure (cond b (last_tests t.peak (t.order ∷ t.body) past) [])) t.report
          ∙ ap (λ (b : Bool). first_failure (test b (fault_at past NoEnd) ∷ [])) whole,
      here,
    )

pub order_end_follows : (s : OrderState) (rows : List Row) (past : ℕ) → took_order s rows → ArePassed order_format rows →
    Follows (order_format.end_tests rows past) (λ next. took_order next rows) (order_end s past)
unfolding order_end
order_end_follows s rows past taken passed = staged_end s.stage s rows past taken taken

-- ---- order files: what the reader has of them

staged_numbers : (stage : OrderStage) (s : OrderState) (rows : List Row) → staged_took stage s rows → s.numbers ≡ tasks_stated rows
staged_numbers stages.Start s rows t = t.1 ∙ sym (ap tasks_stated t.0)
staged_numbers stages.Plain s rows t =
    let plain : is_report rows ≡ false = ap is_report t.rows_are ∙ t.plain in
    t.numbers ∙ sym (ap (λ (b : Bool). cond b (numbers_listed rows) (numbers_stated rows)) plain)
staged_numbers stages.Count s rows t =
    t.numbers ∙ sym (ap tasks_stated t.rows_are ∙ ap (λ (b : Bool). cond b [] (numbers_stated (t.peak ∷ []))) t.report)
staged_numbers stages.Listed s rows t =
    let stated = map value_of (tokens_of_rows t.body) in
    let all : take (count_on t.order) stated ≡ stated =
    take_all (count_on t.order) stated (omega (arith, ap length t.numbers, t.few, t.count)) in
    t.numbers ∙ sym (ap tasks_stated t.rows_are
    ∙ ap (λ (b : Bool). cond b (take (count_on t.order) stated) (numbers_stated (t.peak ∷ t.order ∷ t.body))) t.report ∙ all)
staged_numbers stages.Ended s rows t =
    let stated = map value_of (tokens_of_rows t.body) in
    t.numbers ∙ ap (λ (k : ℕ). take k stated) t.count ∙ sym (ap tasks_stated t.rows_are
    ∙ ap (λ (b : Bool). cond b (take (count_on t.order) stated) (numbers_stated (t.peak ∷ t.order ∷ t.body))) t.report)

pub order_numbers : (s : OrderState) (rows : List Row) → took_order s rows → s.numbers ≡ tasks_stated rows
order_numbers s rows taken = staged_numbers s.stage s rows taken

-- ---- permutation files, and those of places

-- the reader of n numbers from a base on stands after these tokens
abbrev IsPermAfter : ℕ → ℕ → PermState → List (List ℕ) → Type 0
IsPermAfter base n s tokens = (s.numbers ≡ map (counted base) tokens) × (s.n ≡ n)

vertex_follows : (base n line : ℕ) (s : PermState) (before : List (List ℕ)) (token : List ℕ) → IsPermAfter base n s before →
    Follows (perm_token_tests base n line (map (counted base) before) token)
    (λ next. IsPermAfter base n next (before ++ token ∷ [])) (vertex_step base line s token)
unfolding vertex_step
vertex_follows base n line s before token after =
    rw (after.1, after.0)
    (tested-follows (perm_token_tests base n line (map (counted base) before) token)
    (record { n = n; numbers = map (counted base) before ++ counted base token ∷ [] })
    (λ next. IsPermAfter base n next (before ++ token ∷ [])) (λ _. (sym (map_push (counted base) before token), refl)))

pub perm_follows : (base : ℕ) (s : PermState) (before : List Row) (row : Row) → took_perm base s before
    → ArePassed (numbering_format base s.n) before → Follows ((numbering_format base s.n).line_tests before row)
    (λ next. took_perm base next (before ++ row ∷ []) × (numbering_format base next.n ≡ numbering_format base s.n)) (perm_step base s row)
perm_follows base s before row stated passed =
    Follows-weaker ((numbering_format base s.n).line_tests before row)
    (λ next. IsPermAfter base s.n next (tokens_of_rows (before ++ row ∷ [])))
    (λ next. took_perm base next (before ++ row ∷ []) × (numbering_format base next.n ≡ numbering_format base s.n)) (perm_step base s row)
    (λ next here. (here.0, ap (numbering_format base) here.1))
    (tokens_follow (λ earlier token. perm_token_tests base s.n row.number (map (counted base) earlier) token)
    (IsPermAfter base s.n) (vertex_step base row.number) (vertex_follows base s.n row.number) s before row (stated, refl))

pub perm_end_follows : (base : ℕ) (s : PermState) (rows : List Row) (past : ℕ) → took_perm base s rows
    → ArePassed (numbering_format base s.n) rows →
    Follows ((numbering_format base s.n).end_tests rows past) (λ next. took_perm base next rows) (perm_end s past)
perm_end_follows base s rows past stated passed =
    rw (← ap length stated ∙ length-map (tokens_of_rows rows) (counted base))
    (tested-follows (perm_count_tests s.n (length s.numbers) past) s (λ next. took_perm base next rows) (λ _. stated))
