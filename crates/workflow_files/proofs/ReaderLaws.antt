-- What the reader of workflow files does with a line, and with the end, is what the tests of the format say.
use Rattle.std.specs.Prelude.{◌≡◌, ℕ, Bool, true, false, Option, Some, None, List, ◌∷◌, ◌++◌, [], length, refl}
use Rattle.std.specs.List.{sum_by}
use Rattle.std.specs.Option.{option_map}
use Rattle.std.proofs.Common.{sym, subst, ◌∙◌, arith}
use Rattle.std.proofs.lemmas.List.{map_push}
use Rattle.std.proofs.lemmas.List.Folds.{list_any-append}
use Rattle.file_frame.specs.declared.version.Version.{Version}
use Rattle.mp_text.specs.Text.{Row}
use Rattle.mp_text.specs.Grammar.{ArePassed, first_failure}
use Rattle.mp_text.specs.Reading.{Follows, tested, ◌>>=◌}
use Rattle.mp_text.specs.ReadingLaws.{tested-follows, Follows->>=}
use Rattle.sp_terms.specs.declared.builder.PushRefusal.{PushRefusal}
use Rattle.workflow_files.specs.declared.stage.Stage.{Stage}
use Rattle.workflow_files.specs.declared.stage.Stage.TheVariants as stages
use Rattle.sp_terms.specs.declared.position.Position.{Position}
use Rattle.sp_terms.specs.Values.{stack_of, added_tasks}
use Rattle.sp_terms.specs.Builder.{refusal_of, is_short}
use Rattle.workflow_files.specs.WorkflowFile.{workflow_format, workflow_line_tests, workflow_end_tests, workflow_header_tests}
use Rattle.workflow_files.specs.WorkflowFile.{workflow_version, workflow_count_tests, position_of, form_tests, room_tests, position_tests}
use Rattle.workflow_files.specs.WorkflowFile.{workflow_last_tests, workflow_body_tests, begins_end, is_workflow_complete}
use Rattle.workflow_files.specs.Reader.{ReaderState, refusal_at, pushed_or, pushed, body_step, staged_step, workflow_step}
use Rattle.workflow_files.specs.Reader.{staged_end, workflow_end, TookPositions, staged_took, took}

-- ---- the tests of a position

-- a line that passes finds terms enough
line_high : (version : Version) (count height tasks : ℕ) (row : Row)
    → first_failure (form_tests version count height tasks row) ≡ None → is_short height (position_of version row) ≡ false
line_high version count height tasks row none = grind arith

-- the limits and the share of a position are those by which a builder refuses it
room_same : (before : List Position) (p : Position) (line : ℕ) → is_short (length (stack_of before)) p ≡ false
    → first_failure (room_tests before p line) ≡ option_map (refusal_at line) (refusal_of before p)
room_same before p line high = grind arith

-- ---- lines

IsNext : (rows : List Row) (next : ReaderState) → Type 0
IsNext rows next = took next rows × (workflow_format ≡ workflow_format)

at_header : (s : ReaderState) (row : Row) → s.positions ≡ []
    → Follows (workflow_header_tests row) (IsNext (row ∷ [])) (staged_step stages.Header s row)
unfolding IsNext
at_header s row fresh =
    tested-follows (workflow_header_tests row) _ _ (λ _. (record { header = row; rows_are = refl; version = refl; fresh = fresh }, refl))

at_count : (s : ReaderState) (header row : Row) → s.version ≡ workflow_version header → s.positions ≡ []
    → Follows (workflow_count_tests row) (IsNext (header ∷ row ∷ [])) (staged_step stages.Count s row)
unfolding IsNext
at_count s header row version fresh = tested-follows (workflow_count_tests row) _ _ (λ _. (
  record {
    header = header;
    counted = row;
    position_rows = [];
    rows_are = refl;
    taken = record { version = version; count = refl; positions = fresh; unended = refl };
  },
  refl,
))

module _ (s : ReaderState) (header counted row : Row) (rows : List Row)
    (stage : s.stage ≡ stages.Positions) (taken : TookPositions s header counted rows) where
  all : List Row
  all = header ∷ counted ∷ (rows ++ row ∷ [])

  -- one position more
  next_is : begins_end row ≡ false → IsNext all (record s { positions = s.positions ++ position_of s.version row ∷ [] })
  unfolding IsNext all
  next_is more = (
    subst (λ (st : Stage). staged_took st (record s { positions = s.positions ++ position_of s.version row ∷ [] }) all)
        (sym stage) (record {
          header = header;
          counted = counted;
          position_rows = rows ++ row ∷ [];
          rows_are = refl;
          taken = record {
            version = taken.version;
            count = taken.count;
            positions = rw (taken.positions, taken.version) (sym (map_push (position_of (workflow_version header)) rows row));
            unended = list_any-append begins_end rows (row ∷ []) ∙ rw (taken.unended, more) refl;
          };
        }),
    refl,
  )

  pushed_follows : begins_end row ≡ false → is_short (length (stack_of s.positions)) (position_of s.version row) ≡ false
      → Follows (room_tests s.positions (position_of s.version row) row.number)
      (IsNext all) (pushed s row.number (position_of s.version row))
  pushed_follows more high =
      go (refusal_of s.positions (position_of s.version row)) (room_same s.positions (position_of s.version row) row.number high)
    where
      go : (o : Option PushRefusal)
          → first_failure (room_tests s.positions (position_of s.version row) row.number) ≡ option_map (refusal_at row.number) o →
          Follows (room_tests s.positions (position_of s.version row) row.number) (IsNext all)
          (pushed_or o row.number (record s { positions = s.positions ++ position_of s.version row ∷ [] }))
      go None e = (e, next_is more)
      go (Some refusal) e = e

  at_position : begins_end row ≡ false → Follows (position_tests s.version s.count s.positions row) (IsNext all)
      (tested (form_tests s.version s.count (length (stack_of s.positions)) (sum_by added_tasks s.positions) row)
      (position_of s.version row)
      >>= pushed s row.number)
  at_position more =
      let p = position_of s.version row in
      let line = form_tests s.version s.count (length (stack_of s.positions)) (sum_by added_tasks s.positions) row in
      let Passed : Position → Type 0 = λ q. (q ≡ p) × (first_failure line ≡ None) in
      Follows->>= line (room_tests s.positions p row.number) Passed (IsNext all) (tested line p) (pushed s row.number)
      (tested-follows line p Passed (λ none. (refl, none)))
      (λ q here. subst (λ (o : Position). Follows (room_tests s.positions p row.number) (IsNext all) (pushed s row.number o)) (sym here.0)
      (pushed_follows more (line_high s.version s.count (length (stack_of s.positions)) (sum_by added_tasks s.positions) row here.1)))

  at_last : begins_end row ≡ true → let last =
      workflow_last_tests s.count (length (stack_of s.positions)) (sum_by added_tasks s.positions) row in
      Follows last (IsNext all) (tested last (record s { stage = stages.Ended }))
  unfolding IsNext all
  at_last ended =
      tested-follows (workflow_last_tests s.count (length (stack_of s.positions)) (sum_by added_tasks s.positions) row) _ _ (λ none.
      let one : length (stack_of s.positions) ≡ 1 = grind arith in (
        record {
          header = header;
          counted = counted;
          position_rows = rows;
          last = row;
          rows_are = refl;
          taken = record { version = taken.version; count = taken.count; positions = taken.positions; unended = taken.unended };
          ended = ended;
          one = one;
        },
        refl,
      ))

  at_kept : Follows (workflow_body_tests s.version s.count s.positions row) (IsNext all) (body_step s row)
  at_kept = go (begins_end row) refl
    where
      go : (b : Bool) → begins_end row ≡ b → Follows (workflow_body_tests s.version s.count s.positions row) (IsNext all) (body_step s row)
      go true e = rw e (at_last e)
      go false e = rw e (at_position e)

  -- the tests speak of the positions that the lines state, and the reader of those that it keeps
  at_body : Follows (workflow_line_tests (header ∷ counted ∷ rows) row) (IsNext (header ∷ counted ∷ (rows ++ row ∷ []))) (body_step s row)
  unfolding all
  at_body = rw (taken.unended, ← taken.positions, ← taken.version, ← taken.count) at_kept

staged_step_follows : (stage : Stage) (s : ReaderState) (before : List Row) (row : Row) → s.stage ≡ stage → staged_took stage s before →
    Follows (workflow_line_tests before row) (IsNext (before ++ row ∷ [])) (staged_step stage s row)
staged_step_follows stages.Header s before row e taken = rw taken.0 (at_header s row taken.1)
staged_step_follows stages.Count s before row e taken = rw taken.rows_are (at_count s taken.header row taken.version taken.fresh)
staged_step_follows stages.Positions s before row e taken =
    rw taken.rows_are (at_body s taken.header taken.counted row taken.position_rows e taken.taken)
staged_step_follows stages.Ended s before row e taken =
    rw (taken.rows_are, list_any-append begins_end taken.position_rows (taken.last ∷ []), taken.taken.unended, taken.ended) refl

pub step_follows : (s : ReaderState) (before : List Row) (row : Row) → took s before → ArePassed workflow_format before →
    Follows (workflow_line_tests before row)
    (λ next. took next (before ++ row ∷ []) × (workflow_format ≡ workflow_format)) (workflow_step s row)
unfolding IsNext workflow_step
step_follows s before row taken passed = staged_step_follows s.stage s before row refl taken

-- ---- the end

Ends : List Row → ℕ → Stage → ReaderState → Type 0
Ends rows past stage s = Follows (workflow_end_tests rows past) (λ next. took next rows) (staged_end stage s past)

staged_end_follows : (stage : Stage) (s : ReaderState) (rows : List Row) (past : ℕ)
    → s.stage ≡ stage → staged_took stage s rows → Ends rows past stage s
unfolding Ends
staged_end_follows stages.Header s rows past e taken = rw taken.0 refl
staged_end_follows stages.Count s rows past e taken = rw taken.rows_are refl
staged_end_follows stages.Positions s rows past e taken = rw (taken.rows_are, taken.taken.unended) refl
staged_end_follows stages.Ended s rows past e taken =
    let complete : is_workflow_complete rows ≡ true =
    rw (taken.rows_are, list_any-append begins_end taken.position_rows (taken.last ∷ []), taken.taken.unended, taken.ended) refl in
    (rw complete refl, subst (λ (st : Stage). staged_took st s rows) (sym e) taken)

pub end_follows : (s : ReaderState) (rows : List Row) (past : ℕ) → took s rows → ArePassed workflow_format rows →
    Follows (workflow_end_tests rows past) (λ next. took next rows) (workflow_end s past)
unfolding Ends workflow_end
end_follows s rows past taken passed = staged_end_follows s.stage s rows past refl taken
