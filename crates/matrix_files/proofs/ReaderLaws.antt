-- What the reader of matrix files does with a line, and with the end, is what the tests of the format say.
use Rattle.std.specs.Prelude.{◌≡◌, ◌==◌, ℕ, List, [], ◌∷◌, ◌++◌, length, refl}
use Rattle.std.proofs.Common.{sym, subst, ◌∙◌, ap}
use Rattle.std.proofs.lemmas.List.{map_push, length-map}
use Rattle.mp_text.specs.Text.{Row}
use Rattle.mp_text.specs.Grammar.{Test, test, ArePassed, fault_at}
use Rattle.mp_text.specs.Reading.{Follows, tested}
use Rattle.mp_text.specs.ReadingLaws.{tested-follows}
use Rattle.matrix_files.specs.MatrixFile.{matrix_format, matrix_line_tests, matrix_end_tests, banner_tests}
use Rattle.matrix_files.specs.MatrixFile.{values_stated, size_tests, size_of, entry_tests, pair_of}
use Rattle.matrix_files.specs.Reader.{MatrixState, TookBanner, TookEntries, staged_step, staged_end}
use Rattle.matrix_files.specs.Reader.{staged_took, matrix_step, matrix_end, took}
use Rattle.matrix_files.specs.declared.kind.MatrixKind.{MatrixKind}
use Rattle.matrix_files.specs.declared.kind.MatrixKind.TheVariants as kinds
use Rattle.matrix_files.specs.declared.stage.Stage.{Stage}
use Rattle.matrix_files.specs.declared.stage.Stage.TheVariants as stages

IsNext : List Row → MatrixState → Type 0
IsNext rows next = took next rows × (matrix_format ≡ matrix_format)

at_banner : (s : MatrixState) (row : Row) → s.pairs ≡ [] → Follows (banner_tests row) (IsNext (row ∷ [])) (staged_step stages.Banner s row)
unfolding IsNext
at_banner s row fresh =
    tested-follows (banner_tests row) _ _ (λ _. (record { banner = row; rows_are = refl; values = refl; pairs = fresh }, refl))

at_size : (s : MatrixState) (rows : List Row) (row : Row) → (t : TookBanner s rows)
    → Follows (size_tests row) (IsNext (t.banner ∷ row ∷ [])) (staged_step stages.Size s row)
unfolding IsNext
at_size s rows row t = tested-follows (size_tests row) _ _ (λ _. (
  record {
    banner = t.banner;
    size = row;
    entry_rows = [];
    rows_are = refl;
    values = t.values;
    order = refl;
    entries = refl;
    pairs = t.pairs;
  },
  refl,
))

-- how many pairs were taken
taken : (s : MatrixState) (rows : List Row) (t : TookEntries s rows) → length s.pairs ≡ length t.entry_rows
taken s rows t = ap length t.pairs ∙ length-map t.entry_rows (pair_of (values_stated t.banner))

at_entry : (s : MatrixState) (rows : List Row) (row : Row) → s.stage ≡ stages.Entries → (t : TookEntries s rows) →
    Follows (entry_tests (values_stated t.banner) (size_of t.size).rows (size_of t.size).entries (length t.entry_rows) row)
    (IsNext (t.banner ∷ t.size ∷ (t.entry_rows ++ row ∷ []))) (staged_step stages.Entries s row)
unfolding IsNext
at_entry s rows row stage t =
    let tests = entry_tests (values_stated t.banner) (size_of t.size).rows (size_of t.size).entries (length t.entry_rows) row in
    let same : entry_tests s.values s.order s.entries (length s.pairs) row ≡ tests =
    rw (t.values, t.order, t.entries, taken s rows t) refl in
    let next = record s { pairs = s.pairs ++ pair_of s.values row ∷ [] } in
    let after = t.banner ∷ t.size ∷ (t.entry_rows ++ row ∷ []) in
    subst (λ (ts : List (Test MatrixKind)). Follows tests (IsNext after) (tested ts next)) (sym same)
    (tested-follows tests next (IsNext after) (λ _. (
      subst (λ (st : Stage). staged_took st next after) (sym stage) (record {
        banner = t.banner;
        size = t.size;
        entry_rows = t.entry_rows ++ row ∷ [];
        rows_are = refl;
        values = t.values;
        order = t.order;
        entries = t.entries;
        pairs = rw (t.values, t.pairs) (sym (map_push (pair_of (values_stated t.banner)) t.entry_rows row));
      }),
      refl,
    )))

staged_step_follows : (stage : Stage) (s : MatrixState) (before : List Row) (row : Row) → s.stage ≡ stage → staged_took stage s before →
    Follows (matrix_line_tests before row) (IsNext (before ++ row ∷ [])) (staged_step stage s row)
staged_step_follows stages.Banner s before row e t =
    subst (λ (rows : List Row). Follows (matrix_line_tests rows row) (IsNext (rows ++ row ∷ [])) (staged_step stages.Banner s row))
    (sym t.0) (at_banner s row t.1)
staged_step_follows stages.Size s before row e t =
    subst (λ (rows : List Row). Follows (matrix_line_tests rows row) (IsNext (rows ++ row ∷ [])) (staged_step stages.Size s row))
    (sym t.rows_are) (at_size s before row t)
staged_step_follows stages.Entries s before row e t =
    subst (λ (rows : List Row). Follows (matrix_line_tests rows row) (IsNext (rows ++ row ∷ [])) (staged_step stages.Entries s row))
    (sym t.rows_are) (at_entry s before row e t)

pub step_follows : (s : MatrixState) (before : List Row) (row : Row) → took s before → ArePassed matrix_format before →
    Follows (matrix_line_tests before row) (λ next. took next (before ++ row ∷ []) × (matrix_format ≡ matrix_format)) (matrix_step s row)
unfolding IsNext matrix_step
step_follows s before row taken passed = staged_step_follows s.stage s before row refl taken

Ends : List Row → ℕ → Stage → MatrixState → Type 0
Ends rows past stage s = Follows (matrix_end_tests rows past) (λ next. took next rows) (staged_end stage s past)

staged_end_follows : (stage : Stage) (s : MatrixState) (rows : List Row) (past : ℕ) → s.stage ≡ stage → staged_took stage s rows
    → Ends rows past stage s
unfolding Ends
staged_end_follows stages.Banner s rows past e t = rw t.0 refl
staged_end_follows stages.Size s rows past e t = rw t.rows_are refl
staged_end_follows stages.Entries s rows past e t =
    let tests : List (Test MatrixKind) = test (length t.entry_rows == (size_of t.size).entries) (fault_at past kinds.TooFew) ∷ [] in
    let same : test (length s.pairs == s.entries) (fault_at past kinds.TooFew) ∷ [] ≡ tests = rw (taken s rows t, t.entries) refl in
    let here : took s rows = subst (λ (st : Stage). staged_took st s rows) (sym e) t in
    let follows : Follows tests (λ next. took next rows) (tested (test (length s.pairs == s.entries) (fault_at past kinds.TooFew) ∷ []) s) =
    subst (λ (ts : List (Test MatrixKind)). Follows tests (λ next. took next rows) (tested ts s)) (sym same)
    (tested-follows tests s (λ next. took next rows) (λ _. here)) in
    subst (λ (r : List Row). Follows (matrix_end_tests r past) (λ next. took next rows) (staged_end stages.Entries s past))
    (sym t.rows_are) follows

pub end_follows : (s : MatrixState) (rows : List Row) (past : ℕ) → took s rows → ArePassed matrix_format rows →
    Follows (matrix_end_tests rows past) (λ next. took next rows) (matrix_end s past)
unfolding Ends matrix_end
end_follows s rows past taken passed = staged_end_follows s.stage s rows past refl taken
