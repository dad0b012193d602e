-- What the reader of tree files does with a line, and with the end, is what the tests of the format say.
use Rattle.std.specs.Prelude.{◌≡◌, ◌==◌, ℕ, ◌+◌, ◌<◌, Bool, true, false, nat_lt, List, ◌∷◌, ◌++◌, [], length, drop, refl, Err}
use Rattle.std.proofs.Common.{sym, ap, subst, ◌∙◌, arith, eq-eqb}
use Rattle.std.proofs.lemmas.List.{map_push, length-map, length_push, drop_at, drop_all}
use Rattle.std.proofs.lemmas.List.Sums.{sum_by_push}
use Rattle.std.proofs.lemmas.Bool.{ltb-true, ltb-false, le-ltb, ne_eqb}
use Rattle.mp_text.specs.Text.{Row}
use Rattle.mp_text.specs.Grammar.{Test, ArePassed, fault}
use Rattle.mp_text.specs.Reading.{Follows, tested}
use Rattle.mp_text.specs.ReadingLaws.{tested-follows}
use Rattle.trees.specs.Tree.{node_size}
use Rattle.tree_files.specs.TreeFile.{tree_format, tree_line_tests, tree_end_tests, tree_header_tests, tree_version, node_count_tests}
use Rattle.tree_files.specs.TreeFile.{node_count, node_tests, node_of, total_of, tree_body_tests, is_tree_complete}
use Rattle.tree_files.specs.Reader.{ReaderState, IsFresh, TookNodes, staged_step, staged_end, staged_took}
use Rattle.tree_files.specs.Reader.{body_step, with_node, tree_step, tree_end, took}
use Rattle.tree_files.specs.declared.kind.TreeKind.{TreeKind}
use Rattle.tree_files.specs.declared.kind.TreeKind.TheVariants as kinds
use Rattle.tree_files.specs.declared.stage.Stage.{Stage}
use Rattle.tree_files.specs.declared.stage.Stage.TheVariants as stages
use Rattle.file_frame.specs.Frame.{last_tests}

-- ---- lines

IsNext : (rows : List Row) (next : ReaderState) → Type 0
IsNext rows next = took next rows × (tree_format ≡ tree_format)

at_header : (s : ReaderState) (row : Row) → IsFresh s →
    Follows (tree_header_tests row) (IsNext (row ∷ []))
    (tested (tree_header_tests row) (record s { stage = stages.Count; version = tree_version row }))
unfolding IsNext
at_header s row fresh = tested-follows (tree_header_tests row) _ _ (λ _. (
  record { header = row; rows_are = refl; version = refl; fresh = record { nodes = fresh.nodes; total = fresh.total } },
  refl,
))

at_count : (s : ReaderState) (header row : Row) → s.version ≡ tree_version header → IsFresh s →
    Follows (node_count_tests row) (IsNext (header ∷ row ∷ []))
    (tested (node_count_tests row) (record s { stage = stages.Nodes; count = node_count row }))
unfolding IsNext
at_count s header row version fresh = tested-follows (node_count_tests row) _ _ (λ _. (
  record {
    header = header;
    counted = row;
    node_rows = [];
    rows_are = refl;
    nodes = record { version = version; count = refl; nodes = fresh.nodes; total = fresh.total; within = omega arith };
  },
  refl,
))

-- one node line more
more_nodes : (s : ReaderState) (header counted row : Row) (rows : List Row) → TookNodes s header counted rows
    → length rows < node_count counted →
    TookNodes (with_node s row) header counted (rows ++ row ∷ [])
more_nodes s header counted row rows taken lt = record {
  version = taken.version;
  count = taken.count;
  nodes = rw (taken.version, taken.nodes) (sym (map_push (node_of (tree_version header)) rows row));
  total = rw (taken.version, taken.total) (sym (sum_by_push (λ (r : Row). node_size (node_of (tree_version header) r)) rows row));
  within = omega (arith, length_push rows row);
}

at_node : (s : ReaderState) (header counted row : Row) (rows : List Row) → s.stage ≡ stages.Nodes → TookNodes s header counted rows
    → length rows < node_count counted →
    Follows (node_tests (tree_version header) (node_count counted) (total_of (tree_version header) rows) row)
    (IsNext (header ∷ counted ∷ (rows ++ row ∷ [])))
    (tested (node_tests s.version s.count s.total row) (with_node s row))
unfolding IsNext
at_node s header counted row rows stage taken lt =
    let tests = node_tests (tree_version header) (node_count counted) (total_of (tree_version header) rows) row in
    let same : node_tests s.version s.count s.total row ≡ tests = rw (taken.version, taken.count, taken.total) refl in
    subst (λ (ts : List (Test TreeKind)). Follows tests (IsNext (header ∷ counted ∷ (rows ++ row ∷ []))) (tested ts (with_node s row)))
    (sym same)
    (tested-follows tests (with_node s row) (IsNext (header ∷ counted ∷ (rows ++ row ∷ []))) (λ _. (
      subst (λ (st : Stage). staged_took st (with_node s row) (header ∷ counted ∷ (rows ++ row ∷ []))) (sym stage)
          (record {
            header = header;
            counted = counted;
            node_rows = rows ++ row ∷ [];
            rows_are = refl;
            nodes = more_nodes s header counted row rows taken lt;
          }),
      refl,
    )))

at_last : (s : ReaderState) (header counted row : Row) (rows : List Row) → TookNodes s header counted rows
    → length rows ≡ node_count counted →
    Follows (last_tests kinds.Count row) (IsNext (header ∷ counted ∷ (rows ++ row ∷ [])))
    (tested (last_tests kinds.Count row) (record s { stage = stages.Ended }))
unfolding IsNext
at_last s header counted row rows taken whole = tested-follows (last_tests kinds.Count row) _ _ (λ _. (
  record {
    header = header;
    counted = counted;
    node_rows = rows;
    last = row;
    rows_are = refl;
    nodes = record { version = taken.version; count = taken.count; nodes = taken.nodes; total = taken.total; within = taken.within };
    whole = whole;
  },
  refl,
))

at_body : (s : ReaderState) (header counted row : Row) (rows : List Row) → s.stage ≡ stages.Nodes → TookNodes s header counted rows →
    Follows (tree_body_tests (tree_version header) (node_count counted) rows row) (IsNext (header ∷ counted ∷ (rows ++ row ∷ [])))
    (body_step s row)
at_body s header counted row rows stage taken = go (nat_lt (length rows) (node_count counted)) refl where
  long : length s.nodes ≡ length rows
  long = ap length taken.nodes ∙ length-map rows (node_of (tree_version header))

  same : nat_lt (length s.nodes) s.count ≡ nat_lt (length rows) (node_count counted)
  same = rw (long, taken.count) refl

  go : (b : Bool) → nat_lt (length rows) (node_count counted) ≡ b →
      Follows (tree_body_tests (tree_version header) (node_count counted) rows row) (IsNext (header ∷ counted ∷ (rows ++ row ∷ [])))
      (body_step s row)
  go true e = rw (same, e) (at_node s header counted row rows stage taken (ltb-true _ _ e))
  go false e =
      let whole : length rows ≡ node_count counted = omega (arith, ltb-false (length rows) (node_count counted) e, taken.within) in
      let none_left : drop (node_count counted) rows ≡ [] = drop_all (node_count counted) rows (omega arith) in
      rw (same, e, none_left) (at_last s header counted row rows taken whole)

-- after the last line
at_end : (s : ReaderState) (header counted last row : Row) (rows : List Row) → length rows ≡ node_count counted
    → (P : ReaderState → Type 0) →
    Follows (tree_body_tests (tree_version header) (node_count counted) (rows ++ last ∷ []) row) P (Err (fault kinds.Count row))
at_end s header counted last row rows whole P =
    let past : nat_lt (length (rows ++ last ∷ [])) (node_count counted) ≡ false = le-ltb _ _ (omega (arith, length_push rows last)) in
    rw (past, drop_at rows (last ∷ []) (node_count counted) whole) refl

staged_step_follows : (stage : Stage) (s : ReaderState) (before : List Row) (row : Row) → s.stage ≡ stage → staged_took stage s before →
    Follows (tree_line_tests before row) (IsNext (before ++ row ∷ [])) (staged_step stage s row)
staged_step_follows stages.Header s before row e taken =
    subst (λ (rows : List Row). Follows (tree_line_tests rows row) (IsNext (rows ++ row ∷ [])) (staged_step stages.Header s row))
    (sym taken.0) (at_header s row taken.1)
staged_step_follows stages.Count s before row e taken =
    subst (λ (rows : List Row). Follows (tree_line_tests rows row) (IsNext (rows ++ row ∷ [])) (staged_step stages.Count s row))
    (sym taken.rows_are) (at_count s taken.header row taken.version taken.fresh)
staged_step_follows stages.Nodes s before row e taken =
    subst (λ (rows : List Row). Follows (tree_line_tests rows row) (IsNext (rows ++ row ∷ [])) (staged_step stages.Nodes s row))
    (sym taken.rows_are) (at_body s taken.header taken.counted row taken.node_rows e taken.nodes)
staged_step_follows stages.Ended s before row e taken =
    subst (λ (rows : List Row). Follows (tree_line_tests rows row) (IsNext (rows ++ row ∷ [])) (staged_step stages.Ended s row))
    (sym taken.rows_are)
    (at_end s taken.header taken.counted taken.last row taken.node_rows taken.whole
    (IsNext ((taken.header ∷ taken.counted ∷ (taken.node_rows ++ taken.last ∷ [])) ++ row ∷ [])))

pub step_follows : (s : ReaderState) (before : List Row) (row : Row) → took s before → ArePassed tree_format before →
    Follows (tree_line_tests before row) (λ next. took next (before ++ row ∷ []) × (tree_format ≡ tree_format)) (tree_step s row)
unfolding IsNext tree_step
step_follows s before row taken passed = staged_step_follows s.stage s before row refl taken

-- ---- the end

Ends : List Row → ℕ → Stage → ReaderState → Type 0
Ends rows past stage s = Follows (tree_end_tests rows past) (λ next. took next rows) (staged_end stage s past)

staged_end_follows : (stage : Stage) (s : ReaderState) (rows : List Row) (past : ℕ) → s.stage ≡ stage → staged_took stage s rows
    → Ends rows past stage s
unfolding Ends
staged_end_follows stages.Header s rows past e taken = rw taken.0 refl
staged_end_follows stages.Count s rows past e taken = rw taken.rows_are refl
staged_end_follows stages.Nodes s rows past e taken =
    let missing : (length taken.node_rows == node_count taken.counted + 1) ≡ false =
    ne_eqb _ _ (let w = taken.nodes.within in omega arith) in
    rw (taken.rows_are, missing) refl
staged_end_follows stages.Ended s rows past e taken =
    let all : (length (taken.node_rows ++ taken.last ∷ []) == node_count taken.counted + 1) ≡ true =
    eq-eqb _ _ (let w = taken.whole in omega (arith, length_push taken.node_rows taken.last)) in
    let complete : is_tree_complete rows ≡ true = rw (taken.rows_are, all) refl in
    (rw complete refl, subst (λ (st : Stage). staged_took st s rows) (sym e) taken)

pub end_follows : (s : ReaderState) (rows : List Row) (past : ℕ) → took s rows → ArePassed tree_format rows →
    Follows (tree_end_tests rows past) (λ next. took next rows) (tree_end s past)
unfolding Ends tree_end
end_follows s rows past taken passed = staged_end_follows s.stage s rows past refl taken
